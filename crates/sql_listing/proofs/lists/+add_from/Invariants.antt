use Rattle.sql_listing.proofs.LineLemmas.{left_of}
use Rattle.sql_listing.proofs.lists.+add_from.Given as goal

abbrev pub decreases-add_from : goal.decreases-add_from
decreases-add_from g l = left_of l.kind
