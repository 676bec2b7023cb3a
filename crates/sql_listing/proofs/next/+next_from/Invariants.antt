use Rattle.sql_listing.proofs.LineLemmas.{left_of}
use Rattle.sql_listing.proofs.next.+next_from.Given as goal

abbrev pub decreases-next_from : goal.decreases-next_from
decreases-next_from g l = left_of l.kind
