use Rattle.sql_books.proofs.TellerLemmas.{roster_is, selects_roster}
use Rattle.sql_books.proofs.tellers.roster.Goals as goal

pub listed-requires : goal.listed-requires
listed-requires g c = roster_is.2

pub returns-clause-found : goal.returns-clause-found
returns-clause-found g c clean s holds =
    c.listed.ensures.found clean _ (λ _ _. tt) (λ rows shown. selects_roster _ _ s c.args.branch rows holds (rw c.params-to_sql.ensures at shown))
