use Rattle.sql_upgrade.proofs.DropLemmas.{entries_removed, accounts_removed, tellers_removed, branches_removed}
use Rattle.sql_upgrade.proofs.ProceedsLemmas.{taken, taken_then, takes, takes_then}
use Rattle.sql_upgrade.proofs.dropping.drop_books.Goals as goal

pub returns-clause-proceeds : goal.returns-clause-proceeds
returns-clause-proceeds g c e =
    let first = taken (entries_removed e) c.in_ok-define.ensures.ran c.in_ok-define.ensures.open in
    let second = taken_then first c.define-2.ensures.frame.survives (taken (accounts_removed e) c.in_ok-define-2.ensures.ran c.in_ok-define-2.ensures.open) in
    let third = taken_then second c.define-3.ensures.frame.survives (taken (tellers_removed e) c.in_ok-define-3.ensures.ran c.in_ok-define-3.ensures.open) in
    takes_then _ c.define-4.result third c.define-4.ensures.frame.survives (takes (branches_removed e) c.define-4.result c.define-4.ensures.ran c.define-4.ensures.open)
