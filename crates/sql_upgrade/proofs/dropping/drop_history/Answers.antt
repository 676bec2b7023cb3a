use Rattle.sql_upgrade.proofs.DropLemmas.{releases_removed, proofs_removed, lines_removed}
use Rattle.sql_upgrade.proofs.ProceedsLemmas.{taken, taken_then, takes, takes_then}
use Rattle.sql_upgrade.proofs.dropping.drop_history.Goals as goal

pub returns-clause-proceeds : goal.returns-clause-proceeds
returns-clause-proceeds g c e =
    let first = taken (releases_removed e) c.in_ok-define.ensures.ran c.in_ok-define.ensures.open in
    let second = taken_then first c.define-2.ensures.frame.survives (taken (proofs_removed e) c.in_ok-define-2.ensures.ran c.in_ok-define-2.ensures.open) in
    takes_then _ c.define-3.result second c.define-3.ensures.frame.survives (takes (lines_removed e) c.define-3.result c.define-3.ensures.ran c.define-3.ensures.open)
