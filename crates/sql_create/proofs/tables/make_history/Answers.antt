use Rattle.sql_create.proofs.CreateLemmas.{lines_defined, proofs_defined, releases_defined}
use Rattle.sql_create.proofs.GoesLemmas.{made, made_then, makes, makes_then}
use Rattle.sql_create.proofs.tables.make_history.Goals as goal

pub returns-clause-goes : goal.returns-clause-goes
returns-clause-goes g c =
    let first = made lines_defined c.in_ok-define.ensures.ran in
    let second = made_then first c.define-2.ensures.frame.survives (made proofs_defined c.in_ok-define-2.ensures.ran) in
    makes_then _ c.define-3.result second c.define-3.ensures.frame.survives (makes releases_defined c.define-3.result c.define-3.ensures.ran)
