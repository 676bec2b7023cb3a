use Rattle.sql_create.proofs.CreateLemmas.{slip_counts_defined, slips_defined}
use Rattle.sql_create.proofs.GoesLemmas.{made, makes, makes_then}
use Rattle.sql_create.proofs.tables.make_slips.Goals as goal

pub returns-clause-goes : goal.returns-clause-goes
returns-clause-goes g c =
    makes_then _ c.define-2.result (made slips_defined c.in_ok-define.ensures.ran) c.define-2.ensures.frame.survives (makes slip_counts_defined c.define-2.result c.define-2.ensures.ran)
