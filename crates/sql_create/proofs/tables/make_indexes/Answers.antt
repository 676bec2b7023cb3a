use Rattle.sql_create.proofs.CreateLemmas.{entries_index_defined, tellers_index_defined}
use Rattle.sql_create.proofs.GoesLemmas.{made_index, makes_index, makes_then}
use Rattle.sql_create.proofs.tables.make_indexes.Goals as goal

pub returns-clause-goes : goal.returns-clause-goes
returns-clause-goes g c =
    makes_then _ c.define-2.result (made_index entries_index_defined c.in_ok-define.ensures.ran) c.define-2.ensures.frame.survives (makes_index tellers_index_defined c.define-2.result c.define-2.ensures.ran)
