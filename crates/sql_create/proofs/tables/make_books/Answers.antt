use Rattle.sql_create.proofs.CreateLemmas.{accounts_defined, branches_defined, entries_defined, tellers_defined}
use Rattle.sql_create.proofs.GoesLemmas.{made, made_then, makes, makes_then}
use Rattle.sql_create.proofs.tables.make_books.Goals as goal

pub returns-clause-goes : goal.returns-clause-goes
returns-clause-goes g c =
    let first = made branches_defined c.in_ok-define.ensures.ran in
    let second = made_then first c.define-2.ensures.frame.survives (made tellers_defined c.in_ok-define-2.ensures.ran) in
    let third = made_then second c.define-3.ensures.frame.survives (made accounts_defined c.in_ok-define-3.ensures.ran) in
    makes_then _ c.define-4.result third c.define-4.ensures.frame.survives (makes entries_defined c.define-4.result c.define-4.ensures.ran)
