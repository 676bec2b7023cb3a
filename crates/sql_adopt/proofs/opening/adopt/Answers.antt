use Rattle.std.proofs.Common.{subst, sym}
use Rattle.sqlite.specs.Held.{state}
use Rattle.sqlite.specs.State.{HasCleanDisk}
use Rattle.sql_schema.specs.Schema.{newest}
use Rattle.sql_adopt.specs.Adopted.{IsLeft}
use Rattle.sql_adopt.proofs.opening.adopt.Goals as goal

pub returns-in-Ok-clause-other : goal.returns-in-Ok-clause-other
returns-in-Ok-clause-other g c clean other =
    let was_clean = subst (λ conn. HasCleanDisk (state g.S.Store conn)) c.over.ensures.connection clean in
    c.in-Ok.ensures.other was_clean other

pub returns-in-Ok-clause-left : goal.returns-in-Ok-clause-left
returns-in-Ok-clause-left g c clean file =
    let was_clean = subst (λ conn. HasCleanDisk (state g.S.Store conn)) c.over.ensures.connection clean in
    subst (λ conn. IsLeft (state g.S.Store c.args.conn) (state g.S.Store conn)) (sym c.over.ensures.connection) (c.in-Ok.ensures.left was_clean newest file)
