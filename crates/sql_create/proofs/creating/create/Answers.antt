use Rattle.std.proofs.Common.{subst, sym}
use Rattle.sqlite.specs.Held.{state}
use Rattle.sqlite.specs.State.{HasCleanDisk}
use Rattle.sql_create.specs.Made.{IsKeptAs}
use Rattle.sql_create.proofs.MakingLemmas.{kept_as}
use Rattle.sql_create.proofs.creating.create.Goals as goal

pub returns-in-Ok-clause-kept : goal.returns-in-Ok-clause-kept
returns-in-Ok-clause-kept g c clean =
    let was_clean = subst (λ conn. HasCleanDisk (state g.S.Store conn)) c.over.ensures.connection clean in
    subst (λ conn. IsKeptAs (state g.S.Store conn) c.args.world.now) (sym c.over.ensures.connection)
    (kept_as (state g.S.Store c.make_bank.new.conn) c.args.world.now (c.in-Ok.ensures.made was_clean)
    (λ trees may. g.met.S.Store.settled c.make_bank.new.conn.store trees (c.in-Ok.ensures.open was_clean) may))
