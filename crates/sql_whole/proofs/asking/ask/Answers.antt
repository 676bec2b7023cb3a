use Rattle.std.proofs.Common.{[], inl, inr, subst, sym}
use Rattle.sqlite.specs.Held.{state}
use Rattle.sqlite.specs.State.{FailsToQuery}
use Rattle.sql_schema.proofs.StepLemmas.{fails_kept, kept_back, kept_same}
use Rattle.sql_whole.specs.Faults.{IsOfDatabase}
use Rattle.sql_whole.proofs.RefusalLemmas.{of_database}
use Rattle.sql_whole.proofs.WholeLemmas.{plain_there}
use Rattle.sql_whole.proofs.asking.ask.Goals as goal

pub returns-clause-whole : goal.returns-clause-whole
returns-clause-whole g c clean has =
    let same = (c.in-Ok.ensures.ok clean).1 in
    (tt, same, kept_same (state g.S.Store c.args.conn.now) (state g.S.Store c.prepare.new.self) same)

pub returns-in-Err-clause-whole : goal.returns-in-Err-clause-whole
unfolding FailsToQuery
returns-in-Err-clause-whole g c clean has =
    let old = state g.S.Store c.args.conn.now in
    let new = state g.S.Store c.prepare.new.self in (
      tt,
      tt,
      elim (fails_kept c.args.sql.now [] old new c.in-Err.error (plain_there c.args.edition c.args.sql.now old c.requires.plain has) (inl (c.in-Err.ensures.err clean []))) [
        | inl same ↦ kept_same old new same
        | inr back ↦ kept_back old new back
      ],
    )

pub returns-in-Err-clause-there : goal.returns-in-Err-clause-there
unfolding FailsToQuery
returns-in-Err-clause-there g c clean has =
    subst IsOfDatabase (sym c.read_fault.ensures)
    (of_database c.args.edition c.args.sql.now c.requires c.args.table (state g.S.Store c.args.conn.now) (state g.S.Store c.prepare.new.self) c.in-Err.error has.schema
    (inl (c.in-Err.ensures.err clean [])))
