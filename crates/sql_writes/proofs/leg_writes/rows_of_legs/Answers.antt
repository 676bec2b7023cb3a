use Rattle.sqlite.specs.Held.{state}
use Rattle.sql_schema.proofs.StepLemmas.{early}
use Rattle.book_kept.specs.Sheets.{sheets_of}
use Rattle.sql_schema.proofs.WorldLemmas.{tables_of, world_of}
use Rattle.sql_schema.proofs.StepChains.{answered, stopped, then_step}
use Rattle.sql_writes.proofs.leg_writes.rows_of_legs.Goals as goal

pub returns-in_err-named-clause-step : goal.returns-in_err-named-clause-step
returns-in_err-named-clause-step g c = stopped c.from_residual.ensures.0 c.rows_of_entry.ensures.step

pub returns-in_err-target-clause-step : goal.returns-in_err-target-clause-step
returns-in_err-target-clause-step g c = stopped c.from_residual-in_err-target.ensures.0 (then_step c.in_ok-named.ensures.step c.known_account.ensures.step)

pub returns-clause-stated : goal.returns-clause-stated
returns-clause-stated g c clean inside w holds known =
    let s0 = state g.S.Store c.args.tx.now.conn.now in
    let s1 = state g.S.Store c.rows_of_entry.new.tx.conn.now in
    let s2 = state g.S.Store c.known_account.new.tx.conn.now in
    let clean1 = early s1 s2 _ c.known_account.ensures.step.survives clean in
    let x1 = c.in_ok-named.ensures.step.steps clean1 inside (sheets_of w) (tables_of s0.now w holds) in
    record { first = c.in_ok-named.ensures.stated clean1 inside w holds known; second = c.in_ok-target.ensures.stated clean x1.0.0 w (world_of s1.now w holds.world.keepable x1.0.1) known }

pub returns-clause-step : goal.returns-clause-step
returns-clause-step g c = answered (then_step c.in_ok-named.ensures.step c.in_ok-target.ensures.step) _
