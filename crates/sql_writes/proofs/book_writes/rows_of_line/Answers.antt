use Rattle.sqlite.specs.Held.{state}
use Rattle.sql_schema.proofs.StepLemmas.{early}
use Rattle.sql_schema.proofs.StepChains.{answered, stopped, then_step}
use Rattle.sql_writes.proofs.book_writes.rows_of_line.Goals as goal

pub returns-in_err-teller-clause-step : goal.returns-in_err-teller-clause-step
returns-in_err-teller-clause-step g c = stopped c.from_residual.ensures.0 c.teller_row.ensures.step

pub returns-in_err-branch-clause-step : goal.returns-in_err-branch-clause-step
returns-in_err-branch-clause-step g c = stopped c.from_residual-in_err-branch.ensures.0 (then_step c.in_ok-teller.ensures.step c.branch_row.ensures.step)

pub returns-clause-stated : goal.returns-clause-stated
returns-clause-stated g c clean inside s holds =
    let s0 = state g.S.Store c.args.tx.now.conn.now in
    let s1 = state g.S.Store c.teller_row.new.tx.conn.now in
    let s2 = state g.S.Store c.branch_row.new.tx.conn.now in
    let clean1 = early s1 s2 _ c.branch_row.ensures.step.survives clean in
    let x1 = c.in_ok-teller.ensures.step.steps clean1 inside s holds in
    record { teller = c.in_ok-teller.ensures.stated clean1 inside s holds; branch = c.in_ok-branch.ensures.stated clean x1.0.0 s x1.0.1 }

pub returns-clause-step : goal.returns-clause-step
returns-clause-step g c = answered (then_step c.in_ok-teller.ensures.step c.in_ok-branch.ensures.step) _
