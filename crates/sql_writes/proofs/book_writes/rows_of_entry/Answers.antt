use Rattle.sqlite.specs.Held.{state}
use Rattle.sql_schema.proofs.StepLemmas.{early}
use Rattle.book_kept.specs.Sheets.{sheets_of}
use Rattle.sql_schema.proofs.WorldLemmas.{tables_of, world_of}
use Rattle.sql_schema.proofs.StepChains.{answered, stopped, then_step}
use Rattle.sql_writes.proofs.book_writes.rows_of_entry.Goals as goal

pub returns-in_err-account-clause-step : goal.returns-in_err-account-clause-step
returns-in_err-account-clause-step g c = stopped c.from_residual.ensures.0 c.known_account.ensures.step

pub returns-in_err-teller-clause-step : goal.returns-in_err-teller-clause-step
returns-in_err-teller-clause-step g c = stopped c.from_residual-in_err-teller.ensures.0 (then_step c.in_ok-account.ensures.step c.known_teller.ensures.step)

pub returns-in_err-branch-clause-step : goal.returns-in_err-branch-clause-step
returns-in_err-branch-clause-step g c = stopped c.from_residual-in_err-branch.ensures.0 (then_step (then_step c.in_ok-account.ensures.step c.in_ok-teller.ensures.step) c.known_branch.ensures.step)

pub returns-clause-stated : goal.returns-clause-stated
returns-clause-stated g c clean inside w holds known =
    let s0 = state g.S.Store c.args.tx.now.conn.now in
    let s1 = state g.S.Store c.known_account.new.tx.conn.now in
    let s2 = state g.S.Store c.known_teller.new.tx.conn.now in
    let s3 = state g.S.Store c.known_branch.new.tx.conn.now in
    let can = holds.world.keepable in
    let clean2 = early s2 s3 _ c.known_branch.ensures.step.survives clean in
    let clean1 = early s1 s2 _ c.known_teller.ensures.step.survives clean2 in
    let x1 = c.in_ok-account.ensures.step.steps clean1 inside (sheets_of w) (tables_of s0.now w holds) in
    let x2 = c.in_ok-teller.ensures.step.steps clean2 x1.0.0 _ x1.0.1 in
    record {
      account = c.in_ok-account.ensures.stated clean1 inside w holds known;
      teller = c.in_ok-teller.ensures.stated clean2 x1.0.0 w (world_of s1.now w can x1.0.1) known;
      branch = c.in_ok-branch.ensures.stated clean x2.0.0 w (world_of s2.now w can x2.0.1) known;
    }

pub returns-clause-step : goal.returns-clause-step
returns-clause-step g c = answered (then_step (then_step c.in_ok-account.ensures.step c.in_ok-teller.ensures.step) c.in_ok-branch.ensures.step) _
