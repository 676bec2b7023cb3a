use Rattle.sqlite.specs.Held.{state}
use Rattle.sql_whole.specs.Faults.{IsOfDatabase}
use Rattle.sql_whole.specs.BookRows.{AreSlipRows}
use Rattle.sql_whole.specs.Tables.{AreSlipCounts, AreSlips}
use Rattle.sql_schema.proofs.StepLemmas.{handed_on}
use Rattle.sql_whole.proofs.ReadsLemmas.{done_open, done_whole, gave_open, gave_whole, readable_then}
use Rattle.sql_whole.proofs.book_rows.slip_rows.Goals as goal

pub returns-in_err-counts-clause-whole : goal.returns-in_err-counts-clause-whole
returns-in_err-counts-clause-whole g c is_open =
    let s0 = state g.S.Store c.args.conn.now in
    let s1 = state g.S.Store c.all_slips.new.conn in
    let s2 = state g.S.Store c.all_slip_counts.new.conn in
    gave_whole c.args.edition s0 s2 (AreSlipRows c.args.edition c.args.users.now) c.from_residual-in_err-counts.result c.from_residual-in_err-counts.ensures.0
    (gave_open c.args.edition s0 s1 s2 (λ db. AreSlips c.args.edition db c.in_ok-slips.slips.items) c.all_slip_counts.ensures.survives (c.in_ok-slips.ensures.whole is_open) (λ there clean has. (c.in_err-counts.ensures.whole there clean has).2))

pub returns-clause-whole : goal.returns-clause-whole
returns-clause-whole g c is_open =
    let s0 = state g.S.Store c.args.conn.now in
    let s1 = state g.S.Store c.all_slips.new.conn in
    let s2 = state g.S.Store c.all_slip_counts.new.conn in
    done_whole c.args.edition s0 s2 (λ db. AreSlips c.args.edition db c.in_ok-slips.slips.items × AreSlipCounts c.args.edition c.args.users.now db c.in_ok-counts.counts.items) (λ db. AreSlipRows c.args.edition c.args.users.now db (record { slips = c.in_ok-slips.slips; counts = c.in_ok-counts.counts })) (λ db h. record { slips = h.0; counts = h.1 })
    (done_open c.args.edition s0 s1 s2 (λ db. AreSlips c.args.edition db c.in_ok-slips.slips.items) c.all_slip_counts.ensures.survives (c.in_ok-slips.ensures.whole is_open) (λ db. AreSlipCounts c.args.edition c.args.users.now db c.in_ok-counts.counts.items) c.in_ok-counts.ensures.whole)

pub returns-in_err-counts-clause-takes : goal.returns-in_err-counts-clause-takes
returns-in_err-counts-clause-takes g c is_open clean has s holds readable =
    let s0 = state g.S.Store c.args.conn.now in
    let s1 = state g.S.Store c.all_slips.new.conn in
    let s2 = state g.S.Store c.all_slip_counts.new.conn in
    let fault = c.in_err-counts.field-0.0 in
    handed_on c.from_residual-in_err-counts.result fault IsOfDatabase c.from_residual-in_err-counts.ensures.1
    (readable_then c.args.edition s0 s1 s2 (λ db. AreSlips c.args.edition db c.in_ok-slips.slips.items) (IsOfDatabase fault) c.all_slip_counts.ensures.survives (c.in_ok-slips.ensures.whole is_open) c.in_err-counts.ensures.takes clean has s holds readable)

pub returns-clause-typed : goal.returns-clause-typed
returns-clause-typed g c typed = record { slips = c.in_ok-slips.ensures.typed; counts = c.in_ok-counts.ensures.typed typed }
