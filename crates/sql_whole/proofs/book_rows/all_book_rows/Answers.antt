use Rattle.std.proofs.Common.{IsTrue, subst, sym}
use Rattle.sqlite.specs.Held.{state}
use Rattle.sql_schema.specs.Readable.{IsReadableUser}
use Rattle.sql_whole.specs.Faults.{IsOfDatabase}
use Rattle.sql_whole.specs.Typed.{Each}
use Rattle.sql_whole.specs.BookRows.{AreBookRows, AreHistoryRows, AreLedgerRows, AreSlipRows, AreUserRows}
use Rattle.sql_schema.proofs.StepLemmas.{handed_on}
use Rattle.sql_whole.proofs.ReadsLemmas.{Done, done_open, done_then, done_whole, gave_open, gave_then, gave_whole, readable_open, readable_then}
use Rattle.sql_whole.proofs.book_rows.all_book_rows.Goals as goal

pub returns-in_err-history-clause-whole : goal.returns-in_err-history-clause-whole
returns-in_err-history-clause-whole g c =
    let s0 = state g.S.Store c.args.conn.now in
    let s1 = state g.S.Store c.ledger_rows.new.conn in
    let s2 = state g.S.Store c.history_rows.new.conn in
    gave_whole c.args.edition s0 s2 (AreBookRows c.args.edition) c.from_residual-in_err-history.result c.from_residual-in_err-history.ensures.0
    (gave_then c.args.edition s0 s1 s2 (λ db. AreLedgerRows db c.in_ok-ledger.ledger) c.history_rows.ensures.survives c.in_ok-ledger.ensures.whole (λ clean has. (c.in_err-history.ensures.whole clean has).2))

pub returns-in_err-users-clause-whole : goal.returns-in_err-users-clause-whole
returns-in_err-users-clause-whole g c =
    let s0 = state g.S.Store c.args.conn.now in
    let s1 = state g.S.Store c.ledger_rows.new.conn in
    let s2 = state g.S.Store c.history_rows.new.conn in
    let s3 = state g.S.Store c.user_rows.new.conn in
    gave_whole c.args.edition s0 s3 (AreBookRows c.args.edition) c.from_residual-in_err-users.result c.from_residual-in_err-users.ensures.0
    (gave_then c.args.edition s0 s2 s3 (λ db. AreLedgerRows db c.in_ok-ledger.ledger × AreHistoryRows db c.in_ok-history.history) c.user_rows.ensures.survives (done_then c.args.edition s0 s1 s2 (λ db. AreLedgerRows db c.in_ok-ledger.ledger) (λ db. AreHistoryRows db c.in_ok-history.history) c.history_rows.ensures.survives c.in_ok-ledger.ensures.whole c.in_ok-history.ensures.whole) (λ clean has. (c.in_err-users.ensures.whole clean has).2))

pub returns-in_err-slips-clause-whole : goal.returns-in_err-slips-clause-whole
returns-in_err-slips-clause-whole g c =
    let s0 = state g.S.Store c.args.conn.now in
    let s1 = state g.S.Store c.ledger_rows.new.conn in
    let s2 = state g.S.Store c.history_rows.new.conn in
    let s3 = state g.S.Store c.user_rows.new.conn in
    let s4 = state g.S.Store c.slip_rows.new.conn in
    gave_whole c.args.edition s0 s4 (AreBookRows c.args.edition) c.from_residual-in_err-slips.result c.from_residual-in_err-slips.ensures.0
    (gave_open c.args.edition s0 s3 s4 (λ db. (AreLedgerRows db c.in_ok-ledger.ledger × AreHistoryRows db c.in_ok-history.history) × AreUserRows db c.in_ok-users.users) c.slip_rows.ensures.survives
    (done_then c.args.edition s0 s2 s3 (λ db. AreLedgerRows db c.in_ok-ledger.ledger × AreHistoryRows db c.in_ok-history.history) (λ db. AreUserRows db c.in_ok-users.users) c.user_rows.ensures.survives (done_then c.args.edition s0 s1 s2 (λ db. AreLedgerRows db c.in_ok-ledger.ledger) (λ db. AreHistoryRows db c.in_ok-history.history) c.history_rows.ensures.survives c.in_ok-ledger.ensures.whole c.in_ok-history.ensures.whole) c.in_ok-users.ensures.whole)
    (λ there clean has. (c.in_err-slips.ensures.whole there clean has).2))

pub returns-clause-whole : goal.returns-clause-whole
returns-clause-whole g c =
    let s0 = state g.S.Store c.args.conn.now in
    let s1 = state g.S.Store c.ledger_rows.new.conn in
    let s2 = state g.S.Store c.history_rows.new.conn in
    let s3 = state g.S.Store c.user_rows.new.conn in
    let s4 = state g.S.Store c.slip_rows.new.conn in
    done_whole c.args.edition s0 s4 (λ db. ((AreLedgerRows db c.in_ok-ledger.ledger × AreHistoryRows db c.in_ok-history.history) × AreUserRows db c.in_ok-users.users) × AreSlipRows c.args.edition c.in_ok-users.users.users.items db c.in_ok-slips.slips)
    (λ db. AreBookRows c.args.edition db (record { ledger = c.in_ok-ledger.ledger; history = c.in_ok-history.history; users = c.in_ok-users.users; slips = c.in_ok-slips.slips })) (λ db h. record { ledger = h.0.0.0; history = h.0.0.1; users = h.0.1; slips = h.1 })
    (done_open c.args.edition s0 s3 s4 (λ db. (AreLedgerRows db c.in_ok-ledger.ledger × AreHistoryRows db c.in_ok-history.history) × AreUserRows db c.in_ok-users.users) c.slip_rows.ensures.survives
    (done_then c.args.edition s0 s2 s3 (λ db. AreLedgerRows db c.in_ok-ledger.ledger × AreHistoryRows db c.in_ok-history.history) (λ db. AreUserRows db c.in_ok-users.users) c.user_rows.ensures.survives (done_then c.args.edition s0 s1 s2 (λ db. AreLedgerRows db c.in_ok-ledger.ledger) (λ db. AreHistoryRows db c.in_ok-history.history) c.history_rows.ensures.survives c.in_ok-ledger.ensures.whole c.in_ok-history.ensures.whole) c.in_ok-users.ensures.whole)
    (λ db. AreSlipRows c.args.edition c.in_ok-users.users.users.items db c.in_ok-slips.slips) (subst (λ us. IsTrue s3.is_open → Done c.args.edition s3 s4 (λ db. AreSlipRows c.args.edition us db c.in_ok-slips.slips)) c.deref.ensures.value c.in_ok-slips.ensures.whole))

pub returns-clause-typed : goal.returns-clause-typed
returns-clause-typed g c = record {
  ledger = c.in_ok-ledger.ensures.typed;
  history = c.in_ok-history.ensures.typed;
  users = c.in_ok-users.ensures.typed;
  slips = c.in_ok-slips.ensures.typed (subst (Each IsReadableUser) (sym c.deref.ensures.value) c.in_ok-users.ensures.typed.users);
}

pub returns-in_err-history-clause-takes : goal.returns-in_err-history-clause-takes
returns-in_err-history-clause-takes g c clean has s holds readable =
    let s0 = state g.S.Store c.args.conn.now in
    let s1 = state g.S.Store c.ledger_rows.new.conn in
    let s2 = state g.S.Store c.history_rows.new.conn in
    let fault = c.in_err-history.field-0.0 in
    handed_on c.from_residual-in_err-history.result fault IsOfDatabase c.from_residual-in_err-history.ensures.1
    (readable_then c.args.edition s0 s1 s2 (λ db. AreLedgerRows db c.in_ok-ledger.ledger) (IsOfDatabase fault) c.history_rows.ensures.survives c.in_ok-ledger.ensures.whole c.in_err-history.ensures.takes clean has s holds readable)

pub returns-in_err-users-clause-takes : goal.returns-in_err-users-clause-takes
returns-in_err-users-clause-takes g c clean has s holds readable =
    let s0 = state g.S.Store c.args.conn.now in
    let s1 = state g.S.Store c.ledger_rows.new.conn in
    let s2 = state g.S.Store c.history_rows.new.conn in
    let s3 = state g.S.Store c.user_rows.new.conn in
    let fault = c.in_err-users.field-0.0 in
    handed_on c.from_residual-in_err-users.result fault IsOfDatabase c.from_residual-in_err-users.ensures.1
    (readable_then c.args.edition s0 s2 s3 (λ db. AreLedgerRows db c.in_ok-ledger.ledger × AreHistoryRows db c.in_ok-history.history) (IsOfDatabase fault) c.user_rows.ensures.survives (done_then c.args.edition s0 s1 s2 (λ db. AreLedgerRows db c.in_ok-ledger.ledger) (λ db. AreHistoryRows db c.in_ok-history.history) c.history_rows.ensures.survives c.in_ok-ledger.ensures.whole c.in_ok-history.ensures.whole) c.in_err-users.ensures.takes clean has s holds readable)

pub returns-in_err-slips-clause-takes : goal.returns-in_err-slips-clause-takes
returns-in_err-slips-clause-takes g c clean has s holds readable =
    let s0 = state g.S.Store c.args.conn.now in
    let s1 = state g.S.Store c.ledger_rows.new.conn in
    let s2 = state g.S.Store c.history_rows.new.conn in
    let s3 = state g.S.Store c.user_rows.new.conn in
    let s4 = state g.S.Store c.slip_rows.new.conn in
    let fault = c.in_err-slips.field-0.0 in
    handed_on c.from_residual-in_err-slips.result fault IsOfDatabase c.from_residual-in_err-slips.ensures.1
    (readable_open c.args.edition s0 s3 s4 (λ db. (AreLedgerRows db c.in_ok-ledger.ledger × AreHistoryRows db c.in_ok-history.history) × AreUserRows db c.in_ok-users.users) c.slip_rows.ensures.survives
    (done_then c.args.edition s0 s2 s3 (λ db. AreLedgerRows db c.in_ok-ledger.ledger × AreHistoryRows db c.in_ok-history.history) (λ db. AreUserRows db c.in_ok-users.users) c.user_rows.ensures.survives (done_then c.args.edition s0 s1 s2 (λ db. AreLedgerRows db c.in_ok-ledger.ledger) (λ db. AreHistoryRows db c.in_ok-history.history) c.history_rows.ensures.survives c.in_ok-ledger.ensures.whole c.in_ok-history.ensures.whole) c.in_ok-users.ensures.whole)
    (IsOfDatabase fault) c.in_err-slips.ensures.takes clean has s holds readable)
