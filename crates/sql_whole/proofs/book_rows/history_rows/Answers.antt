use Rattle.sqlite.specs.Held.{state}
use Rattle.sql_whole.specs.Faults.{IsOfDatabase}
use Rattle.sql_whole.specs.BookRows.{AreHistoryRows}
use Rattle.sql_whole.specs.Tables.{AreEntries, AreLines, AreProofs}
use Rattle.sql_schema.proofs.StepLemmas.{handed_on}
use Rattle.sql_whole.proofs.ReadsLemmas.{done_then, done_whole, gave_then, gave_whole, readable_then}
use Rattle.sql_whole.proofs.book_rows.history_rows.Goals as goal

pub returns-in_err-lines-clause-whole : goal.returns-in_err-lines-clause-whole
returns-in_err-lines-clause-whole g c =
    let s0 = state g.S.Store c.args.conn.now in
    let s1 = state g.S.Store c.all_entries.new.conn in
    let s2 = state g.S.Store c.all_lines.new.conn in
    gave_whole c.args.edition s0 s2 AreHistoryRows c.from_residual-in_err-lines.result c.from_residual-in_err-lines.ensures.0
    (gave_then c.args.edition s0 s1 s2 (λ db. AreEntries db c.in_ok-entries.entries.items) c.all_lines.ensures.read_only.survives c.in_ok-entries.ensures.whole (λ clean has. (c.in_err-lines.ensures.whole clean has).2))

pub returns-in_err-proofs-clause-whole : goal.returns-in_err-proofs-clause-whole
returns-in_err-proofs-clause-whole g c =
    let s0 = state g.S.Store c.args.conn.now in
    let s1 = state g.S.Store c.all_entries.new.conn in
    let s2 = state g.S.Store c.all_lines.new.conn in
    let s3 = state g.S.Store c.all_proofs.new.conn in
    gave_whole c.args.edition s0 s3 AreHistoryRows c.from_residual-in_err-proofs.result c.from_residual-in_err-proofs.ensures.0
    (gave_then c.args.edition s0 s2 s3 (λ db. AreEntries db c.in_ok-entries.entries.items × AreLines db c.in_ok-lines.lines.items) c.all_proofs.ensures.read_only.survives (done_then c.args.edition s0 s1 s2 (λ db. AreEntries db c.in_ok-entries.entries.items) (λ db. AreLines db c.in_ok-lines.lines.items) c.all_lines.ensures.read_only.survives c.in_ok-entries.ensures.whole c.in_ok-lines.ensures.whole) (λ clean has. (c.in_err-proofs.ensures.whole clean has).2))

pub returns-clause-whole : goal.returns-clause-whole
returns-clause-whole g c =
    let s0 = state g.S.Store c.args.conn.now in
    let s1 = state g.S.Store c.all_entries.new.conn in
    let s2 = state g.S.Store c.all_lines.new.conn in
    let s3 = state g.S.Store c.all_proofs.new.conn in
    done_whole c.args.edition s0 s3 (λ db. (AreEntries db c.in_ok-entries.entries.items × AreLines db c.in_ok-lines.lines.items) × AreProofs db c.in_ok-proofs.proofs.items) (λ db. AreHistoryRows db (record { entries = c.in_ok-entries.entries; lines = c.in_ok-lines.lines; proofs = c.in_ok-proofs.proofs })) (λ db h. record { entries = h.0.0; lines = h.0.1; proofs = h.1 })
    (done_then c.args.edition s0 s2 s3 (λ db. AreEntries db c.in_ok-entries.entries.items × AreLines db c.in_ok-lines.lines.items) (λ db. AreProofs db c.in_ok-proofs.proofs.items) c.all_proofs.ensures.read_only.survives (done_then c.args.edition s0 s1 s2 (λ db. AreEntries db c.in_ok-entries.entries.items) (λ db. AreLines db c.in_ok-lines.lines.items) c.all_lines.ensures.read_only.survives c.in_ok-entries.ensures.whole c.in_ok-lines.ensures.whole) c.in_ok-proofs.ensures.whole)

pub returns-in_err-lines-clause-takes : goal.returns-in_err-lines-clause-takes
returns-in_err-lines-clause-takes g c clean has s holds readable =
    let s0 = state g.S.Store c.args.conn.now in
    let s1 = state g.S.Store c.all_entries.new.conn in
    let s2 = state g.S.Store c.all_lines.new.conn in
    let fault = c.in_err-lines.field-0.0 in
    handed_on c.from_residual-in_err-lines.result fault IsOfDatabase c.from_residual-in_err-lines.ensures.1
    (readable_then c.args.edition s0 s1 s2 (λ db. AreEntries db c.in_ok-entries.entries.items) (IsOfDatabase fault) c.all_lines.ensures.read_only.survives c.in_ok-entries.ensures.whole c.in_err-lines.ensures.takes clean has s holds readable)

pub returns-in_err-proofs-clause-takes : goal.returns-in_err-proofs-clause-takes
returns-in_err-proofs-clause-takes g c clean has s holds readable =
    let s0 = state g.S.Store c.args.conn.now in
    let s1 = state g.S.Store c.all_entries.new.conn in
    let s2 = state g.S.Store c.all_lines.new.conn in
    let s3 = state g.S.Store c.all_proofs.new.conn in
    let fault = c.in_err-proofs.field-0.0 in
    handed_on c.from_residual-in_err-proofs.result fault IsOfDatabase c.from_residual-in_err-proofs.ensures.1
    (readable_then c.args.edition s0 s2 s3 (λ db. AreEntries db c.in_ok-entries.entries.items × AreLines db c.in_ok-lines.lines.items) (IsOfDatabase fault) c.all_proofs.ensures.read_only.survives (done_then c.args.edition s0 s1 s2 (λ db. AreEntries db c.in_ok-entries.entries.items) (λ db. AreLines db c.in_ok-lines.lines.items) c.all_lines.ensures.read_only.survives c.in_ok-entries.ensures.whole c.in_ok-lines.ensures.whole) c.in_err-proofs.ensures.takes clean has s holds readable)
