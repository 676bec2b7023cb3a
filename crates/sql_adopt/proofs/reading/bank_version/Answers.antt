use Rattle.sqlite.specs.Held.{state}
use Rattle.sql_schema.specs.Held.Sheet.{bank as in_bank}
use Rattle.sql_schema.proofs.StepLemmas.{early}
use Rattle.sql_whole.specs.Faults.{IsOfDatabase}
use Rattle.sql_adopt.specs.Adopted.{IsBankNumber}
use Rattle.sql_adopt.proofs.ReadingLemmas.{asked_gave, asked_then, asked_there, range_refused, reads_version, store_refused}
use Rattle.sql_adopt.proofs.TakenLemmas.{counted, handed_other}
use Rattle.sql_adopt.proofs.reading.bank_version.Goals as goal

pub returns-in-Ok-clause-whole : goal.returns-in-Ok-clause-whole
returns-in-Ok-clause-whole g c =
    let s0 = state g.S.Store c.args.conn.now in
    let s1 = state g.S.Store c.stated_row.new.conn in
    let s2 = state g.S.Store c.ask_tables.new.conn in
    reads_version c.args.edition s0 s2 c.in_ok-row.row.policy c.version_in.result c.version_in.ensures.number
    (asked_then c.args.edition s0 s1 s2 (λ db. IsBankNumber c.args.edition db c.in_ok-row.row.policy) c.ask_tables.ensures.survives c.in_ok-row.ensures.whole c.in-Ok.ensures.whole)

pub returns-in-Err-clause-whole : goal.returns-in-Err-clause-whole
returns-in-Err-clause-whole g c clean has =
    let s0 = state g.S.Store c.args.conn.now in
    let s1 = state g.S.Store c.stated_row.new.conn in
    let s2 = state g.S.Store c.ask_tables.new.conn in
    (tt, tt, asked_gave c.args.edition s0 s1 s2 (λ db. IsBankNumber c.args.edition db c.in_ok-row.row.policy) c.ask_tables.ensures.survives c.in_ok-row.ensures.whole (λ is_open clean has. (c.in-Err.ensures.whole is_open clean has).2) clean has)

pub returns-in-Ok-clause-refused : goal.returns-in-Ok-clause-refused
returns-in-Ok-clause-refused g c clean has =
    let s0 = state g.S.Store c.args.conn.now in
    let s1 = state g.S.Store c.stated_row.new.conn in
    let s2 = state g.S.Store c.ask_tables.new.conn in
    range_refused c.args.edition s0.now.trees c.in_ok-row.row.policy (c.in_ok-row.ensures.whole (early s1 s2 _ c.ask_tables.ensures.survives clean) has).0 c.version_in.result c.version_in.ensures.range

pub returns-in-Err-clause-refused : goal.returns-in-Err-clause-refused
returns-in-Err-clause-refused g c clean has =
    let s0 = state g.S.Store c.args.conn.now in
    let s1 = state g.S.Store c.stated_row.new.conn in
    let s2 = state g.S.Store c.ask_tables.new.conn in
    store_refused c.args.edition s0.now.trees c.table_unread.result
    (c.table_unread.ensures.store (asked_there c.args.edition s0 s1 s2 (λ db. IsBankNumber c.args.edition db c.in_ok-row.row.policy) c.ask_tables.ensures.survives c.in_ok-row.ensures.whole (IsOfDatabase c.in-Err.fault) c.in-Err.ensures.there clean has))

pub returns-in-Ok-clause-takes : goal.returns-in-Ok-clause-takes
returns-in-Ok-clause-takes g c clean has s holds readable =
    let s0 = state g.S.Store c.args.conn.now in
    let s1 = state g.S.Store c.stated_row.new.conn in
    let s2 = state g.S.Store c.ask_tables.new.conn in
    counted c.args.edition s0.now.trees c.in_ok-row.row.policy s.version c.version_in.result c.version_in.ensures.none (c.in_ok-row.ensures.whole (early s1 s2 _ c.ask_tables.ensures.survives clean) has).0 (holds in_bank)

pub returns-in-Err-clause-takes : goal.returns-in-Err-clause-takes
returns-in-Err-clause-takes g c clean has s holds readable =
    let s0 = state g.S.Store c.args.conn.now in
    let s1 = state g.S.Store c.stated_row.new.conn in
    let s2 = state g.S.Store c.ask_tables.new.conn in
    c.table_unread.ensures.store (asked_there c.args.edition s0 s1 s2 (λ db. IsBankNumber c.args.edition db c.in_ok-row.row.policy) c.ask_tables.ensures.survives c.in_ok-row.ensures.whole (IsOfDatabase c.in-Err.fault) c.in-Err.ensures.there clean has)

pub returns-in_err-row-clause-other : goal.returns-in_err-row-clause-other
returns-in_err-row-clause-other g c clean e has version row differs =
    handed_other c.from_residual.result c.in_err-row.field-0.0 c.from_residual.ensures.1 (c.in_err-row.ensures.other clean e has version row differs)

pub returns-in-Ok-clause-other : goal.returns-in-Ok-clause-other
returns-in-Ok-clause-other g c clean e has version row differs =
    let s1 = state g.S.Store c.stated_row.new.conn in
    let s2 = state g.S.Store c.ask_tables.new.conn in
    absurd (c.in_ok-row.ensures.other (early s1 s2 _ c.ask_tables.ensures.survives clean) e has version row differs)

pub returns-in-Err-clause-other : goal.returns-in-Err-clause-other
returns-in-Err-clause-other g c clean e has version row differs =
    let s1 = state g.S.Store c.stated_row.new.conn in
    let s2 = state g.S.Store c.ask_tables.new.conn in
    absurd (c.in_ok-row.ensures.other (early s1 s2 _ c.ask_tables.ensures.survives clean) e has version row differs)
