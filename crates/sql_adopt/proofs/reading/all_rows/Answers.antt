use Rattle.std.specs.Prelude.{IfSome, IsSome, ⊤}
use Rattle.sqlite.specs.Held.{state}
use Rattle.sql_schema.proofs.StepLemmas.{early}
use Rattle.sql_whole.specs.BookRows.{AreBookRows}
use Rattle.sql_whole.specs.PolicyTables.{ArePolicyTables}
use Rattle.sql_whole.proofs.ReadsLemmas.{done_then, gave_then, readable_then}
use Rattle.sql_adopt.specs.Adopted.{AreFileRows, IsBankRow}
use Rattle.sql_adopt.specs.Refused.{IsOfStore}
use Rattle.sql_adopt.proofs.ReadingLemmas.{gave_last, handed_refused, last_then, unread_row}
use Rattle.sql_adopt.proofs.TakenLemmas.{handed_both, handed_other}
use Rattle.sql_adopt.proofs.reading.all_rows.Goals as goal

pub returns-in_err-books-clause-whole : goal.returns-in_err-books-clause-whole
returns-in_err-books-clause-whole g c =
    let s0 = state g.S.Store c.args.conn.now in
    let s1 = state g.S.Store c.bank_version.new.conn in
    let s2 = state g.S.Store c.book_rows.new.conn in
    gave_last c.args.edition s0 s2 (AreFileRows c.args.edition) c.from_residual-in_err-books.result c.from_residual-in_err-books.ensures.0
    (gave_then c.args.edition s0 s1 s2 (λ db. IsBankRow c.args.edition db c.in_ok-version.version) c.book_rows.ensures.survives c.in_ok-version.ensures.whole (λ clean has. (c.in_err-books.ensures.whole clean has).2))

pub returns-in_err-policy-clause-whole : goal.returns-in_err-policy-clause-whole
returns-in_err-policy-clause-whole g c =
    let s0 = state g.S.Store c.args.conn.now in
    let s1 = state g.S.Store c.bank_version.new.conn in
    let s2 = state g.S.Store c.book_rows.new.conn in
    let s3 = state g.S.Store c.policy_tables.new.conn in
    gave_last c.args.edition s0 s3 (AreFileRows c.args.edition) c.from_residual-in_err-policy.result c.from_residual-in_err-policy.ensures.0
    (gave_then c.args.edition s0 s2 s3 (λ db. IsBankRow c.args.edition db c.in_ok-version.version × AreBookRows c.args.edition db c.in_ok-books.books) c.policy_tables.ensures.survives
    (done_then c.args.edition s0 s1 s2 (λ db. IsBankRow c.args.edition db c.in_ok-version.version) (λ db. AreBookRows c.args.edition db c.in_ok-books.books) c.book_rows.ensures.survives c.in_ok-version.ensures.whole c.in_ok-books.ensures.whole)
    (λ clean has. (c.in_err-policy.ensures.whole clean has).1))

pub returns-clause-whole : goal.returns-clause-whole
returns-clause-whole g c =
    let s0 = state g.S.Store c.args.conn.now in
    let s1 = state g.S.Store c.bank_version.new.conn in
    let s2 = state g.S.Store c.book_rows.new.conn in
    let s3 = state g.S.Store c.policy_tables.new.conn in
    last_then c.args.edition s0 s2 s3 (λ db. IsBankRow c.args.edition db c.in_ok-version.version × AreBookRows c.args.edition db c.in_ok-books.books) (λ db. IfSome c.in_ok-policy.policy (ArePolicyTables c.args.edition db))
    (λ db. AreFileRows c.args.edition db (record { version = c.in_ok-version.version; books = c.in_ok-books.books; policy = c.in_ok-policy.policy }))
    (λ db p q. record { version = p.0; books = p.1; typed = c.in_ok-books.ensures.typed; policy = q; policy_typed = c.in_ok-policy.ensures.typed }) c.policy_tables.ensures.survives
    (done_then c.args.edition s0 s1 s2 (λ db. IsBankRow c.args.edition db c.in_ok-version.version) (λ db. AreBookRows c.args.edition db c.in_ok-books.books) c.book_rows.ensures.survives c.in_ok-version.ensures.whole c.in_ok-books.ensures.whole)
    c.in_ok-policy.ensures.whole

pub returns-in_err-books-clause-refused : goal.returns-in_err-books-clause-refused
returns-in_err-books-clause-refused g c clean has =
    let s0 = state g.S.Store c.args.conn.now in
    let s1 = state g.S.Store c.bank_version.new.conn in
    let s2 = state g.S.Store c.book_rows.new.conn in
    let fault = c.in_err-books.field-0.0 in
    handed_refused c.args.edition s0.now.trees c.from_residual-in_err-books.result fault c.from_residual-in_err-books.ensures.1
    (unread_row c.args.edition s0.now.trees c.in_ok-version.version (c.in_ok-version.ensures.whole (early s1 s2 _ c.book_rows.ensures.survives clean) has).0 fault c.in_err-books.ensures.beyond)

pub returns-in_err-policy-clause-refused : goal.returns-in_err-policy-clause-refused
returns-in_err-policy-clause-refused g c clean has =
    let s0 = state g.S.Store c.args.conn.now in
    let s1 = state g.S.Store c.bank_version.new.conn in
    let s2 = state g.S.Store c.book_rows.new.conn in
    let s3 = state g.S.Store c.policy_tables.new.conn in
    let fault = c.in_err-policy.field-0.0 in
    handed_refused c.args.edition s0.now.trees c.from_residual-in_err-policy.result fault c.from_residual-in_err-policy.ensures.1
    (unread_row c.args.edition s0.now.trees c.in_ok-version.version (c.in_ok-version.ensures.whole (early s1 s2 _ c.book_rows.ensures.survives (early s2 s3 _ c.policy_tables.ensures.survives clean)) has).0 fault c.in_err-policy.ensures.beyond)

pub returns-in_err-books-clause-takes : goal.returns-in_err-books-clause-takes
returns-in_err-books-clause-takes g c clean has s holds readable =
    let s0 = state g.S.Store c.args.conn.now in
    let s1 = state g.S.Store c.bank_version.new.conn in
    let s2 = state g.S.Store c.book_rows.new.conn in
    let fault = c.in_err-books.field-0.0 in
    handed_both c.from_residual-in_err-books.result fault (λ rows. IsSome rows.policy) c.from_residual-in_err-books.ensures.1
    (readable_then c.args.edition s0 s1 s2 (λ db. IsBankRow c.args.edition db c.in_ok-version.version) (IsOfStore fault) c.book_rows.ensures.survives c.in_ok-version.ensures.whole c.in_err-books.ensures.takes clean has s holds readable)

pub returns-in_err-policy-clause-takes : goal.returns-in_err-policy-clause-takes
returns-in_err-policy-clause-takes g c clean has s holds readable =
    let s0 = state g.S.Store c.args.conn.now in
    let s1 = state g.S.Store c.bank_version.new.conn in
    let s2 = state g.S.Store c.book_rows.new.conn in
    let s3 = state g.S.Store c.policy_tables.new.conn in
    let fault = c.in_err-policy.field-0.0 in
    handed_both c.from_residual-in_err-policy.result fault (λ rows. IsSome rows.policy) c.from_residual-in_err-policy.ensures.1
    (readable_then c.args.edition s0 s2 s3 (λ db. IsBankRow c.args.edition db c.in_ok-version.version × AreBookRows c.args.edition db c.in_ok-books.books) (⊤ × IsOfStore fault) c.policy_tables.ensures.survives
    (done_then c.args.edition s0 s1 s2 (λ db. IsBankRow c.args.edition db c.in_ok-version.version) (λ db. AreBookRows c.args.edition db c.in_ok-books.books) c.book_rows.ensures.survives c.in_ok-version.ensures.whole c.in_ok-books.ensures.whole)
    c.in_err-policy.ensures.takes clean has s holds readable).1

pub returns-clause-takes : goal.returns-clause-takes
returns-clause-takes g c clean has s holds readable =
    let s0 = state g.S.Store c.args.conn.now in
    let s1 = state g.S.Store c.bank_version.new.conn in
    let s2 = state g.S.Store c.book_rows.new.conn in
    let s3 = state g.S.Store c.policy_tables.new.conn in (
      (readable_then c.args.edition s0 s2 s3 (λ db. IsBankRow c.args.edition db c.in_ok-version.version × AreBookRows c.args.edition db c.in_ok-books.books) (IsSome c.in_ok-policy.policy × ⊤) c.policy_tables.ensures.survives
          (done_then c.args.edition s0 s1 s2 (λ db. IsBankRow c.args.edition db c.in_ok-version.version) (λ db. AreBookRows c.args.edition db c.in_ok-books.books) c.book_rows.ensures.survives c.in_ok-version.ensures.whole c.in_ok-books.ensures.whole)
          c.in_ok-policy.ensures.takes clean has s holds readable).0,
      tt,
    )

pub returns-in_err-version-clause-other : goal.returns-in_err-version-clause-other
returns-in_err-version-clause-other g c clean e has version row differs =
    handed_other c.from_residual.result c.in_err-version.field-0.0 c.from_residual.ensures.1 (c.in_err-version.ensures.other clean e has version row differs)

pub returns-in_err-books-clause-other : goal.returns-in_err-books-clause-other
returns-in_err-books-clause-other g c clean e has version row differs =
    let s1 = state g.S.Store c.bank_version.new.conn in
    let s2 = state g.S.Store c.book_rows.new.conn in
    absurd (c.in_ok-version.ensures.other (early s1 s2 _ c.book_rows.ensures.survives clean) e has version row differs)

pub returns-in_err-policy-clause-other : goal.returns-in_err-policy-clause-other
returns-in_err-policy-clause-other g c clean e has version row differs =
    let s1 = state g.S.Store c.bank_version.new.conn in
    let s2 = state g.S.Store c.book_rows.new.conn in
    let s3 = state g.S.Store c.policy_tables.new.conn in
    absurd (c.in_ok-version.ensures.other (early s1 s2 _ c.book_rows.ensures.survives (early s2 s3 _ c.policy_tables.ensures.survives clean)) e has version row differs)

pub returns-clause-other : goal.returns-clause-other
returns-clause-other g c clean e has version row differs =
    let s1 = state g.S.Store c.bank_version.new.conn in
    let s2 = state g.S.Store c.book_rows.new.conn in
    let s3 = state g.S.Store c.policy_tables.new.conn in
    absurd (c.in_ok-version.ensures.other (early s1 s2 _ c.book_rows.ensures.survives (early s2 s3 _ c.policy_tables.ensures.survives clean)) e has version row differs)
