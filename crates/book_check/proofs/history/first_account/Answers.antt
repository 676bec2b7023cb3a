use Rattle.std.proofs.Common.{◌≡◌, List, Contains, map, subst, ap, ◌∙◌}
use Rattle.bank_books.specs.declared.records.AccountRecord.{AccountRecord}
use Rattle.bank_books.specs.Conditions.{IsAccountOfHistory}
use Rattle.book_check.specs.Least.{IsFirstFailing}
use Rattle.bank_books.specs.Records.{account_record_of}
use Rattle.book_check.proofs.KeptRows.{by_rows}
use Rattle.book_check.proofs.history.first_account.Goals as goal

pub returns : goal.returns
returns c =
    let w = c.args.world.now in
    let row : AccountRecord → _ = λ x. x.row in
    let judged = by_rows (λ (kept computed : AccountRecord). IsAccountOfHistory kept computed) (λ (kept : AccountRecord). kept.row.home) row (account_record_of w) c.accounts.result.now c.deref.result.now w.accounts c.least_failing.result
    (ap (map row) c.accounts.ensures ∙ c.requires.rows.accounts) (c.deref.ensures.value ∙ c.requires.computed.accounts) c.least_failing.ensures in
    let P : List AccountRecord → Type 0 = λ xs. IsFirstFailing (λ branch. (x : AccountRecord) → Contains xs x → (λ (kept : AccountRecord). kept.row.home) x ≡ branch → (λ (kept computed : AccountRecord). IsAccountOfHistory kept computed) x (account_record_of w x.row)) c.least_failing.result in
    subst P c.accounts.ensures judged
