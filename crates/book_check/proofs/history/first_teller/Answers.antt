use Rattle.std.proofs.Common.{◌≡◌, List, Contains, map, subst, ap, ◌∙◌}
use Rattle.bank_books.specs.declared.records.TellerRecord.{TellerRecord}
use Rattle.book_check.specs.Least.{IsFirstFailing}
use Rattle.bank_books.specs.Records.{teller_record_of}
use Rattle.book_check.proofs.KeptRows.{by_rows}
use Rattle.book_check.proofs.history.first_teller.Goals as goal

pub returns : goal.returns
returns c =
    let w = c.args.world.now in
    let row : TellerRecord → _ = λ x. x.row in
    let judged = by_rows (λ (kept computed : TellerRecord). kept.balance ≡ computed.balance) (λ (kept : TellerRecord). kept.row.branch) row (teller_record_of w) c.tellers.result.now c.deref.result.now w.tellers c.least_failing.result
    (ap (map row) c.tellers.ensures ∙ c.requires.rows.tellers) (c.deref.ensures.value ∙ c.requires.computed.tellers) c.least_failing.ensures in
    let P : List TellerRecord → Type 0 = λ xs. IsFirstFailing (λ branch. (x : TellerRecord) → Contains xs x → (λ (kept : TellerRecord). kept.row.branch) x ≡ branch → (λ (kept computed : TellerRecord). kept.balance ≡ computed.balance) x (teller_record_of w x.row)) c.least_failing.result in
    subst P c.tellers.ensures judged
