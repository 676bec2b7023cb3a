-- What is so of the rows where no rule of the books denies an operation, and that none denies it where that is so.
use Rattle.std.proofs.Common.{◌≡◌, List, [], ◌∷◌, Contains, ap, sym, subst, ◌∙◌}
use Rattle.std.specs.List.{AllByRecursion}
use Rattle.keyed_rows.proofs.Rows.{Contains-head, Contains-tail}
use Rattle.bank_books.specs.Books.{Books}
use Rattle.bank_books.specs.Effects.{applied}
use Rattle.bank_books.specs.declared.row_write.RowWrite.{RowWrite}
use Rattle.bank_meaning.specs.AskedRows.{Bears}
use Rattle.bank_meaning.specs.Form.{changed_by}
use Rattle.bank_meaning.specs.Operations.{form_of}
use Rattle.bank_meaning.proofs.SameRows.{rows_alike}
use Rattle.bank_meaning.specs.BooksJudged.{BooksAreJudged, BooksDenyNoMore, RowsAreTheChanges}
use Rattle.bank_meaning.specs.Executions.{books_meaning, signature_of}
use Rattle.bank_meaning.specs.Requests.{executes}
use Rattle.bank_meaning.proofs.FirstRule.{none_denies}
use Rattle.bank_meaning.proofs.Forms.{law_of}

pub books_are_judged : BooksAreJudged
books_are_judged w x is = (law_of x.op).judged w x.who x.moment (λ r. none_denies w (executes x) r is)

all_bear : (P : RowWrite → Type 0) (rows : List RowWrite) → ((row : RowWrite) → Contains rows row → P row) → AllByRecursion P rows
all_bear P [] each = tt
all_bear P (row ∷ rows) each = (each row (Contains-head row rows), all_bear P rows (λ other there. each other (Contains-tail row rows other there)))

pub rows_are_the_changes : RowsAreTheChanges
rows_are_the_changes w x rows judged asked bear =
    let by = signature_of x in
    let are = (law_of x.op).asked by w judged in
    rows_alike w by.user by.moment x.op rows (changed_by (form_of x.op) by w) asked are.asked (all_bear (Bears w by.user by.moment) rows bear) are.bear

pub books_deny_no_more : BooksDenyNoMore
books_deny_no_more w x rows checks proper judged asked bear books =
    let law = law_of x.op in
    let same = rows_are_the_changes w x rows judged asked bear in
    let effect : applied rows w ≡ (books_meaning w x).effect = ap (λ cs. applied cs w) same ∙ sym (ap (λ m. m.effect) (law.said (signature_of x) w)) in
    law.denies_no_more (signature_of x) w checks proper.asked judged (subst Books effect books)
