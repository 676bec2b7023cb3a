-- What the rules of the books ask of an operation, over the rows of the World: who holds the drawer, who made the entry, what is left in accounts, drawers and vaults.
use Rattle.std.specs.Prelude.{◌≡◌, None, List, Contains}
use Rattle.bank_books.specs.Books.{Books}
use Rattle.bank_books.specs.Effects.{applied}
use Rattle.bank_books.specs.WorldLists.{WorldLists}
use Rattle.bank_books.specs.declared.row_write.RowWrite.{RowWrite}
use Rattle.bank_meaning.specs.AskedRows.{Bears}
use Rattle.bank_meaning.specs.Executions.{books_meaning, signature_of}
use Rattle.bank_meaning.specs.Form.{changed_by}
use Rattle.bank_meaning.specs.Meaning.{by_books}
use Rattle.bank_meaning.specs.Operations.{form_of}
use Rattle.bank_meaning.specs.PolicyRules.{asker}
use Rattle.bank_meaning.specs.Requests.{executes, first}
use Rattle.bank_meaning.specs.Sums.{IsProper, PassesChecks}
use Rattle.bank_meaning.specs.declared.execution.Execution.{Execution}

abbrev pub IsBooksJudged : WorldLists → Execution → Type 0
IsBooksJudged w x = (form_of x.op).IsJudged w (asker x.who)

-- of every World, and every operation that no rule denies
abbrev pub BooksAreJudged : Type 0
BooksAreJudged = (w : WorldLists) (x : Execution) → first w (executes x) ≡ None → IsBooksJudged w x

-- And they deny no more: of every World that passes both checks, and every proper operation, if that is so of it, and the books hold with whatever rows say what was
-- asked, bear who asked, when and on which day, and come next, no rule of the books denies it. What the rules on the range of money and on full numbers ask is that
-- the books hold: each sum is within its range, and each number is one.
abbrev pub BooksDenyNoMore : Type 0
BooksDenyNoMore = (w : WorldLists) (x : Execution) (rows : List RowWrite) → PassesChecks w → IsProper (executes x) → IsBooksJudged w x → (form_of x.op).AreAsked w rows
    → ((row : RowWrite) → Contains rows row → Bears w (asker x.who) x.moment row) → Books (applied rows w) → (by_books (books_meaning w x)).first ≡ None

-- Those rows are the ones that it adds, where it is so judged: no others say all of that.
abbrev pub RowsAreTheChanges : Type 0
RowsAreTheChanges = (w : WorldLists) (x : Execution) (rows : List RowWrite) → IsBooksJudged w x → (form_of x.op).AreAsked w rows
    → ((row : RowWrite) → Contains rows row → Bears w (asker x.who) x.moment row) → rows ≡ changed_by (form_of x.op) (signature_of x) w
