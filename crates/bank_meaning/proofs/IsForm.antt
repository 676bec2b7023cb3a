-- What is so of each operation, by the laws of its form. What holds of all operations is proved from these.
use Rattle.std.proofs.Common.{◌≡◌, ◌≤◌, ℕ, true, false, List, [], ◌∷◌, None}
use Rattle.std.specs.Prelude.{unsigned_abs}
use Rattle.std.specs.List.{find}
use Rattle.bank_terms.specs.Procedure.{takes_slip}
use Rattle.bank_terms.specs.declared.rule.Rule.{Rule}
use Rattle.bank_terms.specs.declared.rule.Rule.TheVariants as rule
use Rattle.bank_books.specs.Books.{Books}
use Rattle.bank_books.specs.SlipRow.{SlipRow}
use Rattle.bank_books.specs.WorldLists.{WorldLists}
use Rattle.bank_books.specs.declared.row_write.RowWrite.{RowWrite}
use Rattle.bank_books.specs.declared.signature.Signature.{Signature}
use Rattle.counter_ops.specs.Op.{procedure_of}
use Rattle.counter_ops.specs.Operations.{IsOp}
use Rattle.counter_ops.specs.Touched.{amount}
use Rattle.counter_ops.specs.declared.op.Op.{Op}
use Rattle.rule_tests.specs.Denial.{is_denial}
use Rattle.rule_tests.specs.Signed.{IsSigned}
use Rattle.bank_meaning.specs.Amounts.{is_drawer_off}
use Rattle.bank_meaning.specs.Form.{changed_by, said_by}
use Rattle.bank_meaning.specs.Meaning.{by_books, json}
use Rattle.bank_meaning.specs.Moves.{Moves}
use Rattle.bank_meaning.specs.Once.{with_slips}
use Rattle.bank_meaning.specs.Operations.{form_of, is_report, meaning_of, moves_of}
use Rattle.bank_meaning.specs.PolicyRules.{asker}
use Rattle.bank_meaning.specs.Sums.{PassesChecks}
use Rattle.bank_meaning.specs.declared.who.Who.{Who}
use Rattle.bank_meaning.proofs.AddedRows.{IsDayLast}
use Rattle.bank_meaning.proofs.AmountParts.{placed}
use Rattle.bank_meaning.proofs.BookChanges.{AreOfBooks}
use Rattle.bank_meaning.proofs.JudgedParts.{NoneDenies}
use Rattle.bank_meaning.proofs.Steps.{IsStep}
use Rattle.std.specs.List.{AllByRecursion}
use Rattle.bank_meaning.specs.AskedRows.{Bears}

-- the rules on commands, which follow those of the books
abbrev pub on_commands : List Rule
on_commands = rule.Officer ∷ rule.Certifier ∷ rule.Separation ∷ rule.PolicyUnknown ∷ rule.PolicyState ∷ []

-- its amount is 0, and it changes nothing
pub record IsQuestion (o : Op) : Type 0 where
  pub nothing : amount o ≡ 0
  pub silent : (rows : (form_of o).Rows) (by : Signature) → (form_of o).changes rows by ≡ []

-- it moves no more than its amount
pub record AreWithin (most : ℕ) (m : Moves) : Type 0 where
  pub branches : (key : ℕ) → unsigned_abs (m.branches key) ≤ most
  pub tellers : (key : ℕ) → unsigned_abs (m.tellers key) ≤ most
  pub accounts : (key : ℕ) → unsigned_abs (m.accounts key) ≤ most

-- These rows were asked for, and bear who asks, when and on which day; a day is the last of them, and not the present one.
pub record AreWritten (o : Op) (by : Signature) (w : WorldLists) (rows : List RowWrite) : Type 0 where
  pub asked : (form_of o).AreAsked w rows
  pub bear : AllByRecursion (Bears w by.user by.moment) rows
  pub days : IsDayLast w.branches rows

pub record IsForm (o : Op) : Type 0 where
  -- it is what its form says
  pub said : (by : Signature) (w : WorldLists) → meaning_of o by w ≡ said_by (form_of o) by w
  -- it changes the books alone, and looks at no slip
  pub books_alone : (rows : (form_of o).Rows) (by : Signature) → AreOfBooks ((form_of o).changes rows by)
  pub no_slips : (s : List SlipRow) (by : Signature) (w : WorldLists) → (form_of o).rows by (with_slips s w) ≡ (form_of o).rows by w
  -- one that takes no slip is a question; one that takes one is answered in JSON
  pub asks : takes_slip (procedure_of o) ≡ false → IsQuestion o
  pub in_json : takes_slip (procedure_of o) ≡ true → (rows : (form_of o).Rows) (by : Signature) → json ((form_of o).reply rows by).bytes ≡ (form_of o).reply rows by
  -- a report takes none
  pub reports_ask : is_report o ≡ true → takes_slip (procedure_of o) ≡ false
  -- no rule on commands denies it
  pub no_commands : (rows : (form_of o).Rows) (by : Signature) → find (λ r. is_denial r ((form_of o).tests rows by)) on_commands ≡ None
  -- where no rule denies it, it keeps the books, and moves what it is said to
  pub steps : (by : Signature) (w : WorldLists) → PassesChecks w → IsOp o → IsSigned w by → (by_books (meaning_of o by w)).first ≡ None → IsStep w (meaning_of o by w).effect (moves_of o)
  pub judged : (w : WorldLists) (who : Who) (moment : ℕ) → NoneDenies w who moment o → (form_of o).IsJudged w (asker who)
  -- and where that is so, and the books hold after it, none of the rules of the books does
  pub denies_no_more : (by : Signature) (w : WorldLists) → PassesChecks w → IsOp o → (form_of o).IsJudged w by.user → Books (meaning_of o by w).effect → (by_books (meaning_of o by w)).first ≡ None
  -- its amount bounds what it moves, and the cash of each place
  pub moves : AreWithin (amount o) (moves_of o)
  pub cash : is_drawer_off o ≡ false → (by : Signature) (w : WorldLists) (branch place : ℕ) → unsigned_abs (placed branch place (changed_by (form_of o) by w)) ≤ amount o
  -- and then the rows that it writes are those that were asked for
  pub asked : (by : Signature) (w : WorldLists) → (form_of o).IsJudged w by.user → AreWritten o by w (changed_by (form_of o) by w)
  -- and its reply says what is so after it
  pub replied : (by : Signature) (w : WorldLists) → PassesChecks w → IsOp o → (form_of o).IsJudged w by.user → IsStep w (meaning_of o by w).effect (moves_of o)
      → (form_of o).IsReplied by w (meaning_of o by w).effect (changed_by (form_of o) by w) (meaning_of o by w).reply
