-- A correction as an operation: its reply and its meaning. The rest of it is that of its plan.
use Rattle.bank_meaning.specs.AskedRows.{EntrySays, entry_says, line_says}
use Rattle.bank_books.specs.Balances.{entry_count, turn_count}
use Rattle.bank_books.specs.Cash.{line_count}
use Rattle.bank_books.specs.declared.row_write.RowWrite.{RowWrite}
use Rattle.bank_books.specs.declared.row_write.RowWrite.TheVariants as write
use Rattle.bank_books.specs.declared.rows.LineForm.TheVariants as line_form
use Rattle.bank_books.specs.declared.rows.EntryForm.{EntryForm}
use Rattle.std.specs.Prelude.{◌+◌}
use Rattle.std.specs.Prelude.{ℕ, List, [], ◌∷◌}
use Rattle.std.specs.Option.{option_map_or}
use Rattle.bank_books.specs.WorldLists.{WorldLists}
use Rattle.bank_books.specs.declared.signature.Signature.{Signature}
use Rattle.counter_ops.specs.declared.correct.Correct.{Correct}
use Rattle.postings.specs.Correct.{correct_tests, correct_rows, corrected_of}
use Rattle.postings.specs.declared.correct.Corrected.{Corrected}
use Rattle.postings.specs.declared.correct.Corrected.TheVariants as corrected
use Rattle.std.specs.Prelude.{ℤ, pos, ◌==◌, ◌+ℤ◌, ◌&&◌, not, false, if◌then◌else◌}
use Rattle.postings.specs.Correct.{correct_changes, is_of_post, undoing}
use Rattle.postings.specs.declared.correct.CorrectRows.{CorrectRows}
use Rattle.bank_meaning.specs.Form.{Form, said_by}
use Rattle.bank_meaning.specs.Moves.{Moves}
use Rattle.bank_meaning.specs.Meaning.{Meaning, ReplyText, json}
use Rattle.bank_meaning.specs.Post.{IsPostReplied, posted_text}
use Rattle.bank_meaning.specs.Transfer.{IsTransferReplied, transferred_text}
use Rattle.bank_books.specs.declared.rows.EntryForm.TheVariants as entry_form
use Rattle.bank_books.specs.Balances.{branch_row}
use Rattle.bank_books.specs.declared.rows.Branch.{Branch}
use Rattle.bank_books.specs.declared.rows.CashLine.{CashLine}
use Rattle.bank_books.specs.declared.rows.Entry.{Entry}
use Rattle.bank_meaning.specs.JudgedRows.{KeepsFloor, HoldsDrawer, DrawerCovers}
use Rattle.std.specs.Prelude.{neg_ℤ, ◌≡◌, ◌≢◌, Contains, Some}
use Rattle.world_reads.specs.BookReads.{entry}

-- that of a post as a post, that of a transfer as a transfer
abbrev pub corrected_text : Corrected → List ℕ
corrected_text (corrected.OfPost p) = posted_text p
corrected_text (corrected.OfTransfer t) = transferred_text t

-- a correction: minus what the post brought, at the teller that it names; or minus what each leg of the transfer did
abbrev pub correct_moves : Correct → Moves
correct_moves correct = record {
  branches = λ branch. if is_of_post correct && correct.branch == branch then undoing correct else pos 0;
  tellers = λ teller. if is_of_post correct && correct.teller == teller then undoing correct else pos 0;
  accounts = λ account. (if correct.account == account then undoing correct else pos 0) +ℤ (if not (is_of_post correct) && correct.other == account then correct.delta else pos 0);
  entries = λ branch. if correct.branch == branch then (if is_of_post correct then 1 else 2) else 0;
}

-- No correction is undone, and no entry twice; 0 is the number of none.
pub record IsNotUndone (w : WorldLists) (branch number : ℕ) (e : Entry) : Type 0 where
  pub form : e.form ≢ entry_form.Correction
  pub once : number ≢ 0 → (other : Entry) → Contains w.entries other → other.branch ≡ branch → other.undoes ≢ number

-- The entry is as it is named: a post, where no other account is, or the leg of a transfer whose other leg is of that account.
pub record IsNamed (w : WorldLists) (correct : Correct) (e : Entry) : Type 0 where
  pub account : e.account ≡ correct.account
  pub delta : e.delta ≡ correct.delta
  pub of_post : correct.other ≡ 0 → e.form ≡ entry_form.Post
  pub of_transfer : correct.other ≢ 0 → e.form ≡ entry_form.TransferLeg
  pub other_leg : correct.other ≢ 0 → (leg : Entry) × ((entry w correct.branch e.partner ≡ Some leg) × (leg.account ≡ correct.other))

-- Four eyes: somebody else made the entry. It is of the day that the branch has today.
pub record IsCorrectJudged (w : WorldLists) (user : ℕ) (correct : Correct) : Type 0 where
  pub drawer : HoldsDrawer w user correct.teller correct.branch
  pub row : Entry
  pub there : entry w correct.branch correct.entry ≡ Some row
  pub by_another : row.user ≢ user
  pub branch : Branch
  pub branch_there : branch_row correct.branch w.branches ≡ Some branch
  pub today : row.day ≡ branch.day
  pub not_undone : IsNotUndone w correct.branch correct.entry row
  pub named : IsNamed w correct row
  pub floor : KeepsFloor w correct.account (neg_ℤ correct.delta)
  pub other_floor : correct.other ≢ 0 → KeepsFloor w correct.other correct.delta
  pub cash : correct.other ≡ 0 → DrawerCovers w correct.teller correct.branch (neg_ℤ correct.delta)

-- an entry that undoes the one of this number
abbrev pub undoing_says : WorldLists → Correct → ℕ → ℤ → ℕ → ℕ → ℕ → EntrySays
undoing_says w correct account delta number partner undoes = record {
  branch = correct.branch;
  number = number;
  turn = turn_count account w.entries + 1;
  teller = correct.teller;
  account = account;
  delta = delta;
  form = entry_form.Correction;
  partner = partner;
  undoes = undoes;
}

-- An entry of this form is undone by minus its delta: a post with its cash, and the leg of a transfer with the other leg, by two that are each the other's partner.
abbrev pub AreUndoing : WorldLists → Correct → Entry → EntryForm → List RowWrite → Type 0
AreUndoing w correct named entry_form.Post rows =
    (e : Entry)
    × (l : CashLine)
    × (rows ≡ write.Entry e ∷ write.Line l ∷ [])
    × (entry_says e ≡ undoing_says w correct named.account (neg_ℤ named.delta) (entry_count correct.branch w.entries + 1) 0 correct.entry)
    × (line_says l ≡ record { branch = correct.branch; number = line_count correct.branch w.lines + 1; place = correct.teller; amount = neg_ℤ named.delta; form = line_form.CashEntry })
AreUndoing w correct named entry_form.TransferLeg rows =
    let n = entry_count correct.branch w.entries in
    (first : Entry)
    × (second : Entry)
    × (leg : Entry)
    × (rows ≡ write.Entry first ∷ write.Entry second ∷ [])
    × (entry_says first ≡ undoing_says w correct named.account (neg_ℤ named.delta) (n + 1) (n + 2) correct.entry)
    × (entry w correct.branch named.partner ≡ Some leg)
    × (entry_says second ≡ undoing_says w correct leg.account named.delta (n + 2) (n + 1) named.partner)
AreUndoing w correct named entry_form.Correction rows = ⊥

-- the entry that is named is undone
abbrev pub AreCorrectAsked : WorldLists → Correct → List RowWrite → Type 0
AreCorrectAsked w correct rows = (named : Entry) × (entry w correct.branch correct.entry ≡ Some named) × AreUndoing w correct named named.form rows

-- that of a post as of a post, that of a transfer as of a transfer
pub record IsCorrectReplied (after : WorldLists) (rows : List RowWrite) (correct : Correct) (text : ReplyText) : Type 0 where
  pub of_post : correct.other ≡ 0 → IsPostReplied after rows correct.branch correct.account text
  pub of_transfer : correct.other ≢ 0 → IsTransferReplied after rows correct.branch correct.account correct.other text

-- all that it is
abbrev pub correct_form : Correct → Form
correct_form correct = record {
  Rows = CorrectRows;
  rows = λ by w. correct_rows w correct;
  tests = λ rows by. correct_tests rows correct by;
  changes = λ rows by. correct_changes rows correct by;
  reply = λ rows by. json (option_map_or corrected_text (corrected_of rows correct) []);
  is_report = false;
  moves = correct_moves correct;
  IsJudged = λ w user. IsCorrectJudged w user correct;
  AreAsked = λ w rows. AreCorrectAsked w correct rows;
  IsReplied = λ by before after rows text. IsCorrectReplied after rows correct text;
}

abbrev pub correct_meaning : Correct → Signature → WorldLists → Meaning
correct_meaning correct by w = said_by (correct_form correct) by w
