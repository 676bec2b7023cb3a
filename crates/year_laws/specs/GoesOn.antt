-- Two banks of one turn of a year, side by side: the one that goes on, and the one that begins the next year. Entries and turns have other numbers
-- at the one than at the other, by as many as there were when the year turned; sums over entries and cash lines begin anew.
use Rattle.std.specs.Prelude.{ℕ, ◌≡◌, ◌≢◌, ◌+◌, ◌==◌, ⊤, List, [], ◌∷◌, Option, Some, None, option_map, if◌then◌else◌}
use Rattle.bank_books.specs.Balances.{entry_count, turn_count}
use Rattle.bank_books.specs.Records.{account_record, branch_record, teller_record}
use Rattle.bank_books.specs.WorldLists.{WorldLists}
use Rattle.bank_books.specs.declared.records.AccountRecord.{AccountRecord}
use Rattle.bank_books.specs.declared.records.BranchRecord.{BranchRecord}
use Rattle.bank_books.specs.declared.records.TellerRecord.{TellerRecord}
use Rattle.bank_books.specs.declared.rows.Entry.{Entry}
use Rattle.counter_ops.specs.declared.correct.Correct.{Correct}
use Rattle.counter_ops.specs.declared.op.Op.{Op}
use Rattle.counter_ops.specs.declared.op.Op.TheVariants as op
use Rattle.counter_ops.specs.declared.releasable.Releasable.{Releasable}
use Rattle.counter_ops.specs.declared.releasable.Releasable.TheVariants as form
use Rattle.world_reads.specs.BookReads.{entry, roster, undone}
use Rattle.world_reads.specs.PolicyReads.{user_record}

-- how many entries each branch, and how many turns each account had when the year turned
pub record Turn : Type 0 where
  pub entries : ℕ → ℕ
  pub turns : ℕ → ℕ

abbrev pub turn_of : WorldLists → Turn
turn_of w = record { entries = λ branch. entry_count branch w.entries; turns = λ account. turn_count account w.entries }

-- ---- rows, of the bank that goes on and of the next year's

-- both are there and are alike, or neither is
abbrev pub AreBoth : {T : Type 0} → (T → T → Type 0) → Option T → Option T → Type 0
AreBoth alike None None = ⊤
AreBoth alike (Some old) (Some new) = alike old new
AreBoth alike _ _ = ⊥

-- as many are there, each alike
abbrev pub AreEach : {T : Type 0} → (T → T → Type 0) → List T → List T → Type 0
AreEach alike [] [] = ⊤
AreEach alike (old ∷ olds) (new ∷ news) = alike old new × AreEach alike olds news
AreEach alike _ _ = ⊥

-- an account of which n turns are of the years before
pub record IsSameAccount (before : ℕ) (old new : AccountRecord) : Type 0 where
  pub home : old.row.home ≡ new.row.home
  pub floor : old.row.floor ≡ new.row.floor
  pub balance : old.balance ≡ new.balance
  pub turns : old.turns ≡ new.turns + before

pub record IsSameTeller (old new : TellerRecord) : Type 0 where
  pub teller : old.row.teller ≡ new.row.teller
  pub branch : old.row.branch ≡ new.row.branch
  pub balance : old.balance ≡ new.balance
  pub cash : old.cash ≡ new.cash
  pub holder : old.holder ≡ new.holder

-- a branch of which n entries are of the years before; what its history and its cash lines come to is not looked at
pub record IsSameBranch (before : ℕ) (old new : BranchRecord) : Type 0 where
  pub day : old.row.day ≡ new.row.day
  pub balance : old.balance ≡ new.balance
  pub vault : old.vault ≡ new.vault
  pub entries : old.entries ≡ new.entries + before
  pub accounts : old.accounts ≡ new.accounts

-- ---- numbers at the bank that goes on

-- of an entry of the branch that another names; 0 names none
abbrev pub number_at_old : Turn → ℕ → ℕ → ℕ
number_at_old t branch number = if number == 0 then 0 else number + t.entries branch

-- an entry of the next year, as the bank that goes on has it
abbrev pub entry_at_old : Turn → Entry → Entry
entry_at_old t e = record e {
  number = e.number + t.entries e.branch;
  turn = e.turn + t.turns e.account;
  partner = number_at_old t e.branch e.partner;
  undoes = number_at_old t e.branch e.undoes;
}

abbrev pub correct_at_old : Turn → Correct → Correct
correct_at_old t c = record c { entry = c.entry + t.entries c.branch }

abbrev pub releasable_at_old : Turn → Releasable → Releasable
releasable_at_old t (form.Correct c) = form.Correct (correct_at_old t c)
releasable_at_old t other = other

-- An operation that is asked for in the next year, as it is asked for at the bank that goes on: a correction, and a release of one, names its
-- entry by the number that it has there, and a statement begins with the turn of the same entry.
abbrev pub op_at_old : Turn → Op → Op
op_at_old t (op.Correct c) = op.Correct (correct_at_old t c)
op_at_old t (op.Release r) = op.Release (record r { operation = releasable_at_old t r.operation })
op_at_old t (op.Statement s) = op.Statement (record s { start = s.start + t.turns s.account })
op_at_old t other = other

-- ---- the two banks

-- What is read of both by the rules of the books is the same, but for these numbers, for openings, and for what sums entries and lines.
pub record GoesOn (t : Turn) (old new : WorldLists) : Type 0 where
  pub accounts : (key : ℕ) → AreBoth (IsSameAccount (t.turns key)) (account_record old key) (account_record new key)
  pub tellers : (key : ℕ) → AreBoth IsSameTeller (teller_record old key) (teller_record new key)
  pub branches : (key : ℕ) → AreBoth (IsSameBranch (t.entries key)) (branch_record old key) (branch_record new key)
  pub rosters : (branch : ℕ) → AreEach IsSameTeller (roster old branch) (roster new branch)
  pub entries : (branch number : ℕ) → number ≢ 0 → entry old branch (number + t.entries branch) ≡ option_map (entry_at_old t) (entry new branch number)
  pub undone : (branch number : ℕ) → number ≢ 0 → undone old branch (number + t.entries branch) ≡ undone new branch number
  pub users : (key : ℕ) → user_record old key ≡ user_record new key
