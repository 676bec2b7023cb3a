-- That an operation which is carried out adds the rows that were asked for, and no others, and that one which is not changes nothing.
use Rattle.std.specs.Prelude.{◌≡◌, ◌⊎◌, true, false, None, Some, List, Contains}
use Rattle.bank_books.specs.SlipRow.{SlipRow}
use Rattle.bank_books.specs.WorldLists.{WorldLists}
use Rattle.bank_books.specs.declared.row_write.RowWrite.{RowWrite}
use Rattle.bank_books.specs.declared.row_write.RowWrite.TheVariants as write
use Rattle.bank_books.specs.declared.rows.Account.{Account}
use Rattle.bank_books.specs.declared.rows.Branch.{Branch}
use Rattle.bank_books.specs.declared.rows.CashLine.{CashLine}
use Rattle.bank_books.specs.declared.rows.Entry.{Entry}
use Rattle.bank_books.specs.declared.rows.Proof.{Proof}
use Rattle.bank_books.specs.declared.rows.Release.{Release}
use Rattle.counter_ops.specs.Rows.{row_of}
use Rattle.bank_meaning.specs.AskedRows.{Bears, today}
use Rattle.bank_meaning.specs.Executions.{signature_of}
use Rattle.bank_meaning.specs.Operations.{form_of}
use Rattle.bank_meaning.specs.PolicyRules.{asker}
use Rattle.bank_meaning.specs.Requests.{executes, reply_text}
use Rattle.bank_meaning.specs.Run.{is_accepted, step}
use Rattle.bank_meaning.specs.Sums.{IsProper, PassesChecks}
use Rattle.bank_meaning.specs.declared.execution.Execution.{Execution}

-- the row is in a World; of a day, that it is the present one of its branch
abbrev pub IsIn : WorldLists → RowWrite → Type 0
IsIn w (write.Account a) = Contains w.accounts a
IsIn w (write.Entry e) = Contains w.entries e
IsIn w (write.Line l) = Contains w.lines l
IsIn w (write.Proof p) = Contains w.proofs p
IsIn w (write.Release r) = Contains w.releases r
IsIn w (write.Day d) = today w d.branch ≡ Some d.day
IsIn w _ = ⊥

-- It is there after the operation and was not before, and bears who asked, when and on which day.
pub record IsNew (w after : WorldLists) (x : Execution) (row : RowWrite) : Type 0 where
  pub there : IsIn after row
  pub before : ¬ IsIn w row
  pub bears : Bears w (asker x.who) x.moment row

-- a branch that was there, and has nothing new but a day that is among these rows
pub record IsOnAnotherDay (w : WorldLists) (rows : List RowWrite) (b : Branch) : Type 0 where
  pub before : Branch
  pub there : Contains w.branches before
  pub same : b ≡ record before { day = b.day }
  pub asked : Contains rows (write.Day (record { branch = b.branch; day = b.day }))

-- the release that is named, of the user who asks: used up, and else as it was
pub record IsUsedUp (w : WorldLists) (x : Execution) (r : Release) : Type 0 where
  pub before : Release
  pub there : Contains w.releases before
  pub user : before.user ≡ asker x.who
  pub number : before.number ≡ x.who.release
  pub same : r ≡ record before { used = true }

-- the slip that was named, with the operation and its reply
pub record IsTaken (w : WorldLists) (x : Execution) (s : SlipRow) : Type 0 where
  pub user : s.user ≡ asker x.who
  pub number : s.number ≡ x.who.slip
  pub operation : s.operation ≡ row_of x.op
  pub reply : s.reply ≡ (reply_text w (executes x)).bytes

-- After it: the rows that were asked for are new, and each other row was there before.
pub record RowsAreAsked (w after : WorldLists) (x : Execution) : Type 0 where
  pub rows : List RowWrite
  pub asked : (form_of x.op).AreAsked w rows
  pub new : (row : RowWrite) → Contains rows row → IsNew w after x row
  pub branches : (b : Branch) → Contains after.branches b → Contains w.branches b ⊎ IsOnAnotherDay w rows b
  pub tellers : after.tellers ≡ w.tellers
  pub accounts : (a : Account) → Contains after.accounts a → Contains w.accounts a ⊎ Contains rows (write.Account a)
  pub entries : (e : Entry) → Contains after.entries e → Contains w.entries e ⊎ Contains rows (write.Entry e)
  pub lines : (l : CashLine) → Contains after.lines l → Contains w.lines l ⊎ Contains rows (write.Line l)
  pub proofs : (p : Proof) → Contains after.proofs p → Contains w.proofs p ⊎ Contains rows (write.Proof p)
  pub releases : (r : Release) → Contains after.releases r → Contains w.releases r ⊎ (IsUsedUp w x r ⊎ Contains rows (write.Release r))
  pub slips : (s : SlipRow) → Contains after.slips s → Contains w.slips s ⊎ IsTaken w x s
  pub policy : after.policy ≡ w.policy
  -- and its reply says what is so after it
  pub replied : (form_of x.op).IsReplied (signature_of x) w after rows (reply_text w (executes x))

-- where it is accepted; else nothing is changed
pub record IsDoneAsAsked (w : WorldLists) (x : Execution) : Type 0 where
  pub accepted : is_accepted w (record { request = executes x; mark = None }) ≡ true → RowsAreAsked w (step w (executes x)) x
  pub not_accepted : is_accepted w (record { request = executes x; mark = None }) ≡ false → step w (executes x) ≡ w

-- of every World that passes both checks, and every proper operation
abbrev pub RowsSayWhatWasAsked : Type 0
RowsSayWhatWasAsked = (w : WorldLists) (x : Execution) → PassesChecks w → IsProper (executes x) → IsDoneAsAsked w x
