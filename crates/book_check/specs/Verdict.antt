-- Which fault of a bank's books is the first.
use Rattle.std.specs.Prelude.{ℕ, ◌≡◌, Result, Ok, Err}
use Rattle.bank_books.specs.Books.{ConditionsHold}
use Rattle.bank_books.specs.Conditions.{CashAgrees, HistoryAgrees, TellersAgree, TotalsAgree}
use Rattle.bank_books.specs.Range.{IsInRange}
use Rattle.bank_books.specs.Records.{KeptLists, kept_of}
use Rattle.bank_books.specs.WorldLists.{WorldLists}
use Rattle.book_check.specs.Least.{IsLeastFailing}
use Rattle.book_check.specs.declared.check.BooksFault.{BooksFault}
use Rattle.book_check.specs.declared.check.BooksFault.TheVariants as fault

-- The verdict on a World and the numbers kept beside it. The conditions are tested in this order: the range, the sums of
-- tellers, the history, the cash, and the totals.
abbrev pub IsVerdict : WorldLists → KeptLists → Result (Unit {0}) BooksFault → Type 0
IsVerdict w kept (Ok _) = ConditionsHold w kept × (kept ≡ kept_of w)
IsVerdict w kept (Err fault.Range) = ¬ IsInRange w kept
IsVerdict w kept (Err (fault.ConditionB branch)) = IsInRange w kept × IsLeastFailing (TellersAgree kept) branch
IsVerdict w kept (Err (fault.ConditionC branch)) =
    IsInRange w kept × ((other : ℕ) → TellersAgree kept other) × IsLeastFailing (HistoryAgrees w kept) branch
IsVerdict w kept (Err (fault.Cash branch)) =
    IsInRange w kept × ((other : ℕ) → TellersAgree kept other) × ((other : ℕ) → HistoryAgrees w kept other) × IsLeastFailing (CashAgrees w kept) branch
IsVerdict w kept (Err fault.ConditionA) =
    IsInRange w kept × ((other : ℕ) → TellersAgree kept other) × ((other : ℕ) → HistoryAgrees w kept other) × ((other : ℕ) → CashAgrees w kept other) × (¬ TotalsAgree kept)
