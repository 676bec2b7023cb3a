-- What holds of every change of each kind.
use Rattle.std.specs.Prelude.{ℕ, ℤ, pos, ◌≡◌, ◌↔◌, ◌+◌, ◌≤◌, ◌+ℤ◌, ◌==◌, List, map, if◌then◌else◌}
use Rattle.std.specs.List.{AllByRecursion}
use Rattle.bank_terms.specs.Limits.{max_accounts, max_key}
use Rattle.keyed_rows.specs.Totals.{total}
use Rattle.bank_books.specs.Balances.{account_count}
use Rattle.bank_books.specs.Books.{Books}
use Rattle.bank_books.specs.Conditions.{IsCashBalanced}
use Rattle.bank_books.specs.Effects.{written}
use Rattle.bank_books.specs.Range.{IsBranch}
use Rattle.bank_books.specs.SlipRow.{SlipRow}
use Rattle.bank_books.specs.WorldLists.{WorldLists}
use Rattle.bank_books.specs.declared.row_write.ReleaseKey.{ReleaseKey}
use Rattle.bank_books.specs.declared.row_write.RowWrite.{RowWrite}
use Rattle.bank_books.specs.declared.row_write.RowWrite.TheVariants as write
use Rattle.bank_policy.specs.declared.policy_write.Session.{Session}
use Rattle.bank_books.specs.declared.rows.Account.{Account}
use Rattle.bank_books.specs.declared.rows.Branch.{Branch}
use Rattle.bank_books.specs.declared.rows.CashLine.{CashLine}
use Rattle.bank_books.specs.declared.rows.Entry.{Entry}
use Rattle.bank_books.specs.declared.rows.Proof.{Proof}
use Rattle.bank_books.specs.declared.rows.Release.{Release}
use Rattle.book_laws.specs.CashGap.{cash_gap, gap_share}
use Rattle.book_laws.specs.Ledger.{IsLedger, IsOpenLedger, NamesEntries}
use Rattle.book_laws.specs.Limits.{AreMovedWithin, AreWithinLimits}
use Rattle.book_laws.specs.Moves.{AreLegs, HasRoomFor, HasRoomForLegs, HasRoomForLine, HasRoomForLines, HasRoomForOppositeLegs, IsMovedAlone, IsMovedByAccount, IsMovedByEntry, IsMovedByLine, MovesNothing, StandsLast, with_proof}
use Rattle.book_laws.specs.Next.{AreNextLines, IsNextAccount, IsNextEntry, IsNextLine, IsNextProof, IsNextRelease, IsNextSlip, lined}
use Rattle.book_laws.specs.PlanMoves.{IsMovedByPlan, IsPosting}

-- the books are the ledger within its limits
abbrev pub BooksParts : Type 0
BooksParts = (w : WorldLists) → Books w ↔ (IsLedger w × AreWithinLimits w)

-- limits that held, and hold of all that moved, hold
abbrev pub LimitsMoved : Type 0
LimitsMoved = (before after : WorldLists) → AreWithinLimits before → AreMovedWithin before after → AreWithinLimits after

-- what moved by one amount and then by another at the same key moved by both
abbrev pub MovedTwice : Type 0
MovedTwice = (before middle after : ℕ → ℤ) (key : ℕ) (first second : ℤ) → IsMovedAlone before middle key first → IsMovedAlone middle after key second
    → IsMovedAlone before after key (first +ℤ second)

-- ---- an entry

-- an entry that may come next keeps the open ledger, though the entries that it names are still to come
abbrev pub EntryKeepsLedger : Type 0
EntryKeepsLedger = (w : WorldLists) (e : Entry) → IsNextEntry w e → IsOpenLedger w → IsOpenLedger (written (write.Entry e) w)

abbrev pub EntryMoves : Type 0
EntryMoves = (w : WorldLists) (e : Entry) → IsMovedByEntry w e

abbrev pub EntryStandsLast : Type 0
EntryStandsLast = (w : WorldLists) (e : Entry) → IsNextEntry w e → IsOpenLedger w → StandsLast w e

-- an entry alone: it may come next, the entries that it names are there, and there is room for it
abbrev pub EntryKeepsBooks : Type 0
EntryKeepsBooks = (w : WorldLists) (e : Entry) → IsNextEntry w e → NamesEntries w.entries e → HasRoomFor w e → Books w → Books (written (write.Entry e) w)

-- the two legs of a transfer: limits, and the entries that they name, are judged of both together
abbrev pub LegsKeepBooks : Type 0
LegsKeepBooks = (w : WorldLists) (first second : Entry) → AreLegs w first second → HasRoomForLegs w first second → Books w
    → Books (written (write.Entry second) (written (write.Entry first) w))

-- the same of legs that take from one account what they give the other, as those of a transfer do
abbrev pub OppositeLegsKeepBooks : Type 0
OppositeLegsKeepBooks = (w : WorldLists) (first second : Entry) → AreLegs w first second → HasRoomForOppositeLegs w first second → Books w
    → Books (written (write.Entry second) (written (write.Entry first) w))

-- ---- an account

abbrev pub AccountKeepsLedger : Type 0
AccountKeepsLedger = (w : WorldLists) (a : Account) → IsNextAccount w a → IsLedger w → IsLedger (written (write.Account a) w)

abbrev pub AccountMoves : Type 0
AccountMoves = (w : WorldLists) (a : Account) → IsNextAccount w a → IsOpenLedger w → IsMovedByAccount w a

-- its home has room for it
abbrev pub AccountKeepsBooks : Type 0
AccountKeepsBooks = (w : WorldLists) (a : Account) → IsNextAccount w a → account_count a.home w.accounts + 1 ≤ max_accounts → Books w → Books (written (write.Account a) w)

-- ---- the proof of a day with the next day of its branch: neither keeps the ledger without the other

abbrev pub ProofAndDayKeepLedger : Type 0
ProofAndDayKeepLedger = (w : WorldLists) (p : Proof) → IsNextProof w p → IsLedger w → IsLedger (with_proof p w)

abbrev pub ProofAndDayMoveNothing : Type 0
ProofAndDayMoveNothing = (w : WorldLists) (p : Proof) → MovesNothing w (with_proof p w)

abbrev pub ProofAndDayKeepBooks : Type 0
ProofAndDayKeepBooks = (w : WorldLists) (p : Proof) → IsNextProof w p → Books w → Books (with_proof p w)

-- ---- a release that is used: its mark is in no condition

abbrev pub UsedKeepsLedger : Type 0
UsedKeepsLedger = (w : WorldLists) (k : ReleaseKey) → IsLedger w → IsLedger (written (write.Used k) w)

abbrev pub UsedMovesNothing : Type 0
UsedMovesNothing = (w : WorldLists) (k : ReleaseKey) → MovesNothing w (written (write.Used k) w)

abbrev pub UsedKeepsBooks : Type 0
UsedKeepsBooks = (w : WorldLists) (k : ReleaseKey) → Books w → Books (written (write.Used k) w)

-- ---- a release that is given

abbrev pub ReleaseKeepsLedger : Type 0
ReleaseKeepsLedger = (w : WorldLists) (r : Release) → IsNextRelease w r → IsLedger w → IsLedger (written (write.Release r) w)

abbrev pub ReleaseMovesNothing : Type 0
ReleaseMovesNothing = (w : WorldLists) (r : Release) → MovesNothing w (written (write.Release r) w)

abbrev pub SlipKeepsLedger : Type 0
SlipKeepsLedger = (w : WorldLists) (s : SlipRow) → IsNextSlip w s → IsLedger w → IsLedger (written (write.Slip s) w)

abbrev pub SlipKeepsBooks : Type 0
SlipKeepsBooks = (w : WorldLists) (s : SlipRow) → IsNextSlip w s → Books w → Books (written (write.Slip s) w)

abbrev pub ReleaseKeepsBooks : Type 0
ReleaseKeepsBooks = (w : WorldLists) (r : Release) → IsNextRelease w r → Books w → Books (written (write.Release r) w)

-- ---- a session: it touches users alone

abbrev pub SessionKeepsLedger : Type 0
SessionKeepsLedger = (w : WorldLists) (s : Session) → s.session ≤ max_key → IsLedger w → IsLedger (written (write.Session s) w)

abbrev pub SessionMovesNothing : Type 0
SessionMovesNothing = (w : WorldLists) (s : Session) → MovesNothing w (written (write.Session s) w)

abbrev pub SessionKeepsBooks : Type 0
SessionKeepsBooks = (w : WorldLists) (s : Session) → s.session ≤ max_key → Books w → Books (written (write.Session s) w)

-- ---- a cash line

-- cash balances exactly where the gap is 0
abbrev pub CashBalances : Type 0
CashBalances = (branches : List Branch) (lines : List CashLine) (branch : ℕ) → IsBranch branches branch → IsCashBalanced branches lines branch ↔ cash_gap branch lines ≡ pos 0

-- all but the equation of cash, whose gap moves
abbrev pub LineKeepsLedger : Type 0
LineKeepsLedger = (w : WorldLists) (l : CashLine) → IsNextLine w l → IsOpenLedger w → IsOpenLedger (written (write.Line l) w)

abbrev pub LineMoves : Type 0
LineMoves = (w : WorldLists) (l : CashLine) → IsMovedByLine w l

-- a line alone, which explains itself
abbrev pub LineKeepsBooks : Type 0
LineKeepsBooks = (w : WorldLists) (l : CashLine) → IsNextLine w l → gap_share l ≡ pos 0 → HasRoomForLine w l → Books w → Books (written (write.Line l) w)

-- Lines of which none need explain itself, as those of cash that is moved: together they leave each branch's gap, and the limits are
-- judged of all of them.
abbrev pub LinesKeepBooks : Type 0
LinesKeepBooks = (w : WorldLists) (lines : List CashLine) → AreNextLines w lines
    → ((branch : ℕ) → total (map (λ l. if l.branch == branch then gap_share l else pos 0) lines) ≡ pos 0) → AreWithinLimits (lined lines w) → Books w → Books (lined lines w)

-- the same of lines of one branch, of which the limits are judged by what they come to
abbrev pub LinesOfBranchKeepBooks : Type 0
LinesOfBranchKeepBooks = (w : WorldLists) (branch : ℕ) (lines : List CashLine) → AreNextLines w lines → AllByRecursion (λ l. l.branch ≡ branch) lines
    → total (map gap_share lines) ≡ pos 0 → HasRoomForLines w branch lines → Books w → Books (lined lines w)

-- ---- a plan

-- of entries and cash lines alone, whether the books hold or not
abbrev pub PlanMoves : Type 0
PlanMoves = (w : WorldLists) (changes : List RowWrite) → AllByRecursion IsPosting changes → IsMovedByPlan w changes
