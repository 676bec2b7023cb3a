-- What holds of every move of cash, and of every day that is closed, that no rule of the books denies: it is a well-formed transaction, of books that hold
-- it makes books that hold, as Clark and Wilson's rule C2 asks of every transformation procedure.
use Rattle.std.specs.Prelude.{◌≡◌, None}
use Rattle.bank_books.specs.Books.{Books}
use Rattle.bank_books.specs.Range.{IsUserNumber}
use Rattle.bank_books.specs.WorldLists.{WorldLists}
use Rattle.bank_books.specs.declared.signature.Signature.{Signature}
use Rattle.counter_ops.specs.DrawerOff.{IsDrawerOff}
use Rattle.counter_ops.specs.MoveCash.{IsMoveCash}
use Rattle.counter_ops.specs.DrawerOn.{IsDrawerOn}
use Rattle.counter_ops.specs.declared.close_day.CloseDay.{CloseDay}
use Rattle.counter_ops.specs.declared.drawer_off.DrawerOff.{DrawerOff}
use Rattle.counter_ops.specs.declared.drawer_on.DrawerOn.{DrawerOn}
use Rattle.counter_ops.specs.declared.move_cash.MoveCash.{MoveCash}
use Rattle.rule_tests.specs.Signed.{IsSigned}
use Rattle.drawers.specs.CloseDay.{close_day_effect, closing_rows, first_against_close_day}
use Rattle.drawers.specs.DrawerOff.{drawer_off_effect, first_against_drawer_off}
use Rattle.drawers.specs.DrawerOn.{drawer_on_effect, first_against_drawer_on}
use Rattle.drawers.specs.DrawerRows.{drawer_rows}
use Rattle.drawers.specs.MoveCash.{first_against_move, move_effect, move_rows}

-- who puts a drawer on holds it from then on, and bears the number of a user
abbrev pub DrawerOnKeepsBooks : Type 0
DrawerOnKeepsBooks = (w : WorldLists) (form : DrawerOn) (by : Signature) → Books w → IsSigned w by → IsUserNumber by.user → IsDrawerOn form
    → first_against_drawer_on (drawer_rows w form.teller form.branch) form ≡ None → Books (drawer_on_effect w form by)

abbrev pub DrawerOffKeepsBooks : Type 0
DrawerOffKeepsBooks = (w : WorldLists) (form : DrawerOff) (by : Signature) → Books w → IsSigned w by → IsDrawerOff form
    → first_against_drawer_off (drawer_rows w form.teller form.branch) form by ≡ None → Books (drawer_off_effect w form by)

abbrev pub MoveCashKeepsBooks : Type 0
MoveCashKeepsBooks = (w : WorldLists) (move : MoveCash) (by : Signature) → Books w → IsSigned w by → IsMoveCash move
    → first_against_move (move_rows w move) move by ≡ None → Books (move_effect w move by)

abbrev pub CloseDayKeepsBooks : Type 0
CloseDayKeepsBooks = (w : WorldLists) (form : CloseDay) → Books w → first_against_close_day (closing_rows w form) ≡ None → Books (close_day_effect w form)
