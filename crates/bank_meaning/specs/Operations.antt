-- The operations: one line a form, in each table.
use Rattle.std.specs.Prelude.{Bool}
use Rattle.bank_books.specs.WorldLists.{WorldLists}
use Rattle.bank_books.specs.declared.signature.Signature.{Signature}
use Rattle.counter_ops.specs.declared.op.Op.{Op}
use Rattle.counter_ops.specs.declared.op.Op.TheVariants as op
use Rattle.bank_meaning.specs.Accounts.{accounts_form, accounts_meaning}
use Rattle.bank_meaning.specs.Balance.{balance_form, balance_meaning}
use Rattle.bank_meaning.specs.CloseDay.{close_day_form, close_day_meaning}
use Rattle.bank_meaning.specs.Correct.{correct_form, correct_meaning}
use Rattle.bank_meaning.specs.DrawerOff.{drawer_off_form, drawer_off_meaning}
use Rattle.bank_meaning.specs.DrawerOn.{drawer_on_form, drawer_on_meaning}
use Rattle.bank_meaning.specs.MoveCash.{move_form, move_meaning}
use Rattle.bank_meaning.specs.NewAccount.{new_account_form, new_account_meaning}
use Rattle.bank_meaning.specs.Post.{post_form, post_meaning}
use Rattle.bank_meaning.specs.Proof.{proof_form, proof_meaning}
use Rattle.bank_meaning.specs.Release.{release_form, release_meaning}
use Rattle.bank_meaning.specs.Statement.{statement_form, statement_meaning}
use Rattle.bank_meaning.specs.Transfer.{transfer_form, transfer_meaning}
use Rattle.bank_meaning.specs.Form.{Form}
use Rattle.bank_meaning.specs.Meaning.{Meaning}
use Rattle.bank_meaning.specs.Moves.{Moves}

-- all that an operation is
abbrev pub form_of : Op → Form
form_of (op.Post form) = post_form form
form_of (op.Transfer form) = transfer_form form
form_of (op.Correct form) = correct_form form
form_of (op.DrawerOn form) = drawer_on_form form
form_of (op.DrawerOff form) = drawer_off_form form
form_of (op.MoveCash form) = move_form form
form_of (op.NewAccount form) = new_account_form form
form_of (op.Release form) = release_form form
form_of (op.Balance form) = balance_form form
form_of (op.Statement form) = statement_form form
form_of (op.Accounts form) = accounts_form form
form_of (op.Proof form) = proof_form form
form_of (op.CloseDay form) = close_day_form form

-- what an operation is in a World by the books, where the rows that it adds bear this signature: what its form is there, which
-- the code that carries it out is proved against by name
abbrev pub meaning_of : Op → Signature → WorldLists → Meaning
meaning_of (op.Post form) by w = post_meaning form by w
meaning_of (op.Transfer form) by w = transfer_meaning form by w
meaning_of (op.Correct form) by w = correct_meaning form by w
meaning_of (op.DrawerOn form) by w = drawer_on_meaning form by w
meaning_of (op.DrawerOff form) by w = drawer_off_meaning form by w
meaning_of (op.MoveCash form) by w = move_meaning form by w
meaning_of (op.NewAccount form) by w = new_account_meaning form w
meaning_of (op.Release form) by w = release_meaning form by w
meaning_of (op.Balance form) by w = balance_meaning form w
meaning_of (op.Statement form) by w = statement_meaning form w
meaning_of (op.Accounts form) by w = accounts_meaning form by w
meaning_of (op.Proof form) by w = proof_meaning form w
meaning_of (op.CloseDay form) by w = close_day_meaning form w

-- it is answered by a report
abbrev pub is_report : Op → Bool
is_report o = (form_of o).is_report

-- what it adds to balances and histories
abbrev pub moves_of : Op → Moves
moves_of o = (form_of o).moves
