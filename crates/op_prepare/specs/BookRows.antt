-- The rows of the books that an operation is judged on, by its form.
use Rattle.bank_books.specs.Records.{account_record, branch_record}
use Rattle.bank_books.specs.WorldLists.{WorldLists}
use Rattle.counter_ops.specs.declared.op.Op.{Op}
use Rattle.counter_ops.specs.declared.op.Op.TheVariants as op
use Rattle.drawers.specs.CloseDay.{closing_rows}
use Rattle.drawers.specs.DrawerRows.{drawer_rows}
use Rattle.drawers.specs.MoveCash.{move_rows}
use Rattle.postings.specs.Correct.{correct_rows}
use Rattle.postings.specs.Post.{post_rows}
use Rattle.postings.specs.Transfer.{transfer_rows}
use Rattle.bank_meaning.specs.NewAccount.{opening_rows}
use Rattle.bank_meaning.specs.Release.{release_rows}
use Rattle.op_prepare.specs.declared.book_rows.BookRows.{BookRows}
use Rattle.op_prepare.specs.declared.book_rows.BookRows.TheVariants as rows

-- the rows of the books in a World by which an operation is judged, one line a form
abbrev pub book_rows : WorldLists → Op → BookRows
book_rows w (op.Post post) = rows.Post (post_rows w post)
book_rows w (op.Transfer transfer) = rows.Transfer (transfer_rows w transfer)
book_rows w (op.Correct correct) = rows.Correct (correct_rows w correct)
book_rows w (op.DrawerOn drawer_on) = rows.DrawerOn (drawer_rows w drawer_on.teller drawer_on.branch)
book_rows w (op.DrawerOff drawer_off) = rows.DrawerOff (drawer_rows w drawer_off.teller drawer_off.branch)
book_rows w (op.MoveCash move_cash) = rows.MoveCash (move_rows w move_cash)
book_rows w (op.NewAccount form) = rows.NewAccount (opening_rows w form)
book_rows w (op.Release release) = rows.Release (release_rows w release)
book_rows w (op.Balance balance) = rows.Balance (account_record w balance.account)
book_rows w (op.Statement statement) = rows.Statement (account_record w statement.account)
book_rows w (op.Accounts accounts) = rows.Accounts
book_rows w (op.Proof proof) = rows.Proof (branch_record w proof.branch)
book_rows w (op.CloseDay close_day) = rows.CloseDay (closing_rows w close_day)
