-- A transfer: what it looks at in two Worlds, and what it changes.
use Rattle.std.proofs.Common.{List, arith, refl, ℕ, ◌≡◌}
use Rattle.bank_books.specs.Books.{Books}
use Rattle.bank_books.specs.WorldLists.{WorldLists}
use Rattle.bank_books.specs.declared.rows.Teller.{Teller}
use Rattle.bank_books.specs.declared.signature.Signature.{Signature}
use Rattle.counter_ops.specs.Touched.{account_item, branch_item, drawer_item, history_item, teller_item, touched_by_transfer}
use Rattle.counter_ops.specs.declared.op.Op.TheVariants as op
use Rattle.counter_ops.specs.declared.transfer.Transfer.{Transfer}
use Rattle.postings.specs.Transfer.{transfer_changes, transfer_rows}
use Rattle.postings.specs.declared.transfer.TransferRows.{TransferRows}
use Rattle.bank_meaning.specs.Operations.{meaning_of}
use Rattle.two_worlds.specs.Laws.{IsNotGiven}
use Rattle.two_worlds.proofs.IsLocalForm.{IsLocalForm}
use Rattle.two_worlds.proofs.PlanParts.{IsCarried, by_row, passed_teller}
use Rattle.two_worlds.proofs.SameRows.{same_account, same_ledger, same_teller}
use Rattle.two_worlds.proofs.Within.{AreAlike, IsOfBranch}

-- ---- what it looks at

module _ (w v : WorldLists) (books : Books w) (books' : Books v) where
  rows_same : (transfer : Transfer) → AreAlike (touched_by_transfer transfer) w v → transfer_rows w transfer ≡ transfer_rows v transfer
  rows_same transfer same =
      let source = same_account w v books books' transfer.source (same (account_item transfer.source) (0, omega arith, refl)) in
      let target = same_account w v books books' transfer.target (same (account_item transfer.target) (1, omega arith, refl)) in
      let teller = same_teller w v books books' transfer.teller (same (teller_item transfer.teller) (2, omega arith, refl)) (same (drawer_item transfer.teller) (5, omega arith, refl)) in
      let ledger = same_ledger w v books books' transfer.branch (same (branch_item transfer.branch) (3, omega arith, refl)) (same (history_item transfer.branch) (4, omega arith, refl)) in
      λ i. record { source = source i; target = target i; teller = teller i; ledger = ledger i }

-- ---- what it changes

transfers : (tellers : List Teller) (other : ℕ → ℕ → Type 0) (rows : TransferRows) (transfer : Transfer) (by : Signature) → IsOfBranch tellers transfer.teller transfer.branch
    → IsCarried (touched_by_transfer transfer) tellers other (transfer_changes rows transfer by)
transfers tellers other rows transfer by of =
    let items = touched_by_transfer transfer in
    by_row items tellers other _ rows.source (λ source. by_row items tellers other _ rows.target (λ target. by_row items tellers other _ rows.ledger (λ ledger. record {
      releases = λ user number is o. refl;
      within = (
        record { account = (0, omega arith, refl); teller = (2, omega arith, refl); branch = (3, omega arith, refl); history = (4, omega arith, refl); of = of },
        (record { account = (1, omega arith, refl); teller = (2, omega arith, refl); branch = (3, omega arith, refl); history = (4, omega arith, refl); of = of }, tt),
      );
    })))

pub transfer_is_local : (form : Transfer) → IsLocalForm (op.Transfer form)
transfer_is_local form = record {
  rows_same = λ by w v bank bank' same held agree. rows_same w v bank.books bank'.books form same;
  carried = λ by w distinct proper none.
      let of = passed_teller w (meaning_of (op.Transfer form) by w) form.teller form.branch distinct refl none in
      transfers w.tellers (IsNotGiven w (op.Transfer form)) (transfer_rows w form) form by of;
}
