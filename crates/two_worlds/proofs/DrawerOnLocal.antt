-- A drawer that is put on: what it looks at in two Worlds, and what it changes.
use Rattle.std.proofs.Common.{List, arith, inl, inr, refl, ℕ, ◌≢◌}
use Rattle.bank_books.specs.declared.rows.Teller.{Teller}
use Rattle.bank_books.specs.declared.signature.Signature.{Signature}
use Rattle.counter_ops.specs.Touched.{touched_by_drawer}
use Rattle.counter_ops.specs.declared.drawer_on.DrawerOn.{DrawerOn}
use Rattle.counter_ops.specs.declared.op.Op.TheVariants as op
use Rattle.drawers.specs.DrawerOn.{drawer_on_changes}
use Rattle.drawers.specs.DrawerRows.{drawer_rows}
use Rattle.drawers.specs.declared.drawer_rows.DrawerRows.{DrawerRows}
use Rattle.bank_meaning.specs.Operations.{meaning_of}
use Rattle.two_worlds.specs.Laws.{IsNotGiven}
use Rattle.two_worlds.proofs.IsLocalForm.{IsLocalForm}
use Rattle.two_worlds.proofs.PlanParts.{IsCarried, by_row, not_nothing, passed_teller}
use Rattle.two_worlds.proofs.SameRows.{same_drawer}
use Rattle.two_worlds.proofs.Within.{IsOfBranch}

puts_on : (tellers : List Teller) (other : ℕ → ℕ → Type 0) (rows : DrawerRows) (d : DrawerOn) (by : Signature) → d.teller ≢ 0 → IsOfBranch tellers d.teller d.branch
    → IsCarried (touched_by_drawer d.teller d.branch) tellers other (drawer_on_changes rows d by)
puts_on tellers other rows d by drawer of =
    by_row (touched_by_drawer d.teller d.branch) tellers other _ rows.cash_book (λ book. record {
      releases = λ user number is o. refl;
      within = (
        record { branch = (1, omega arith, refl); place = inl (refl, (3, omega arith, refl)) },
        (record { branch = (1, omega arith, refl); place = inr (drawer, (2, omega arith, refl), of) }, tt),
      );
    })

pub drawer_on_is_local : (form : DrawerOn) → IsLocalForm (op.DrawerOn form)
drawer_on_is_local form = record {
  rows_same = λ by w v bank bank' same held agree. same_drawer w v bank.books bank'.books form.teller form.branch same;
  carried = λ by w distinct proper none.
      let of = passed_teller w (meaning_of (op.DrawerOn form) by w) form.teller form.branch distinct refl none in
      puts_on w.tellers (IsNotGiven w (op.DrawerOn form)) (drawer_rows w form.teller form.branch) form by (not_nothing form.teller proper.teller) of;
}
