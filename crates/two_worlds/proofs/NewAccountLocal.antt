-- An account that is opened: what it looks at in two Worlds, and what it changes.
use Rattle.std.proofs.Common.{[], ap, arith, refl, sym, ℕ, ◌∙◌, ◌∷◌, ◌≡◌}
use Rattle.std.specs.Prelude.{option_map}
use Rattle.bank_books.specs.Books.{Books}
use Rattle.bank_books.specs.Records.{branch_record}
use Rattle.bank_books.specs.WorldLists.{WorldLists}
use Rattle.counter_ops.specs.Touched.{account_item, branch_item}
use Rattle.counter_ops.specs.declared.new_account.NewAccount.{NewAccount}
use Rattle.counter_ops.specs.declared.op.Op.TheVariants as op
use Rattle.bank_meaning.specs.NewAccount.{opening_rows}
use Rattle.two_worlds.specs.View.{view_of}
use Rattle.two_worlds.proofs.IsLocalForm.{IsLocalForm}
use Rattle.two_worlds.proofs.SameRows.{same_account}
use Rattle.two_worlds.proofs.Seen.{homed_in, homed_seen}
use Rattle.two_worlds.proofs.Within.{AreAlike}

module _ (w v : WorldLists) (books : Books w) (books' : Books v) where
  same_homed : (key : ℕ) → view_of w (branch_item key) ≡ view_of v (branch_item key) → option_map (λ b. b.accounts) (branch_record w key) ≡ option_map (λ b. b.accounts) (branch_record v key)
  same_homed key same = homed_seen w key ∙ ap homed_in same ∙ sym (homed_seen v key)

  rows_same : (form : NewAccount) → AreAlike (account_item form.account ∷ branch_item form.branch ∷ []) w v → opening_rows w form ≡ opening_rows v form
  rows_same form same =
      let account = same_account w v books books' form.account (same (account_item form.account) (0, omega arith, refl)) in
      let homed = same_homed form.branch (same (branch_item form.branch) (1, omega arith, refl)) in
      λ i. record { account = account i; homed = homed i }

pub new_account_is_local : (form : NewAccount) → IsLocalForm (op.NewAccount form)
new_account_is_local form = record {
  rows_same = λ by w v bank bank' same held agree. rows_same w v bank.books bank'.books form same;
  carried = λ by w distinct proper none. record {
    releases = λ user number is o. refl;
    within = (((0, omega arith, refl), (1, omega arith, refl)), tt);
  };
}
