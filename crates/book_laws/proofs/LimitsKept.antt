-- Limits that held, and that hold of what moved; and what moves twice.
use Rattle.std.proofs.Common.{◌≡◌, ℤ, ◌+ℤ◌, arith, sym, subst, ◌∙◌, inl, inr}
use Rattle.std.proofs.lemmas.Int.{ints}
use Rattle.money.specs.Range.{IsCents}
use Rattle.book_laws.specs.Laws.{LimitsMoved, MovedTwice}
use Rattle.book_laws.specs.Limits.{IsAccountWithin, IsBranchWithin, IsTellerWithin}

pub limits_moved : LimitsMoved
limits_moved before after held moved = record {
  branches = λ row there. elim (moved.branches row there) [
    | inl same ↦ subst IsBranchWithin (sym same.1) (held.branches row same.0)
    | inr within ↦ within
  ];
  tellers = λ row there. elim (moved.tellers row there) [
    | inl same ↦ subst IsTellerWithin (sym same.1) (held.tellers row same.0)
    | inr within ↦ within
  ];
  accounts = λ row there. elim (moved.accounts row there) [
    | inl same ↦ subst IsAccountWithin (sym same.1) (held.accounts row same.0)
    | inr within ↦ within
  ];
  entries = λ row there. elim (moved.entries row there) [
    | inl same ↦ subst (λ e. IsCents e.balance_after) (sym same.1) (held.entries row same.0)
    | inr within ↦ within
  ];
}

both : (a b c d d' : ℤ) → b ≡ a +ℤ d → c ≡ b +ℤ d' → c ≡ a +ℤ (d +ℤ d')
both a b c d d' first second = omega (arith, ints)

pub moved_twice : MovedTwice
moved_twice before middle after key first second one two = record {
  moved = both (before key) (middle key) (after key) first second one.moved two.moved;
  kept = λ other apart. two.kept other apart ∙ one.kept other apart;
}
