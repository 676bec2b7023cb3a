-- The release that is named authorizes an operation at both banks or at neither, or it is of the years before and for a
-- correction.
use Rattle.std.proofs.Common.{◌≡◌, ◌⊎◌, ◌==◌, ◌&&◌, ◌∙◌, ℕ, Bool, true, false, not, List, Option, Some, None, refl, ap, ap₂, sym, inl, inr}
use Rattle.std.specs.Prelude.{option_map}
use Rattle.std.specs.Option.{option_map_or}
use Rattle.std.proofs.lemmas.Bool.{eqb-true}
use Rattle.bank_terms.specs.declared.item.Cdi.{Cdi}
use Rattle.bank_terms.specs.declared.procedure.Procedure.TheVariants as procedure
use Rattle.bank_policy.specs.HeldRows.{standing, triples_of}
use Rattle.bank_policy.specs.Policy.{PolicyLists}
use Rattle.bank_policy.specs.Tests.{current, is_held_for}
use Rattle.bank_books.specs.Balances.{branch_row}
use Rattle.bank_books.specs.Records.{branch_record, branch_record_of}
use Rattle.bank_books.specs.WorldLists.{WorldLists}
use Rattle.bank_books.specs.declared.rows.Branch.{Branch}
use Rattle.bank_books.specs.declared.rows.Release.{Release}
use Rattle.counter_ops.specs.Releasable.{op_of}
use Rattle.counter_ops.specs.Rows.{row_of}
use Rattle.counter_ops.specs.Touched.{amount, touched}
use Rattle.counter_ops.specs.declared.op.Op.{Op}
use Rattle.counter_ops.specs.declared.releasable.Releasable.{Releasable}
use Rattle.counter_ops.specs.declared.releasable.Releasable.TheVariants as form
use Rattle.world_reads.specs.BookReads.{release}
use Rattle.bank_meaning.specs.NamedRelease.{counts, is_active, is_giver_for, is_of_today, is_same_operation, release_grounds_of}
use Rattle.bank_meaning.specs.PolicyRules.{asker, grounds, is_released}
use Rattle.bank_meaning.specs.declared.who.Who.{Who}
use Rattle.year_laws.specs.GoesOn.{AreBoth, Turn, op_at_old, releasable_at_old}
use Rattle.year_laws.specs.RequestsAlike.{NamesPastRelease}
use Rattle.year_laws.specs.StaysAlike.{IsForCorrection, IsReleaseAlike, IsSameRelease, StayAlike}
use Rattle.year_laws.proofs.AlikeRows.{day_same}
use Rattle.year_laws.proofs.SameAsked.{same_amount, same_touched}
use Rattle.year_laws.proofs.SameOperation.{same_operation}

-- ---- the release that is named

-- what a release is for is asked for at both banks as the operation is
released_row : (t : Turn) (o : Releasable) → op_of (releasable_at_old t o) ≡ op_at_old t (op_of o)
released_row t (form.Correct c) = refl
released_row t o = refl

same_rows : (t : Turn) (o : Releasable) (x : Op) → is_same_operation (row_of (op_of (releasable_at_old t o))) (row_of (op_at_old t x)) ≡ is_same_operation (row_of (op_of o)) (row_of x)
same_rows t o x = ap (λ y. is_same_operation (row_of y) (row_of (op_at_old t x))) (released_row t o) ∙ same_operation t (op_of o) x

third_false : (a b c d : Bool) → c ≡ false → (a && (b && (c && d))) ≡ false
third_false true true c d is = ap (λ x. x && d) is
third_false true false c d is = refl
third_false false b c d is = refl

-- a day that passes the test is the present one
day_is : (w : WorldLists) (day : ℕ) (o : Option Branch) → option_map_or (λ today. day == today) (option_map (λ b. b.row.day) (option_map (branch_record_of w) o)) false ≡ true
    → option_map (λ (row : Branch). row.day) o ≡ Some day
day_is w day None is = absurd cc
day_is w day (Some b) is = ap Some (sym (eqb-true day b.day is))

module _ (t : Turn) (old new : WorldLists) (stay : StayAlike t old new) (policy : old.policy ≡ new.policy) (who : Who) (moment : ℕ) (x : Op) where
  -- it bears the present day of its branch
  today : (r s : Release) → r.branch ≡ s.branch → r.day ≡ s.day → is_of_today (release_grounds_of old moment r) ≡ is_of_today (release_grounds_of new moment s)
  today r s branch day =
      ap (λ k. option_map_or (λ day. r.day == day) (option_map (λ b. b.row.day) (branch_record old k)) false) branch
      ∙ ap₂ (λ d o. option_map_or (λ day. d == day) o false) day (day_same (t.entries s.branch) (branch_record old s.branch) (branch_record new s.branch) (stay.alike.branches s.branch))

  -- who gave it could give it now
  abbrev giver_test : PolicyLists → ℕ → List Cdi → ℕ → Bool
  giver_test p giver items most = not (giver == asker who) && (is_active (standing p giver) && is_held_for (current moment (triples_of p giver procedure.Release)) items most)

  giver : (r s : Release) → IsSameRelease t r s
      → is_giver_for (release_grounds_of old moment r) (asker who) (touched (op_at_old t x)) (amount (op_at_old t x)) ≡ is_giver_for (release_grounds_of new moment s) (asker who) (touched x) (amount x)
  giver r s same =
      ap₂ (λ p g. giver_test p g (touched (op_at_old t x)) (amount (op_at_old t x))) policy same.giver ∙ ap₂ (λ items most. giver_test new.policy s.giver items most) (same_touched t x) (same_amount t x)

  abbrev counts_at : WorldLists → Release → Op → Bool
  counts_at w r o = counts (release_grounds_of w moment r) (asker who) (row_of o) (touched o) (amount o)

  valid_alike : (r s : Release) → IsSameRelease t r s → counts_at old r (op_at_old t x) ≡ counts_at new s x
  valid_alike r s same =
      let for_it =
      ap (λ row. is_same_operation row (row_of (op_at_old t x))) same.operation.1.0 ∙ same_rows t same.operation.0 x ∙ sym (ap (λ row. is_same_operation row (row_of x)) same.operation.1.1) in
      ap₂ (λ a b. a && b) (ap not same.used) (ap₂ (λ a b. a && b) for_it (ap₂ (λ a b. a && b) (today r s same.branch same.day) (giver r s same)))

  -- of another day it is valid at neither
  past_none : (r s : Release) → r ≡ s → is_of_today (release_grounds_of new moment s) ≡ false → counts_at old r (op_at_old t x) ≡ counts_at new s x
  past_none r s same other =
      third_false (not r.used) (is_same_operation r.operation (row_of (op_at_old t x))) _ (is_giver_for (release_grounds_of old moment r) (asker who) (touched (op_at_old t x)) (amount (op_at_old t x)))
      (today r s (ap (λ (y : Release). y.branch) same) (ap (λ (y : Release). y.day) same) ∙ other)
      ∙ sym (third_false (not s.used) (is_same_operation s.operation (row_of x)) _ (is_giver_for (release_grounds_of new moment s) (asker who) (touched x) (amount x)) other)

  -- At both or at neither, or else it is one of the years before that bears the present day.
  pub released_or_past : (is_released (grounds old (record { who = who; moment = moment; op = op_at_old t x })) ≡ is_released (grounds new (record { who = who; moment = moment; op = x })))
      ⊎ NamesPastRelease old new who
  released_or_past = go (release old (asker who) who.release) (release new (asker who) who.release) refl refl (stay.releases (asker who) who.release)
    where
      by_day : (r s : Release) → release old (asker who) who.release ≡ Some r → release new (asker who) who.release ≡ Some s → (r ≡ s) × IsForCorrection s → (c : Bool)
          → is_of_today (release_grounds_of new moment s) ≡ c → (counts_at old r (op_at_old t x) ≡ counts_at new s x) ⊎ NamesPastRelease old new who
      by_day r s a_is b_is past true is = inr (record { row = s; at_old = a_is ∙ ap Some past.0; at_new = b_is; correction = past.1; today = day_is new s.day (branch_row s.branch new.branches) is })
      by_day r s a_is b_is past false is = inl (past_none r s past.0 is)

      go : (a b : Option Release) → release old (asker who) who.release ≡ a → release new (asker who) who.release ≡ b → AreBoth (IsReleaseAlike t) a b
          → (option_map_or (λ g. counts g (asker who) (row_of (op_at_old t x)) (touched (op_at_old t x)) (amount (op_at_old t x))) (option_map (release_grounds_of old moment) a) false
          ≡ option_map_or (λ g. counts g (asker who) (row_of x) (touched x) (amount x)) (option_map (release_grounds_of new moment) b) false) ⊎ NamesPastRelease old new who
      go None None a_is b_is same = inl refl
      go (Some r) (Some s) a_is b_is (inl same) = inl (valid_alike r s same)
      go (Some r) (Some s) a_is b_is (inr past) = by_day r s a_is b_is past (is_of_today (release_grounds_of new moment s)) refl
      go None (Some s) a_is b_is same = absurd same
      go (Some r) None a_is b_is same = absurd same
