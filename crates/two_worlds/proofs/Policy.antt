-- The rules of the policy deny alike in two Worlds that agree.
use Rattle.std.proofs.Common.{◌≡◌, ℕ, ℤ, pos, get_or, Bool, true, false, not, refl, ap, ap₂, arith, sym, subst, ◌∙◌, ◌==◌, ◌&&◌, Option, Some, None, Contains}
use Rattle.std.specs.Prelude.{if◌then◌else◌, option_and_then, option_map}
use Rattle.std.specs.Option.{option_map_or}
use Rattle.std.specs.Cmp.Lexicographic.{pointwise}
use Rattle.std.specs.Cmp.Rules.{signed_items}
use Rattle.std.specs.Ordering.{int_eq}
use Rattle.std.proofs.lemmas.Bool.{and_parts, eqb-true, false≢true}
use Rattle.std.proofs.lemmas.Int.{ints}
use Rattle.bank_policy.specs.HeldRows.{standing, standing_of, user_row}
use Rattle.bank_policy.specs.Tests.{current, is_certified, is_held, is_held_for}
use Rattle.bank_terms.specs.Procedure.{number_of}
use Rattle.bank_terms.specs.declared.operation_row.OperationRow.{OperationRow}
use Rattle.bank_terms.specs.declared.procedure.Procedure.{Procedure}
use Rattle.bank_terms.specs.declared.procedure.Procedure.TheVariants as procedure
use Rattle.bank_terms.specs.declared.rule.Rule.{Rule}
use Rattle.bank_terms.specs.declared.rule.Rule.TheVariants as rule
use Rattle.bank_books.specs.Books.{Books}
use Rattle.bank_books.specs.WorldLists.{WorldLists}
use Rattle.bank_books.specs.declared.rows.Release.{Release}
use Rattle.bank_terms.proofs.Procedures.{one_procedure}
use Rattle.counter_ops.specs.Releasable.{branch_of, op_of}
use Rattle.counter_ops.specs.Rows.{row_of}
use Rattle.counter_ops.specs.declared.op.Op.{Op}
use Rattle.counter_ops.specs.declared.op.Op.TheVariants as op
use Rattle.counter_ops.specs.declared.releasable.Releasable.{Releasable}
use Rattle.counter_ops.specs.declared.releasable.Releasable.TheVariants as releasable
use Rattle.keyed_rows.proofs.Rows.{find-found}
use Rattle.world_reads.specs.BookReads.{is_release, release}
use Rattle.counter_ops.specs.Touched.{amount, branch_item, touched}
use Rattle.bank_meaning.specs.NamedRelease.{counts, is_active, is_giver_for, is_of_today, is_same_operation, release_grounds_of}
use Rattle.bank_meaning.specs.PolicyRules.{asker, grounds, is_identified, is_released, leave_of, policy_denies}
use Rattle.bank_meaning.specs.declared.execution.Execution.{Execution}
use Rattle.bank_meaning.specs.declared.leave.Authorization.TheVariants as leave
use Rattle.two_worlds.specs.Agree.{AgreeOnGiver, AgreeOnPolicy, AgreeOnRelease}
use Rattle.two_worlds.specs.Laws.{is_blind}
use Rattle.two_worlds.proofs.SameRows.{same_day}
use Rattle.two_worlds.proofs.Places.{at_counter, branch_there}
use Rattle.two_worlds.proofs.Within.{AreAlike}

-- ---- the rules that look at no item

pub standing_same : (w v : WorldLists) (o : Option ℕ) → user_row w.policy (option_map_or (λ user. user) o 0) ≡ user_row v.policy (option_map_or (λ user. user) o 0)
    → option_and_then (λ user. standing w.policy user) o ≡ option_and_then (λ user. standing v.policy user) o
standing_same w v None same = refl
standing_same w v (Some user) same = ap (option_map standing_of) same

pub blind_same : (w v : WorldLists) (x : Execution) → AgreeOnPolicy w v x → (r : Rule) → is_blind r ≡ true → policy_denies r (grounds w x) ≡ policy_denies r (grounds v x)
blind_same w v x agree rule.Identity is = ap (λ o. not (is_identified o x.who.session)) (standing_same w v x.who.user agree.user)
blind_same w v x agree rule.NotCertified is = ap (λ rows. not (is_certified rows (touched x.op))) agree.relations
blind_same w v x agree rule.NoTriple is = ap (λ rows. not (is_held (current x.moment rows) (touched x.op))) agree.held
blind_same w v x agree rule.Limit is = ap (λ rows. not (is_held_for (current x.moment rows) (touched x.op) (amount x.op)) && x.who.release == 0) agree.held
blind_same w v x agree rule.Release is = absurd (false≢true is)
blind_same w v x agree _ is = refl

-- ---- an operation that is released touches the branch of its release

-- where the row of an operation that may be released has its branch
abbrev branch_place : Procedure → Option ℕ
branch_place procedure.Post = Some 2
branch_place procedure.Transfer = Some 3
branch_place procedure.Correct = Some 0
branch_place procedure.DrawerOn = Some 1
branch_place procedure.MoveCash = Some 2
branch_place _ = None

abbrev branch_in : OperationRow → Option ℤ
branch_in row = option_map (λ k. get_or row.members k (pos 0)) (branch_place row.form)

branch_stated : (r : Releasable) → branch_in (row_of (op_of r)) ≡ Some (pos (branch_of r))
branch_stated (releasable.Post p) = refl
branch_stated (releasable.Transfer t) = refl
branch_stated (releasable.Correct c) = refl
branch_stated (releasable.DrawerOn d) = refl
branch_stated (releasable.MoveCash m) = refl

one_number : (a b : ℕ) → ◌≡◌ {A = Option ℤ} (Some (pos a)) (Some (pos b)) → a ≡ b
one_number a b same = let is : pos a ≡ pos b = cc in omega (arith, ints)

branch_among : (o : Op) (n : ℕ) → branch_in (row_of o) ≡ Some (pos n) → Contains (touched o) (branch_item n)
branch_among (op.Post p) n is = subst (λ b. Contains (touched (op.Post p)) (branch_item b)) (one_number p.branch n is) (2, omega arith, refl)
branch_among (op.Transfer t) n is = subst (λ b. Contains (touched (op.Transfer t)) (branch_item b)) (one_number t.branch n is) (3, omega arith, refl)
branch_among (op.Correct c) n is = subst (λ b. Contains (touched (op.Correct c)) (branch_item b)) (one_number c.branch n is) (at_counter c (branch_item c.branch) (1, omega arith, refl))
branch_among (op.DrawerOn d) n is = subst (λ b. Contains (touched (op.DrawerOn d)) (branch_item b)) (one_number d.branch n is) (1, omega arith, refl)
branch_among (op.MoveCash m) n is = subst (λ b. Contains (touched (op.MoveCash m)) (branch_item b)) (one_number m.branch n is) (branch_there m)
branch_among _ n is = absurd cc

same_of_test : (row other : OperationRow) → is_same_operation row other ≡ true → row ≡ other
same_of_test row other is =
    let parts = and_parts (number_of row.form == number_of other.form) (pointwise int_eq row.members other.members) is in
    ap (λ f. record { form = f; members = row.members }) (one_procedure row.form other.form (eqb-true (number_of row.form) (number_of other.form) parts.0))
    ∙ ap (λ ms. record { form = other.form; members = ms }) ((signed_items row.members other.members).0 parts.1)

-- ---- the release

module _ (w v : WorldLists) (x : Execution) (books : Books w) (books' : Books v) (same : AreAlike (touched x.op) w v) where
  -- of the release that names exactly this operation, the branch is touched
  today_same : (r : Release) → Contains w.releases r → is_same_operation r.operation (row_of x.op) ≡ true → is_of_today (release_grounds_of w x.moment r) ≡ is_of_today (release_grounds_of v x.moment r)
  today_same r there is =
      let holds = (books.in_range.releases r there).operation in
      let row = holds.1.1 ∙ same_of_test r.operation (row_of x.op) is in
      let stated = sym (ap branch_in row) ∙ branch_stated holds.0 in
      let among = subst (λ b. Contains (touched x.op) (branch_item b)) holds.1.2 (branch_among x.op (branch_of holds.0) stated) in
      ap (λ o. option_map_or (λ day. r.day == day) o false) (same_day w v books books' r.branch (same (branch_item r.branch) among))

  counts_same : (r : Release) → Contains w.releases r → AgreeOnGiver w v r.giver
      → counts (release_grounds_of w x.moment r) (asker x.who) (row_of x.op) (touched x.op) (amount x.op) ≡ counts (release_grounds_of v x.moment r) (asker x.who) (row_of x.op) (touched x.op) (amount x.op)
  counts_same r there giver = go (is_same_operation r.operation (row_of x.op)) refl
    where
      given : is_giver_for (release_grounds_of w x.moment r) (asker x.who) (touched x.op) (amount x.op) ≡ is_giver_for (release_grounds_of v x.moment r) (asker x.who) (touched x.op) (amount x.op)
      given = ap₂ (λ o hs. not (r.giver == asker x.who) && (is_active (option_map standing_of o) && is_held_for (current x.moment hs) (touched x.op) (amount x.op))) giver.user giver.held

      go : (b : Bool) → is_same_operation r.operation (row_of x.op) ≡ b
          → (not r.used && (b && (is_of_today (release_grounds_of w x.moment r) && is_giver_for (release_grounds_of w x.moment r) (asker x.who) (touched x.op) (amount x.op))))
          ≡ (not r.used && (b && (is_of_today (release_grounds_of v x.moment r) && is_giver_for (release_grounds_of v x.moment r) (asker x.who) (touched x.op) (amount x.op))))
      go true is = ap₂ (λ a b. not r.used && (a && b)) (today_same r there is) given
      go false is = refl

  released_same : AgreeOnRelease w v x → is_released (grounds w x) ≡ is_released (grounds v x)
  released_same agree = go (release w (asker x.who) x.who.release) refl ∙ ap test agree.row
    where
      test : Option Release → Bool
      test o = option_map_or (λ r. counts r (asker x.who) (row_of x.op) (touched x.op) (amount x.op)) (option_map (release_grounds_of v x.moment) o) false

      go : (o : Option Release) → release w (asker x.who) x.who.release ≡ o
          → option_map_or (λ r. counts r (asker x.who) (row_of x.op) (touched x.op) (amount x.op)) (option_map (release_grounds_of w x.moment) o) false ≡ test o
      go None is = refl
      go (Some r) is = counts_same r (find-found (is_release (asker x.who) x.who.release) w.releases r is).0 (agree.giver r is)

  pub policy_same : AgreeOnPolicy w v x → AgreeOnRelease w v x → (r : Rule) → policy_denies r (grounds w x) ≡ policy_denies r (grounds v x)
  policy_same agree release rule.Identity = blind_same w v x agree rule.Identity refl
  policy_same agree release rule.NotCertified = blind_same w v x agree rule.NotCertified refl
  policy_same agree release rule.NoTriple = blind_same w v x agree rule.NoTriple refl
  policy_same agree release rule.Limit = blind_same w v x agree rule.Limit refl
  policy_same agree release rule.Release =
      ap₂ (λ rows b. not (is_held_for (current x.moment rows) (touched x.op) (amount x.op)) && (not (x.who.release == 0) && not b)) agree.held (released_same release)
  policy_same agree release _ = refl

-- what lets it be
pub leave_same : (w v : WorldLists) (x : Execution) → AgreeOnPolicy w v x → leave_of (grounds w x) ≡ leave_of (grounds v x)
leave_same w v x agree = ap (λ rows. if is_held_for (current x.moment rows) (touched x.op) (amount x.op) then leave.Triple else leave.Release x.who.release) agree.held
