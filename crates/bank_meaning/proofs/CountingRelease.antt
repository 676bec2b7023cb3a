-- The test of a release asks what the model asks.
use Rattle.std.proofs.Common.{◌≡◌, ℕ, ◌==◌, ◌&&◌, Bool, true, false, not, Option, Some, None, refl, ap, ◌∙◌}
use Rattle.std.specs.Prelude.{option_map}
use Rattle.std.specs.Option.{option_map_or}
use Rattle.std.specs.Cmp.Lexicographic.{pointwise}
use Rattle.std.specs.Cmp.Rules.{signed_items}
use Rattle.std.specs.Ordering.{int_eq}
use Rattle.std.proofs.lemmas.Bool.{and_from, and_parts, eq-eqb, eqb-false, eqb-true, ne_eqb, not-true}
use Rattle.bank_policy.specs.HeldRows.{standing, triples_of}
use Rattle.bank_policy.specs.Tests.{current, is_held_for}
use Rattle.bank_policy.specs.declared.rows.Standing.{Standing}
use Rattle.bank_policy.proofs.RowsTell.{held_by_rows}
use Rattle.bank_policy.proofs.Tested.{held_up_to, up_to_holds}
use Rattle.bank_terms.specs.Procedure.{number_of}
use Rattle.bank_terms.specs.declared.operation_row.OperationRow.{OperationRow}
use Rattle.bank_terms.specs.declared.procedure.Procedure.TheVariants as procedure
use Rattle.bank_books.specs.Balances.{branch_row}
use Rattle.bank_books.specs.Records.{branch_record_of}
use Rattle.bank_books.specs.WorldLists.{WorldLists}
use Rattle.bank_books.specs.declared.rows.Branch.{Branch}
use Rattle.bank_books.specs.declared.rows.Release.{Release}
use Rattle.bank_terms.proofs.Procedures.{one_procedure}
use Rattle.counter_ops.specs.Rows.{row_of}
use Rattle.counter_ops.specs.declared.op.Op.{Op}
use Rattle.world_reads.specs.BookReads.{release}
use Rattle.counter_ops.specs.Touched.{amount, touched}
use Rattle.bank_meaning.specs.Laws.{Released}
use Rattle.bank_meaning.specs.NamedRelease.{counts, is_active, is_giver_for, is_of_today, is_same_operation, release_grounds_of}

not_so : (b : Bool) → b ≡ false → not b ≡ true
not_so true is = absurd cc
not_so false is = refl

-- ---- the operation

pub same_of_test : (row other : OperationRow) → is_same_operation row other ≡ true → row ≡ other
same_of_test row other is =
    let parts = and_parts (number_of row.form == number_of other.form) (pointwise int_eq row.members other.members) is in
    ap (λ f. record { form = f; members = row.members }) (one_procedure row.form other.form (eqb-true (number_of row.form) (number_of other.form) parts.0))
    ∙ ap (λ ms. record { form = other.form; members = ms }) ((signed_items row.members other.members).0 parts.1)

pub same_tested : (row other : OperationRow) → row ≡ other → is_same_operation row other ≡ true
same_tested row other same =
    and_from (number_of row.form == number_of other.form) (pointwise int_eq row.members other.members) (eq-eqb (number_of row.form) (number_of other.form) (ap (λ r. number_of r.form) same))
    ((signed_items row.members other.members).1 (ap (λ r. r.members) same))

-- ---- the day

abbrev day_test : WorldLists → ℕ → Option Branch → Bool
day_test w day o = option_map_or (λ today. day == today) (option_map (λ b. b.row.day) (option_map (branch_record_of w) o)) false

today_of_test : (w : WorldLists) (day : ℕ) (o : Option Branch) → day_test w day o ≡ true → (branch : Branch) × ((o ≡ Some branch) × (day ≡ branch.day))
today_of_test w day None is = absurd cc
today_of_test w day (Some branch) is = (branch, (refl, eqb-true day branch.day is))

today_tested : (w : WorldLists) (day : ℕ) (o : Option Branch) (branch : Branch) → o ≡ Some branch → day ≡ branch.day → day_test w day o ≡ true
today_tested w day o branch there same = ap (day_test w day) there ∙ eq-eqb day branch.day same

-- ---- who gave it

active_of_test : (o : Option Standing) → is_active o ≡ true → (giver : Standing) × ((o ≡ Some giver) × (giver.suspended ≡ false))
active_of_test None is = absurd cc
active_of_test (Some giver) is = (giver, (refl, not-true giver.suspended is))

active_tested : (o : Option Standing) (giver : Standing) → o ≡ Some giver → giver.suspended ≡ false → is_active o ≡ true
active_tested o giver there active = ap is_active there ∙ not_so giver.suspended active

-- ---- the release

module _ (w : WorldLists) (user number : ℕ) (op : Op) (moment : ℕ) where
  stated_row : (row : Release) → release w user number ≡ Some row → counts (release_grounds_of w moment row) user (row_of op) (touched op) (amount op) ≡ true → Released w user number op moment
  stated_row row there is =
      let g = release_grounds_of w moment row in
      let first = and_parts (not row.used) (is_same_operation row.operation (row_of op) && (is_of_today g && is_giver_for g user (touched op) (amount op))) is in
      let second = and_parts (is_same_operation row.operation (row_of op)) (is_of_today g && is_giver_for g user (touched op) (amount op)) first.1 in
      let third = and_parts (is_of_today g) (is_giver_for g user (touched op) (amount op)) second.1 in
      let fourth = and_parts (not (row.giver == user)) (is_active g.giver && is_held_for g.held (touched op) (amount op)) third.1 in
      let fifth = and_parts (is_active g.giver) (is_held_for g.held (touched op) (amount op)) fourth.1 in
      let day = today_of_test w row.day (branch_row row.branch w.branches) third.0 in
      let giver = active_of_test (standing w.policy row.giver) fifth.0 in
      let some = held_up_to (current moment (triples_of w.policy row.giver procedure.Release)) (touched op) (amount op) fifth.1 in
      record {
        row = row;
        there = there;
        unused = not-true row.used first.0;
        operation = same_of_test row.operation (row_of op) second.0;
        branch = day.0;
        branch_there = day.1.0;
        today = day.1.1;
        other = eqb-false row.giver user (not-true (row.giver == user) fourth.0);
        giver = giver.0;
        giver_there = giver.1.0;
        active = giver.1.1;
        limit = some.0;
        held = (held_by_rows w.policy row.giver procedure.Release (touched op) some.0 moment).1 some.1.0;
        enough = some.1.1;
      }

  tested_row : (r : Released w user number op moment) → counts (release_grounds_of w moment r.row) user (row_of op) (touched op) (amount op) ≡ true
  tested_row r =
      let g = release_grounds_of w moment r.row in
      and_from (not r.row.used) (is_same_operation r.row.operation (row_of op) && (is_of_today g && is_giver_for g user (touched op) (amount op))) (not_so r.row.used r.unused)
      (and_from (is_same_operation r.row.operation (row_of op)) (is_of_today g && is_giver_for g user (touched op) (amount op)) (same_tested r.row.operation (row_of op) r.operation)
      (and_from (is_of_today g) (is_giver_for g user (touched op) (amount op)) (today_tested w r.row.day (branch_row r.row.branch w.branches) r.branch r.branch_there r.today)
      (and_from (not (r.row.giver == user)) (is_active g.giver && is_held_for g.held (touched op) (amount op)) (not_so (r.row.giver == user) (ne_eqb r.row.giver user r.other))
      (and_from (is_active g.giver) (is_held_for g.held (touched op) (amount op)) (active_tested (standing w.policy r.row.giver) r.giver r.giver_there r.active)
      (up_to_holds (current moment (triples_of w.policy r.row.giver procedure.Release)) (touched op) r.limit (amount op)
      ((held_by_rows w.policy r.row.giver procedure.Release (touched op) r.limit moment).0 r.held) r.enough)))))

  abbrev test : Option Release → Bool
  test o = option_map_or (λ g. counts g user (row_of op) (touched op) (amount op)) (option_map (release_grounds_of w moment) o) false

  stated : (o : Option Release) → release w user number ≡ o → test o ≡ true → Released w user number op moment
  stated None at is = absurd cc
  stated (Some row) at is = stated_row row at is

  pub released_by_grounds : (test (release w user number) ≡ true → Released w user number op moment) × (Released w user number op moment → test (release w user number) ≡ true)
  released_by_grounds = (λ is. stated (release w user number) refl is, λ r. ap test r.there ∙ tested_row r)
