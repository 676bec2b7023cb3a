-- A release that no rule denies may come next: so it keeps the books.
use Rattle.std.proofs.Common.{◌≡◌, ℕ, ◌+◌, ◌||◌, [], ◌∷◌, Bool, true, false, Some, None, refl, ap, sym, subst, ◌∙◌}
use Rattle.std.specs.Prelude.{is_none, nat_le, option_map}
use Rattle.std.specs.Option.{option_map_or}
use Rattle.bank_policy.specs.HeldRows.{user_row}
use Rattle.bank_policy.specs.PolicyKeys.{user_key}
use Rattle.bank_policy.specs.declared.rows.User.{User}
use Rattle.bank_books.specs.Balances.{branch_row}
use Rattle.bank_books.specs.Books.{Books}
use Rattle.bank_books.specs.Effects.{applied}
use Rattle.bank_books.specs.Keys.{branch_key}
use Rattle.bank_books.specs.Range.{IsDay}
use Rattle.bank_books.specs.Records.{branch_record_of, release_count}
use Rattle.bank_books.specs.WorldLists.{WorldLists}
use Rattle.bank_books.specs.declared.row_write.RowWrite.TheVariants as write
use Rattle.bank_books.specs.declared.rows.Branch.{Branch}
use Rattle.bank_books.specs.declared.signature.Signature.{Signature}
use Rattle.book_laws.specs.Next.{IsNextRelease}
use Rattle.book_laws.proofs.BooksSplit.{books_parts}
use Rattle.book_laws.proofs.ReleaseAdded as added
use Rattle.keyed_rows.proofs.Rows.{found_row}
use Rattle.rule_tests.proofs.RuleTests.{one_fits, passed_by, source_of}
use Rattle.counter_ops.specs.Releasable.{branch_of}
use Rattle.counter_ops.specs.Release.{IsRelease}
use Rattle.counter_ops.specs.declared.release.Release.{Release}
use Rattle.world_reads.specs.PolicyReads.{user_record, user_record_of}
use Rattle.rule_tests.specs.Signed.{IsSigned}
use Rattle.bank_meaning.specs.Laws.{ReleaseKeepsBooks}
use Rattle.bank_meaning.specs.Release.{first_against_release, given_release, release_changes, release_effect, release_rows}
use Rattle.bank_meaning.specs.declared.release_rows.ReleaseRows.{ReleaseRows}

-- ---- what the rules say

none_of_two : (a b : Bool) → (a || b) ≡ false → (a ≡ false) × (b ≡ false)
none_of_two true b is = absurd cc
none_of_two false b is = (refl, is)

record IsAllowed (rows : ReleaseRows) : Type 0 where
  pub user : is_none rows.given ≡ false
  pub branch : is_none rows.today ≡ false
  pub room : option_map_or (λ n. nat_le 100000 n) rows.given false ≡ false

is_allowed : (rows : ReleaseRows) (form : Release) (by : Signature) → first_against_release rows form by ≡ None → IsAllowed rows
is_allowed rows form by none =
    let known = passed_by (is_none rows.given || is_none rows.today) _ _ none in
    let other = passed_by _ _ _ known.1 in
    let room = passed_by (option_map_or (λ n. nat_le 100000 n) rows.given false) _ _ other.1 in
    let both = none_of_two (is_none rows.given) (is_none rows.today) known.0 in
    record { user = both.0; branch = both.1; room = room.0 }

-- the user for whom it is, and the branch
pub record AreThere (w : WorldLists) (form : Release) : Type 0 where
  pub user : User
  pub user_there : user_row w.policy form.beneficiary ≡ Some user
  pub branch : Branch
  pub branch_there : branch_row (branch_of form.operation) w.branches ≡ Some branch

pub are_there : (w : WorldLists) (form : Release) (by : Signature) → first_against_release (release_rows w form) form by ≡ None → AreThere w form
are_there w form by none =
    let allowed = is_allowed (release_rows w form) form by none in
    let given = source_of (λ u. u.releases) (user_record w form.beneficiary) allowed.user in
    let user = source_of (user_record_of w) (user_row w.policy form.beneficiary) (ap is_none given.1) in
    let today = source_of (λ b. b.row.day) (option_map (branch_record_of w) (branch_row (branch_of form.operation) w.branches)) allowed.branch in
    let branch = source_of (branch_record_of w) (branch_row (branch_of form.operation) w.branches) (ap is_none today.1) in
    record { user = user.0; user_there = user.1; branch = branch.0; branch_there = branch.1 }

-- ---- its one change

pub effect_is : (w : WorldLists) (form : Release) (by : Signature) (there : AreThere w form)
    → release_effect w form by ≡ applied (write.Release (given_release (release_count there.user.user w.releases) there.branch.day form by) ∷ []) w
effect_is w form by there =
    ap (λ o. applied (release_changes (record { given = option_map (λ u. u.releases) (option_map (user_record_of w) o); today = (release_rows w form).today }) form by) w) there.user_there
    ∙ ap (λ o. applied (release_changes (record { given = Some (release_count there.user.user w.releases); today = option_map (λ b. b.row.day) (option_map (branch_record_of w) o) }) form by) w) there.branch_there

-- the day of a branch of books that hold
day_in_range : (w : WorldLists) → Books w → (key : ℕ) (branch : Branch) → branch_row key w.branches ≡ Some branch → IsDay branch.day
day_in_range w books key branch there = (((books_parts w).0 books).0.rows.branches.each branch (found_row branch_key key w.branches branch there).0).day

-- it may come next
pub is_next : (w : WorldLists) (form : Release) (by : Signature) → Books w → IsSigned w by → IsRelease form → first_against_release (release_rows w form) form by ≡ None
    → (there : AreThere w form) → IsNextRelease w (given_release (release_count there.user.user w.releases) there.branch.day form by)
is_next w form by books signed ranges none there =
    let allowed = is_allowed (release_rows w form) form by none in
    let user = found_row user_key form.beneficiary w.policy.users there.user there.user_there in
    let branch = found_row branch_key (branch_of form.operation) w.branches there.branch there.branch_there in
    let room = subst (λ o. option_map_or (λ n. nat_le 100000 n) (option_map (λ u. u.releases) (option_map (user_record_of w) o)) false ≡ false) there.user_there allowed.room in
    record {
      user = (there.user, user);
      number = ap (λ k. release_count k w.releases + 1) user.1;
      room = one_fits 100000 (release_count there.user.user w.releases) room;
      giver = signed.user;
      branch = (there.branch, branch);
      day = day_in_range w books (branch_of form.operation) there.branch there.branch_there;
      operation = (form.operation, (ranges.operation, refl, refl));
    }

-- ---- the law

pub release_keeps_books : ReleaseKeepsBooks
release_keeps_books w form by books signed ranges none =
    let there = are_there w form by none in
    subst Books (sym (effect_is w form by there)) (added.release_keeps_books w (given_release (release_count there.user.user w.releases) there.branch.day form by) (is_next w form by books signed ranges none there) books)
