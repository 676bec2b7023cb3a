-- A release that is given at the bank that goes on and at the next year's.
use Rattle.std.proofs.Common.{None, Some, [], ap, refl, subst, sym, ◌+◌, ◌∙◌, ◌≡◌}
use Rattle.std.specs.Option.{option_map_or}
use Rattle.std.specs.Prelude.{is_none, option_map}
use Rattle.keyed_rows.proofs.Rows.{found_row}
use Rattle.bank_policy.specs.PolicyKeys.{user_key}
use Rattle.bank_books.specs.Balances.{branch_row}
use Rattle.bank_books.specs.Records.{branch_record, release_count}
use Rattle.bank_books.specs.WorldLists.{WorldLists}
use Rattle.bank_books.specs.declared.signature.Signature.{Signature}
use Rattle.counter_ops.specs.Releasable.{branch_of}
use Rattle.counter_ops.specs.declared.op.Op.TheVariants as op
use Rattle.counter_ops.specs.declared.releasable.Releasable.{Releasable}
use Rattle.counter_ops.specs.declared.releasable.Releasable.TheVariants as releasable
use Rattle.counter_ops.specs.declared.release.Release.{Release}
use Rattle.bank_meaning.specs.Meaning.{ReplyText, json}
use Rattle.bank_meaning.specs.Operations.{meaning_of}
use Rattle.bank_meaning.specs.Release.{first_against_release, given_release, release_effect, release_rows, release_tests, release_text}
use Rattle.bank_meaning.proofs.GivenRelease as given
use Rattle.year_laws.specs.GoesOn.{GoesOn, Turn, op_at_old, releasable_at_old}
use Rattle.year_laws.specs.RepliedAlike.{IsRepliedAlike}
use Rattle.year_laws.specs.StaysAlike.{StayAlike}
use Rattle.year_laws.proofs.AlikeRows.{day_same}
use Rattle.year_laws.proofs.FoundAlike.{same_branch}
use Rattle.year_laws.proofs.IsYearForm.{IsYearForm}
use Rattle.year_laws.proofs.ReleasesAlike.{release_stays}
use Rattle.year_laws.proofs.RowsAlike.{carried}
use Rattle.year_laws.proofs.TestParts.{AreTestsAlike, anew, either}

-- it is of the same branch at both banks
at_branch : (t : Turn) (o : Releasable) → branch_of (releasable_at_old t o) ≡ branch_of o
at_branch t (releasable.Post p) = refl
at_branch t (releasable.Transfer p) = refl
at_branch t (releasable.Correct p) = refl
at_branch t (releasable.DrawerOn p) = refl
at_branch t (releasable.MoveCash p) = refl

module _ (t : Turn) (old new : WorldLists) (on : GoesOn t old new) where
  todays : (o : Releasable) → is_none (option_map (λ b. b.row.day) (branch_record old (branch_of (releasable_at_old t o)))) ≡ is_none (option_map (λ b. b.row.day) (branch_record new (branch_of o)))
  todays o =
      ap (λ key. is_none (option_map (λ b. b.row.day) (branch_record old key))) (at_branch t o)
      ∙ ap is_none (day_same (t.entries (branch_of o)) (branch_record old (branch_of o)) (branch_record new (branch_of o)) (on.branches (branch_of o)))

  release_alike : (r : Release) (by : Signature)
      → AreTestsAlike (release_tests (release_rows old (record r { operation = releasable_at_old t r.operation })) (record r { operation = releasable_at_old t r.operation }) by) (release_tests (release_rows new r) r by)
  release_alike r by = (
    refl,
    (λ z. either (ap (λ u. is_none (option_map (λ x. x.releases) u)) (on.users r.beneficiary)) (todays r.operation)),
    (
      refl,
      (λ z. refl),
      (
        refl,
        (λ z. anew _ _ z),
        tt,
      ),
    ),
  )

  release_replied : (r : Release) (by : Signature) → IsRepliedAlike t (op.Release r) (meaning_of (op_at_old t (op.Release r)) by old).reply (meaning_of (op.Release r) by new).reply
  release_replied r by =
      ap (λ o. json (option_map_or (λ releases. release_text r.beneficiary (releases + 1)) (option_map (λ u. u.releases) o) [])) (on.users r.beneficiary)

module _ (t : Turn) (old new : WorldLists) (stay : StayAlike t old new) where
  gives_alike : (r : Release) (by : Signature) → let moved : Release = record r { operation = releasable_at_old t r.operation } in
      first_against_release (release_rows old moved) moved by ≡ None → first_against_release (release_rows new r) r by ≡ None → StayAlike t (release_effect old moved by) (release_effect new r by)
  gives_alike r by old_none new_none =
      let moved : Release = record r { operation = releasable_at_old t r.operation } in
      let o = given.are_there old moved by old_none in
      let n = given.are_there new r by new_none in
      carried (StayAlike t) _ _ _ _ (given.effect_is old moved by o) (given.effect_is new r by n)
      (release_stays t old new stay (given_release (release_count o.user.user old.releases) o.branch.day moved by) (given_release (release_count n.user.user new.releases) n.branch.day r by) refl
      (ap (λ k. k + 1) (counts_are o n))
      (record {
        giver = refl;
        branch = at_branch t r.operation;
        day = (same_branch t old new stay.alike (branch_of r.operation) o.branch n.branch (subst (λ k. branch_row k old.branches ≡ Some o.branch) (at_branch t r.operation) o.branch_there) n.branch_there).day;
        used = refl;
        operation = (r.operation, (refl, refl));
      })
      (ap (λ k. release_count k old.releases + 1) (found_row user_key r.beneficiary old.policy.users o.user o.user_there).1)
      (ap (λ k. release_count k new.releases + 1) (found_row user_key r.beneficiary new.policy.users n.user n.user_there).1))
    where
      counts_are : (o : given.AreThere old (record r { operation = releasable_at_old t r.operation })) (n : given.AreThere new r) → release_count o.user.user old.releases ≡ release_count n.user.user new.releases
      counts_are o n =
          ap (λ k. release_count k old.releases) (found_row user_key r.beneficiary old.policy.users o.user o.user_there).1 ∙ stay.given r.beneficiary
          ∙ sym (ap (λ k. release_count k new.releases) (found_row user_key r.beneficiary new.policy.users n.user n.user_there).1)

pub release_in_years : (form : Release) → IsYearForm (op.Release form)
release_in_years form = record {
  tests = λ t old new on names by. release_alike t old new on form by;
  replies = λ t old new on names by. release_replied t old new on form by;
  kept = λ t a b replied. ap (λ (r : ReplyText). json r.bytes) replied;
  stays = λ t old new stay names by old_none new_none. gives_alike t old new stay form by old_none new_none;
}
