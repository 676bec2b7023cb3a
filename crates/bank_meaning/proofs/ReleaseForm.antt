-- The laws of a release that is given.
use Rattle.std.proofs.lemmas.Bool.{eqb-true}
use Rattle.keyed_rows.proofs.Rows.{find-found}
use Rattle.bank_policy.specs.PolicyKeys.{user_key}
use Rattle.bank_meaning.proofs.RepliedRows.{release_replied}
use Rattle.bank_books.specs.Balances.{account_balance, branch_balance, entry_count, teller_balance, branch_row}
use Rattle.bank_books.specs.Books.{Books}
use Rattle.bank_books.specs.Cash.{cash_entry_total}
use Rattle.bank_books.specs.Effects.{written}
use Rattle.bank_books.specs.Records.{branch_record, release_count, branch_record_of}
use Rattle.bank_books.specs.WorldLists.{WorldLists}
use Rattle.bank_meaning.proofs.AskedRows.{is_home}
use Rattle.bank_books.specs.declared.rows.Branch.{Branch}
use Rattle.bank_books.specs.Records.{branch_record_of}
use Rattle.bank_policy.specs.declared.rows.User.{User}
use Rattle.std.proofs.Common.{ap₂, ◌+◌}
use Rattle.bank_books.specs.declared.row_write.RowWrite.TheVariants as write
use Rattle.bank_books.specs.declared.rows.Release.{Release as ReleaseRow}
use Rattle.bank_books.specs.declared.signature.Signature.{Signature}
use Rattle.bank_meaning.proofs.AmountParts.{no_amount, placed}
use Rattle.bank_meaning.proofs.BookChanges.{by_row}
use Rattle.bank_meaning.proofs.GivenRelease as release_given
use Rattle.bank_meaning.proofs.IsForm.{AreWritten, IsForm}
use Rattle.bank_meaning.proofs.JudgedParts.{NoneDenies, branch_there}
use Rattle.bank_meaning.proofs.KeptOrder.{in_order_written}
use Rattle.bank_meaning.proofs.NoMoves.{none_within}
use Rattle.bank_meaning.proofs.Steps.{IsStep, none_more, passes, plus_zero}
use Rattle.bank_meaning.specs.Release.{IsReleaseJudged}
use Rattle.bank_meaning.specs.Moves.{moves_nothing}
use Rattle.bank_meaning.specs.PolicyRules.{asker}
use Rattle.bank_meaning.specs.Release.{first_against_release, given_release, release_changes, release_effect, release_rows}
use Rattle.bank_meaning.specs.Sums.{PassesChecks}
use Rattle.bank_meaning.specs.declared.who.Who.{Who}
use Rattle.bank_policy.specs.HeldRows.{user_row}
use Rattle.bank_terms.specs.declared.rule.Rule.TheVariants as rule
use Rattle.book_laws.proofs.Kept.{kept_same}
use Rattle.book_laws.proofs.ReleaseAdded.{release_moves_nothing}
use Rattle.counter_ops.specs.Releasable.{branch_of}
use Rattle.counter_ops.specs.Release.{IsRelease}
use Rattle.counter_ops.specs.Touched.{amount_of_releasable}
use Rattle.counter_ops.specs.declared.op.Op.TheVariants as op
use Rattle.counter_ops.specs.declared.release.Release.{Release}
use Rattle.rule_tests.proofs.RuleTests.{source_of}
use Rattle.rule_tests.specs.Signed.{IsSigned}
use Rattle.std.proofs.Common.{None, Option, Some, ap, refl, subst, sym, ℕ, ◌∙◌, ◌≡◌, ◌≤◌, ◌==◌}
use Rattle.std.proofs.lemmas.Bool.{eqb-false, or_parts, ne_eqb}
use Rattle.std.specs.Prelude.{is_none, option_map, unsigned_abs, nat_le}
use Rattle.world_reads.specs.PolicyReads.{user_record, user_record_of}
use Rattle.bank_books.specs.declared.rows.Branch.{Branch}
use Rattle.keyed_rows.proofs.Rows.{Contains-add_row_new}
use Rattle.bank_meaning.specs.declared.release_rows.ReleaseRows.{ReleaseRows}
use Rattle.bank_policy.specs.declared.rows.User.{User}
use Rattle.bank_terms.specs.Limits.{max_releases}
use Rattle.bank_meaning.proofs.PassingParts.{none_by, room_is_left}
use Rattle.bank_books.specs.Keys.{release_key}

gives : (w : WorldLists) (form : Release) (by : Signature) → PassesChecks w → IsRelease form → IsSigned w by → first_against_release (release_rows w form) form by ≡ None
    → IsStep w (release_effect w form by) moves_nothing
gives w form by checks proper signed is =
    let there = release_given.are_there w form by is in
    let row : ReleaseRow = given_release (release_count there.user.user w.releases) there.branch.day form by in
    let effect = release_given.effect_is w form by there in
    let nothing = release_moves_nothing w row in
    subst (λ after. IsStep w after moves_nothing) (sym effect) (record {
      checks = passes w (written (write.Release row) w) checks (in_order_written (write.Release row) w checks.in_order) refl (subst Books effect (release_given.release_keeps_books w form by checks.books signed proper is));
      branches = λ key. nothing.branch_balances key ∙ plus_zero (branch_balance w key);
      tellers = λ key. nothing.teller_balances key ∙ plus_zero (teller_balance w key);
      accounts = λ key. nothing.account_balances key ∙ plus_zero (account_balance w key);
      history = λ branch. none_more (entry_count branch w.entries);
      cash_entries = λ branch. plus_zero (cash_entry_total branch w.lines);
      stay = λ branch there. there;
      vaults = λ branch. refl;
      added = record { entries = kept_same w.entries; lines = kept_same w.lines; proofs = kept_same w.proofs };
    })

release_lines : (w : WorldLists) (form : Release) (by : Signature) (branch place : ℕ) → unsigned_abs (placed branch place (release_changes (release_rows w form) form by)) ≤ amount_of_releasable form.operation
release_lines w form by branch place = go (release_rows w form).given (release_rows w form).today
  where
    go : (given today : Option ℕ) → unsigned_abs (placed branch place (release_changes (record { given = given; today = today }) form by)) ≤ amount_of_releasable form.operation
    go (Some given) (Some today) = no_amount (amount_of_releasable form.operation)
    go (Some given) None = no_amount (amount_of_releasable form.operation)
    go None today = no_amount (amount_of_releasable form.operation)

release_asked : (by : Signature) (w : WorldLists) (form : Release) → IsReleaseJudged w by.user form
    → AreWritten (op.Release form) by w (release_changes (release_rows w form) form by)
release_asked by w form judged =
    let home = is_home w (branch_of form.operation) judged.branch.0 judged.branch.1 in
    let changes = ap₂ (λ (user : Option User) (branch : Option Branch).
    release_changes (record { given = option_map (λ u. u.releases) (option_map (user_record_of w) user); today = option_map (λ b. b.row.day) (option_map (branch_record_of w) branch) }) form by) judged.there judged.branch.1 in
    let row : ReleaseRow = given_release (user_record_of w judged.row).releases judged.branch.0.day form by in
    let number = ap (λ user. release_count user w.releases + 1) (eqb-true judged.row.user form.beneficiary (find-found (λ u. user_key u == form.beneficiary) w.policy.users judged.row judged.there).1) in
    subst (AreWritten (op.Release form) by w) (sym changes) (record {
      asked = (row, refl, record { user = refl; number = number; branch = refl; operation = refl; unused = refl });
      bear = ((refl, judged.other, home.day), tt);
      days = tt;
    })

release_judged : (w : WorldLists) (who : Who) (moment : ℕ) (form : Release) → NoneDenies w who moment (op.Release form) → IsReleaseJudged w (asker who) form
release_judged w who moment form none =
    let given = option_map (λ u. u.releases) (user_record w form.beneficiary) in
    let today = option_map (λ b. b.row.day) (branch_record w (branch_of form.operation)) in
    let known = or_parts (is_none given) (is_none today) (none rule.Unknown) in
    let user_of = source_of (λ u. u.releases) (user_record w form.beneficiary) known.0 in
    let user = source_of (user_record_of w) (user_row w.policy form.beneficiary) (ap is_none user_of.1) in
    let branch_is = source_of (λ b. b.row.day) (branch_record w (branch_of form.operation)) known.1 in
    record {
      branch = branch_there w (branch_of form.operation) (ap is_none branch_is.1);
      row = user.0;
      there = user.1;
      other = eqb-false form.beneficiary (asker who) (none rule.SecondPerson);
    }

abbrev rows_found : WorldLists → Option User → Option Branch → ReleaseRows
rows_found w user branch = record { given = option_map (λ u. u.releases) (option_map (user_record_of w) user); today = option_map (λ b. b.row.day) (option_map (branch_record_of w) branch) }

release_passes : (w : WorldLists) (form : Release) (by : Signature) → IsReleaseJudged w by.user form → Books (release_effect w form by) → first_against_release (release_rows w form) form by ≡ None
release_passes w form by judged books =
    let branch : Branch = judged.branch.0 in
    let given = release_count judged.row.user w.releases in
    let row : ReleaseRow = given_release given branch.day form by in
    let effect = release_given.effect_is w form by (record { user = judged.row; user_there = judged.there; branch = branch; branch_there = judged.branch.1 }) in
    let after : Books (written (write.Release row) w) = subst Books effect books in
    let number = (after.in_range.releases row (Contains-add_row_new release_key row w.releases)).number in
    subst (λ o. first_against_release (rows_found w o (branch_row (branch_of form.operation) w.branches)) form by ≡ None) (sym judged.there)
    (subst (λ o. first_against_release (rows_found w (Some judged.row) o) form by ≡ None) (sym judged.branch.1)
    (none_by (form.beneficiary == by.user) rule.SecondPerson _ (ne_eqb form.beneficiary by.user judged.other)
    (none_by (nat_le max_releases given) rule.Full None (room_is_left max_releases given number.1) refl)))

pub release_is_form : (form : Release) → IsForm (op.Release form)
release_is_form form = record {
  said = λ by w. refl;
  books_alone = λ rows by. by_row _ rows.given (λ given. by_row _ rows.today (λ today. record { each = (refl, tt) }));
  no_slips = λ s by w. refl;
  asks = λ is. absurd cc;
  in_json = λ is rows by. refl;
  reports_ask = λ is. absurd cc;
  no_commands = λ rows by. refl;
  steps = λ by w checks proper signed none. gives w form by checks proper signed none;
  judged = λ w who moment none. release_judged w who moment form none;
  denies_no_more = λ by w checks proper judged books. release_passes w form by judged books;
  moves = none_within _;
  cash = λ is by w branch place. release_lines w form by branch place;
  asked = λ by w judged. release_asked by w form judged;
  replied = λ by w checks proper judged step. release_replied by w form judged;
}
