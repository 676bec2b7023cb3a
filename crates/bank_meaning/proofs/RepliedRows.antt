-- What the replies to a release, to a day that is closed and to the question for a balance say is so after it; and that a release that is used up and a slip that is
-- taken change none of it.
use Rattle.std.proofs.Common.{◌≡◌, ℕ, ◌+◌, List, [], ◌∷◌, Option, Some, Contains, ap, ap₂, sym, subst, ◌∙◌}
use Rattle.std.specs.Prelude.{option_map}
use Rattle.std.specs.Option.{option_map_or}
use Rattle.keyed_rows.proofs.Rows.{Contains-head}
use Rattle.bank_books.specs.Balances.{account_balance}
use Rattle.bank_books.specs.Records.{account_record, account_record_of, branch_record_of}
use Rattle.bank_books.specs.SlipRow.{SlipRow}
use Rattle.bank_books.specs.WorldLists.{WorldLists}
use Rattle.bank_books.specs.declared.row_write.RowWrite.{RowWrite}
use Rattle.bank_books.specs.declared.row_write.RowWrite.TheVariants as write
use Rattle.bank_books.specs.declared.rows.Branch.{Branch}
use Rattle.bank_books.specs.declared.rows.Proof.{Proof}
use Rattle.bank_books.specs.declared.rows.Release.{Release as ReleaseRow}
use Rattle.bank_books.specs.declared.signature.Signature.{Signature}
use Rattle.bank_policy.specs.declared.rows.User.{User}
use Rattle.counter_ops.specs.declared.balance.Balance.{Balance}
use Rattle.counter_ops.specs.declared.close_day.CloseDay.{CloseDay}
use Rattle.counter_ops.specs.declared.op.Op.{Op}
use Rattle.counter_ops.specs.declared.op.Op.TheVariants as op
use Rattle.counter_ops.specs.declared.release.Release.{Release}
use Rattle.drawers.specs.CloseDay.{close_day_changes, closed_of, closing_rows}
use Rattle.drawers.proofs.AllowedClose as close_allowed
use Rattle.world_reads.specs.PolicyReads.{user_record_of}
use Rattle.bank_meaning.specs.Balance.{balance_text}
use Rattle.bank_meaning.specs.CloseDay.{IsCloseDayJudged, IsCloseDayReplied, closed_text}
use Rattle.bank_meaning.specs.JudgedRows.{HasAccount}
use Rattle.bank_meaning.specs.Meaning.{ReplyText, json}
use Rattle.bank_meaning.specs.Operations.{form_of}
use Rattle.bank_meaning.specs.Post.{IsPostReplied}
use Rattle.bank_meaning.specs.Release.{IsReleaseJudged, IsReleaseReplied, given_release, release_changes, release_rows, release_text}
use Rattle.bank_meaning.specs.Transfer.{IsTransferReplied}
use Rattle.bank_meaning.specs.declared.release_rows.ReleaseRows.{ReleaseRows}
use Rattle.bank_meaning.proofs.Replied.{balance_is}

abbrev rows_found : WorldLists → Option User → Option Branch → ReleaseRows
rows_found w user branch = record { given = option_map (λ u. u.releases) (option_map (user_record_of w) user); today = option_map (λ b. b.row.day) (option_map (branch_record_of w) branch) }

pub release_replied : (by : Signature) (w : WorldLists) (form : Release) → IsReleaseJudged w by.user form
    → IsReleaseReplied (release_changes (release_rows w form) form by) (json (option_map_or (λ given. release_text form.beneficiary (given + 1)) (release_rows w form).given []))
release_replied by w form judged =
    let branch : Branch = judged.branch.0 in
    let rows : release_rows w form ≡ rows_found w (Some judged.row) (Some branch) = ap₂ (rows_found w) judged.there judged.branch.1 in
    let row : ReleaseRow = given_release (user_record_of w judged.row).releases branch.day form by in
    record {
      release = row;
      added = subst (λ rs. Contains (release_changes rs form by) (write.Release row)) (sym rows) (Contains-head (write.Release row) []);
      says = ap (λ rs. json (option_map_or (λ given. release_text form.beneficiary (given + 1)) rs.given [])) rows;
    }

pub close_day_replied : (w : WorldLists) (form : CloseDay) → IsCloseDayJudged w form
    → IsCloseDayReplied (close_day_changes (closing_rows w form) form) (json (option_map_or closed_text (closed_of (closing_rows w form)) []))
close_day_replied w form judged =
    let there : close_allowed.IsThere w form = record { branch = judged.branch.0; branch_is = judged.branch.1 } in
    let proof : Proof = close_allowed.proof_of w form there in
    record {
      proof = proof;
      added = subst (λ rows. Contains rows (write.Proof proof)) (sym (close_allowed.changes_are w form there)) (Contains-head (write.Proof proof) (write.Day (record { branch = form.branch; day = proof.day + 1 }) ∷ []));
      says = ap (λ rows. json (option_map_or closed_text (closed_of rows) [])) (ap (close_allowed.rows_of w form) judged.branch.1);
    }

pub balance_replied : (w : WorldLists) (form : Balance) → HasAccount w form.account
    → json (option_map_or (λ a. balance_text a.balance) (account_record w form.account) []) ≡ json (balance_text (account_balance w form.account))
balance_replied w form (row, there) =
    ap (λ o. json (option_map_or (λ a. balance_text a.balance) (option_map (account_record_of w) o) [])) there ∙ ap (λ z. json (balance_text z)) (sym (balance_is w form.account row there))

-- ---- beside releases and slips

module _ (after : WorldLists) (releases : List ReleaseRow) (slips : List SlipRow) (rows : List RowWrite) (text : ReplyText) where
  abbrev beside : WorldLists
  beside = record after { releases = releases; slips = slips }

  post_still : (branch account : ℕ) → IsPostReplied after rows branch account text → IsPostReplied beside rows branch account text
  post_still branch account is = record { entry = is.entry; added = is.added; says = is.says }

  transfer_still : (branch source target : ℕ) → IsTransferReplied after rows branch source target text → IsTransferReplied beside rows branch source target text
  transfer_still branch source target is = record {
    first = is.first;
    first_added = is.first_added;
    first_account = is.first_account;
    second = is.second;
    second_added = is.second_added;
    second_account = is.second_account;
    says = is.says;
  }

  pub still_replied : (o : Op) (by : Signature) (w : WorldLists) → (form_of o).IsReplied by w after rows text → (form_of o).IsReplied by w beside rows text
  still_replied (op.Post form) by w is = post_still form.branch form.account is
  still_replied (op.Transfer form) by w is = transfer_still form.branch form.source form.target is
  still_replied (op.Correct form) by w is = record {
    of_post = λ none. post_still form.branch form.account (is.of_post none);
    of_transfer = λ some. transfer_still form.branch form.account form.other (is.of_transfer some);
  }
  still_replied (op.DrawerOn form) by w is = is
  still_replied (op.DrawerOff form) by w is = record { line = is.line; added = is.added; is_difference = is.is_difference; says = is.says }
  still_replied (op.MoveCash form) by w is = is
  still_replied (op.NewAccount form) by w is = is
  still_replied (op.Release form) by w is = is
  still_replied (op.Balance form) by w is = is
  still_replied (op.Statement form) by w is = is
  still_replied (op.Accounts form) by w is = is
  still_replied (op.Proof form) by w is = is
  still_replied (op.CloseDay form) by w is = is
