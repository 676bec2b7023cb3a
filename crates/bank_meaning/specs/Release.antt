-- A release that is given: the rows that it is judged on, the rules of the books against it, the row that it adds, its effect, its reply and its meaning.
use Rattle.std.specs.Prelude.{ℕ, ◌+◌, ◌==◌, ◌||◌, Bool, false, nat_le, is_none, List, [], ◌∷◌, ◌++◌, codes, decimal, Option, option_map}
use Rattle.bank_terms.specs.Limits.{max_releases}
use Rattle.std.specs.Option.{option_map_or}
use Rattle.serde_json.specs.Data.{Data, object, member, no_members}
use Rattle.bank_terms.specs.declared.rule.Rule.{Rule}
use Rattle.bank_terms.specs.declared.rule.Rule.TheVariants as rule
use Rattle.counter_ops.specs.Releasable.{branch_of, op_of}
use Rattle.counter_ops.specs.Rows.{row_of}
use Rattle.counter_ops.specs.declared.release.Release.{Release}
use Rattle.bank_books.specs.Effects.{applied}
use Rattle.bank_books.specs.Records.{branch_record, release_count}
use Rattle.bank_books.specs.WorldLists.{WorldLists}
use Rattle.bank_books.specs.declared.rows.Release.{Release as ReleaseRow}
use Rattle.bank_books.specs.declared.row_write.RowWrite.{RowWrite}
use Rattle.bank_books.specs.declared.row_write.RowWrite.TheVariants as write
use Rattle.bank_books.specs.declared.signature.Signature.{Signature}
use Rattle.rule_tests.specs.Denial.{first_denial}
use Rattle.world_reads.specs.PolicyReads.{user_record}
use Rattle.bank_meaning.specs.Form.{Form, said_by}
use Rattle.bank_meaning.specs.Moves.{moves_nothing}
use Rattle.bank_meaning.specs.Denial.{natural}
use Rattle.bank_meaning.specs.Meaning.{Meaning, ReplyText, json}
use Rattle.bank_meaning.specs.declared.release_rows.ReleaseRows.{ReleaseRows}
use Rattle.bank_meaning.specs.JudgedRows.{HasBranch}
use Rattle.bank_policy.specs.HeldRows.{user_row}
use Rattle.bank_policy.specs.declared.rows.User.{User}
use Rattle.std.specs.Prelude.{◌≡◌, ◌≢◌, Some, Contains}

-- how many releases the user has for whom it is, and the present day of the branch of the operation
abbrev pub release_rows : WorldLists → Release → ReleaseRows
release_rows w form = record {
  given = option_map (λ u. u.releases) (user_record w form.beneficiary);
  today = option_map (λ b. b.row.day) (branch_record w (branch_of form.operation));
}

-- the rules of the books that the giving of a release is judged by, in their order, each with whether it denies
abbrev pub release_tests : ReleaseRows → Release → Signature → List (Rule × Bool)
release_tests rows form by =
    (rule.Unknown, is_none rows.given || is_none rows.today)
    ∷ (rule.SecondPerson, form.beneficiary == by.user)
    ∷ (rule.Full, option_map_or (λ n. nat_le max_releases n) rows.given false)
    ∷ []

-- the first of them that denies
abbrev pub first_against_release : ReleaseRows → Release → Signature → Option Rule
first_against_release rows form by = first_denial (release_tests rows form by)

-- the row of it: the next number of the user for whom it is, on this day of the branch of the operation, unused
abbrev pub given_release : ℕ → ℕ → Release → Signature → ReleaseRow
given_release given today form by = record {
  user = form.beneficiary;
  number = given + 1;
  giver = by.user;
  branch = branch_of form.operation;
  day = today;
  operation = row_of (op_of form.operation);
  used = false;
}

-- what it adds, where its rows are there
abbrev pub release_changes : ReleaseRows → Release → Signature → List RowWrite
release_changes rows form by = option_map_or (λ given. option_map_or (λ today. write.Release (given_release given today form by) ∷ []) rows.today []) rows.given []

-- the World after it
abbrev pub release_effect : WorldLists → Release → Signature → WorldLists
release_effect w form by = applied (release_changes (release_rows w form) form by) w

-- for whom it is, and its number
unfoldable pub release_text : ℕ → ℕ → List ℕ
release_text beneficiary number = codes "{\"beneficiary\":" ++ decimal beneficiary ++ codes ",\"release\":" ++ decimal number ++ codes "}"

-- the JSON value of the reply
abbrev pub release_data : ℕ → ℕ → Data
release_data beneficiary number = object (member (codes "beneficiary") (natural beneficiary) (member (codes "release") (natural number) no_members))

-- to somebody else, who is there
pub record IsReleaseJudged (w : WorldLists) (user : ℕ) (form : Release) : Type 0 where
  pub branch : HasBranch w (branch_of form.operation)
  pub row : User
  pub there : user_row w.policy form.beneficiary ≡ Some row
  pub other : form.beneficiary ≢ user

-- for this user, with their next number, and of this operation, unused
pub record IsReleaseOf (w : WorldLists) (form : Release) (r : ReleaseRow) : Type 0 where
  pub user : r.user ≡ form.beneficiary
  pub number : r.number ≡ release_count form.beneficiary w.releases + 1
  pub branch : r.branch ≡ branch_of form.operation
  pub operation : r.operation ≡ row_of (op_of form.operation)
  pub unused : r.used ≡ false

abbrev pub AreReleaseAsked : WorldLists → Release → List RowWrite → Type 0
AreReleaseAsked w form rows = (r : ReleaseRow) × (rows ≡ write.Release r ∷ []) × IsReleaseOf w form r

-- for whom the release that was added is, and its number
pub record IsReleaseReplied (rows : List RowWrite) (text : ReplyText) : Type 0 where
  pub release : ReleaseRow
  pub added : Contains rows (write.Release release)
  pub says : text ≡ json (release_text release.user release.number)

-- all that it is
abbrev pub release_form : Release → Form
release_form form = record {
  Rows = ReleaseRows;
  rows = λ by w. release_rows w form;
  tests = λ rows by. release_tests rows form by;
  changes = λ rows by. release_changes rows form by;
  reply = λ rows by. json (option_map_or (λ given. release_text form.beneficiary (given + 1)) rows.given []);
  is_report = false;
  moves = moves_nothing;
  IsJudged = λ w user. IsReleaseJudged w user form;
  AreAsked = λ w rows. AreReleaseAsked w form rows;
  IsReplied = λ by before after rows text. IsReleaseReplied rows text;
}

abbrev pub release_meaning : Release → Signature → WorldLists → Meaning
release_meaning form by w = said_by (release_form form) by w
