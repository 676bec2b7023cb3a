-- The question for the proof of a branch: the rules of the books against it, its reply and its meaning. It changes nothing.
use Rattle.std.specs.Prelude.{◌≡◌, Bool, is_none, [], ◌∷◌, List, ℕ, Option}
use Rattle.std.specs.Option.{option_map_or}
use Rattle.bank_terms.specs.declared.rule.Rule.{Rule}
use Rattle.bank_terms.specs.declared.rule.Rule.TheVariants as rule
use Rattle.bank_books.specs.Records.{branch_record}
use Rattle.bank_books.specs.WorldLists.{WorldLists}
use Rattle.bank_books.specs.declared.records.BranchRecord.{BranchRecord}
use Rattle.counter_ops.specs.declared.proof.Proof.{Proof}
use Rattle.rule_tests.specs.Denial.{first_denial, is_denial}
use Rattle.reports.specs.Listing.{all_lines, proof_of, report_text}
use Rattle.std.specs.Prelude.{true}
use Rattle.bank_meaning.specs.JudgedRows.{HasBranch}
use Rattle.bank_meaning.specs.Form.{Form}
use Rattle.bank_meaning.specs.Moves.{moves_nothing}
use Rattle.bank_meaning.specs.Meaning.{Meaning, plain}

-- the rules of the books that a proof is judged by, in their order, each with whether it denies
abbrev pub proof_tests : Option BranchRecord → List (Rule × Bool)
proof_tests row =
    (rule.Unknown, is_none row)
    ∷ []

abbrev pub first_against_proof : Option BranchRecord → Option Rule
first_against_proof row = first_denial (proof_tests row)

-- the text of the proof, where the branch is there
abbrev pub proof_text : WorldLists → Option BranchRecord → List ℕ
proof_text w row = option_map_or (λ b. report_text w (proof_of b) all_lines) row []

-- all that it is
abbrev pub proof_form : Proof → Form
proof_form form = record {
  Rows = Option BranchRecord × List ℕ;
  rows = λ by w. (branch_record w form.branch, proof_text w (branch_record w form.branch));
  tests = λ rows by. proof_tests rows.0;
  changes = λ rows by. [];
  reply = λ rows by. plain rows.1;
  is_report = true;
  moves = moves_nothing;
  IsJudged = λ w user. HasBranch w form.branch;
  AreAsked = λ w rows. rows ≡ [];
  IsReplied = λ by before after rows text. text ≡ plain (proof_text before (branch_record before form.branch));
}

abbrev pub proof_meaning : Proof → WorldLists → Meaning
proof_meaning form w = record {
  denies = λ r. is_denial r (proof_tests (branch_record w form.branch));
  effect = w;
  reply = plain (proof_text w (branch_record w form.branch));
}
