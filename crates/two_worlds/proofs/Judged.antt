-- In two Worlds in which what it touches is alike, the rules against an operation, its reply and its changes are the same: it goes by its rows.
use Rattle.std.proofs.Common.{◌≡◌, ◌∙◌, Bool, List, ap, sym}
use Rattle.bank_policy.specs.HeldRows.{triples_of}
use Rattle.bank_terms.specs.declared.rule.Rule.{Rule}
use Rattle.bank_books.specs.WorldLists.{WorldLists}
use Rattle.bank_books.specs.declared.row_write.RowWrite.{RowWrite}
use Rattle.bank_books.specs.declared.signature.Signature.{Signature}
use Rattle.counter_ops.specs.Op.{procedure_of}
use Rattle.counter_ops.specs.Touched.{touched}
use Rattle.counter_ops.specs.declared.op.Op.{Op}
use Rattle.rule_tests.specs.Denial.{is_denial}
use Rattle.bank_meaning.specs.Form.{changed_by, said_by}
use Rattle.bank_meaning.specs.Meaning.{ReplyText}
use Rattle.bank_meaning.specs.Operations.{form_of, meaning_of}
use Rattle.bank_meaning.specs.Sums.{PassesChecks}
use Rattle.bank_meaning.proofs.Forms.{law_of}
use Rattle.two_worlds.specs.Agree.{AgreeByForm}
use Rattle.two_worlds.proofs.LocalForms.{local_of}
use Rattle.two_worlds.proofs.Within.{AreAlike}

-- all that is said of it
pub record Judgement : Type 0 where
  pub denies : Rule → Bool
  pub reply : ReplyText
  pub changes : List RowWrite

abbrev pub judgement_of : Op → Signature → WorldLists → Judgement
judgement_of o by w = record { denies = (meaning_of o by w).denies; reply = (meaning_of o by w).reply; changes = changed_by (form_of o) by w }

judged_by_form : (o : Op) (by : Signature) (w : WorldLists) → judgement_of o by w ≡ record { denies = (said_by (form_of o) by w).denies; reply = (said_by (form_of o) by w).reply; changes = changed_by (form_of o) by w }
judged_by_form o by w = ap (λ m. record { denies = m.denies; reply = m.reply; changes = changed_by (form_of o) by w }) ((law_of o).said by w)

pub judged_alike : (o : Op) (by : Signature) (w v : WorldLists) → PassesChecks w → PassesChecks v → AreAlike (touched o) w v
    → triples_of w.policy by.user (procedure_of o) ≡ triples_of v.policy by.user (procedure_of o) → AgreeByForm w v by.user by.moment o → judgement_of o by w ≡ judgement_of o by v
judged_alike o by w v bank bank' same held form =
    judged_by_form o by w
    ∙ ap (λ rows. record { denies = λ r. is_denial r ((form_of o).tests rows by); reply = (form_of o).reply rows by; changes = (form_of o).changes rows by })
    ((local_of o).rows_same by w v bank bank' same held form)
    ∙ sym (judged_by_form o by v)
