-- The rules of the books deny at both banks or at neither.
use Rattle.std.proofs.Common.{◌≡◌, ◌∙◌, ap, false, sym}
use Rattle.bank_terms.specs.declared.rule.Rule.{Rule}
use Rattle.bank_books.specs.WorldLists.{WorldLists}
use Rattle.bank_books.specs.declared.signature.Signature.{Signature}
use Rattle.counter_ops.specs.declared.op.Op.{Op}
use Rattle.bank_meaning.specs.Operations.{meaning_of}
use Rattle.bank_meaning.proofs.Forms.{law_of}
use Rattle.year_laws.specs.GoesOn.{GoesOn, Turn, op_at_old}
use Rattle.year_laws.specs.JudgedAlike.{BooksJudgeAlike, NamesAnEntry, begins_anew}
use Rattle.year_laws.proofs.IsYearForm.{tests_of}
use Rattle.year_laws.proofs.TestParts.{same_denial}
use Rattle.year_laws.proofs.YearForms.{year_of}

module _ (t : Turn) (old new : WorldLists) (on : GoesOn t old new) where
  pub judged : (x : Op) → NamesAnEntry x → (by : Signature) (r : Rule) → begins_anew r ≡ false → (meaning_of (op_at_old t x) by old).denies r ≡ (meaning_of x by new).denies r
  judged x names by r not_anew =
      ap (λ m. m.denies r) ((law_of (op_at_old t x)).said by old)
      ∙ same_denial r not_anew (tests_of (op_at_old t x) by old) (tests_of x by new) ((year_of x).tests t old new on names by)
      ∙ sym (ap (λ m. m.denies r) ((law_of x).said by new))

pub books_judge_alike : BooksJudgeAlike
books_judge_alike t old new on x names by r not_anew = judged t old new on x names by r not_anew
