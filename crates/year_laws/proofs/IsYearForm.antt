-- What is so of each operation at the bank that goes on and at the next year's, by the laws of its form.
use Rattle.std.proofs.Common.{◌≡◌, Bool, List, None}
use Rattle.bank_terms.specs.declared.rule.Rule.{Rule}
use Rattle.bank_books.specs.WorldLists.{WorldLists}
use Rattle.bank_books.specs.declared.signature.Signature.{Signature}
use Rattle.counter_ops.specs.declared.op.Op.{Op}
use Rattle.bank_meaning.specs.Meaning.{ReplyText, by_books, json}
use Rattle.bank_meaning.specs.Operations.{form_of, meaning_of}
use Rattle.year_laws.specs.GoesOn.{GoesOn, Turn, op_at_old}
use Rattle.year_laws.specs.JudgedAlike.{NamesAnEntry}
use Rattle.year_laws.specs.RepliedAlike.{IsRepliedAlike}
use Rattle.year_laws.specs.StaysAlike.{StayAlike}
use Rattle.year_laws.proofs.TestParts.{AreTestsAlike}

-- the tests of its form, over its rows of a World
abbrev pub tests_of : Op → Signature → WorldLists → List (Rule × Bool)
tests_of o by w = (form_of o).tests ((form_of o).rows by w) by

pub record IsYearForm (o : Op) : Type 0 where
  -- each rule of the books but those that begin anew denies it at both banks or at neither
  pub tests : (t : Turn) (old new : WorldLists) → GoesOn t old new → NamesAnEntry o → (by : Signature) → AreTestsAlike (tests_of (op_at_old t o) by old) (tests_of o by new)
  -- what is replied is alike
  pub replies : (t : Turn) (old new : WorldLists) → GoesOn t old new → NamesAnEntry o → (by : Signature) → IsRepliedAlike t o (meaning_of (op_at_old t o) by old).reply (meaning_of o by new).reply
  -- and so is what is kept of both replies
  pub kept : (t : Turn) (a b : ReplyText) → IsRepliedAlike t o a b → IsRepliedAlike t o (json a.bytes) (json b.bytes)
  -- if no rule denies it at either bank, both stay alike
  pub stays : (t : Turn) (old new : WorldLists) → StayAlike t old new → NamesAnEntry o → (by : Signature) → (by_books (meaning_of (op_at_old t o) by old)).first ≡ None
      → (by_books (meaning_of o by new)).first ≡ None → StayAlike t (meaning_of (op_at_old t o) by old).effect (meaning_of o by new).effect
