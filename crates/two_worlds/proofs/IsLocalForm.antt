-- What is so of each operation in two Worlds, by the laws of its form.
use Rattle.std.proofs.Common.{◌≡◌, None, map}
use Rattle.keyed_rows.specs.Ordered.{AreDistinct}
use Rattle.bank_policy.specs.HeldRows.{triples_of}
use Rattle.bank_books.specs.Keys.{teller_key}
use Rattle.bank_books.specs.WorldLists.{WorldLists}
use Rattle.bank_books.specs.declared.signature.Signature.{Signature}
use Rattle.counter_ops.specs.Op.{procedure_of}
use Rattle.counter_ops.specs.Operations.{IsOp}
use Rattle.counter_ops.specs.Touched.{touched}
use Rattle.counter_ops.specs.declared.op.Op.{Op}
use Rattle.bank_meaning.specs.Form.{changed_by}
use Rattle.bank_meaning.specs.Meaning.{by_books}
use Rattle.bank_meaning.specs.Operations.{form_of, meaning_of}
use Rattle.bank_meaning.specs.Sums.{PassesChecks}
use Rattle.two_worlds.specs.Agree.{AgreeByForm}
use Rattle.two_worlds.specs.Laws.{IsNotGiven}
use Rattle.two_worlds.proofs.PlanParts.{IsCarried}
use Rattle.two_worlds.proofs.Within.{AreAlike}

pub record IsLocalForm (o : Op) : Type 0 where
  -- in two Worlds in which what it touches is alike, and which agree on what its form alone looks at, its rows are the same
  pub rows_same : (by : Signature) (w v : WorldLists) → PassesChecks w → PassesChecks v → AreAlike (touched o) w v → triples_of w.policy by.user (procedure_of o) ≡ triples_of v.policy by.user (procedure_of o)
      → AgreeByForm w v by.user by.moment o → (form_of o).rows by w ≡ (form_of o).rows by v
  -- if no rule denies it, what it changes is among what it touches, and each release but one that it gives stays
  pub carried : (by : Signature) (w : WorldLists) → AreDistinct (map teller_key w.tellers) → IsOp o → (by_books (meaning_of o by w)).first ≡ None
      → IsCarried (touched o) w.tellers (IsNotGiven w o) (changed_by (form_of o) by w)
