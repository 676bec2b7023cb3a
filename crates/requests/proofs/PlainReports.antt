-- The replies in plain text are those of reports.
use Rattle.std.proofs.Common.{◌≡◌, ◌↔◌, ℕ, refl}
use Rattle.bank_books.specs.WorldLists.{WorldLists}
use Rattle.counter_ops.specs.declared.op.Op.{Op}
use Rattle.counter_ops.specs.declared.op.Op.TheVariants as op
use Rattle.bank_meaning.specs.Requests.{asked_meaning}
use Rattle.bank_meaning.specs.declared.reply_kind.ReplyKind.TheVariants as kind
use Rattle.bank_meaning.specs.declared.request.Asked.{Asked}
use Rattle.bank_meaning.specs.declared.request.Asked.TheVariants as asked
use Rattle.bank_meaning.specs.declared.who.Who.{Who}
use Rattle.requests.specs.Laws.{ReportsArePlain}
use Rattle.requests.specs.Request.{IsReport}

operation_plain : (w : WorldLists) (who : Who) (moment : ℕ) (o : Op) → IsReport (asked.Operation o) ↔ ((asked_meaning (asked.Operation o) who moment w).reply.kind ≡ kind.Plain)
operation_plain w who moment (op.Statement statement) = (λ is. refl, λ is. refl)
operation_plain w who moment (op.Accounts accounts) = (λ is. refl, λ is. refl)
operation_plain w who moment (op.Proof proof) = (λ is. refl, λ is. refl)
operation_plain w who moment _ = (λ is. absurd cc, λ is. absurd cc)

asked_plain : (w : WorldLists) (who : Who) (moment : ℕ) (what : Asked) → IsReport what ↔ ((asked_meaning what who moment w).reply.kind ≡ kind.Plain)
asked_plain w who moment (asked.Operation o) = operation_plain w who moment o
asked_plain w who moment asked.Listing = (λ is. refl, λ is. tt)
asked_plain w who moment _ = (λ is. absurd is, λ is. absurd cc)

pub reports_are_plain : ReportsArePlain
reports_are_plain w q = asked_plain w q.who q.moment q.asked
