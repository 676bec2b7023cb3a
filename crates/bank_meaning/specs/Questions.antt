-- That questions change nothing.
use Rattle.std.specs.Prelude.{◌≡◌, false}
use Rattle.bank_terms.specs.Procedure.{takes_slip}
use Rattle.bank_books.specs.WorldLists.{WorldLists}
use Rattle.counter_ops.specs.Op.{procedure_of}
use Rattle.bank_meaning.specs.Requests.{executes}
use Rattle.bank_meaning.specs.Run.{step}
use Rattle.bank_meaning.specs.declared.execution.Execution.{Execution}
use Rattle.bank_meaning.specs.declared.request.Asked.TheVariants as asked
use Rattle.bank_meaning.specs.declared.request.Request.{Request}

-- An operation of a form that takes no slip leaves the whole World, whatever is named with it, a release too; and so does the listing of the policy.
abbrev pub QuestionsChangeNothing : Type 0
QuestionsChangeNothing = ((w : WorldLists) (x : Execution) → takes_slip (procedure_of x.op) ≡ false → step w (executes x) ≡ w)
    × ((w : WorldLists) (q : Request) → q.asked ≡ asked.Listing → step w q ≡ w)
