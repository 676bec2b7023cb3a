-- A question leaves the World: it comes to nothing, so that every triple that holds its items reaches its amount, and no release is used up.
use Rattle.std.proofs.Common.{◌≡◌, ℕ, ◌==◌, Bool, true, false, List, Option, Some, None, refl, ap, arith, sym, subst, ◌∙◌}
use Rattle.std.specs.Prelude.{if◌then◌else◌}
use Rattle.std.proofs.lemmas.Bool.{not-false}
use Rattle.bank_policy.proofs.Tested.{held_by_some, up_to_holds}
use Rattle.bank_policy.specs.HeldRows.{triples_of}
use Rattle.bank_policy.specs.Tests.{current, is_held_for}
use Rattle.bank_terms.specs.Procedure.{takes_slip}
use Rattle.bank_terms.specs.declared.rule.Rule.{Rule}
use Rattle.bank_terms.specs.declared.rule.Rule.TheVariants as rule
use Rattle.bank_books.specs.WorldLists.{WorldLists}
use Rattle.bank_books.specs.Effects.{applied, written}
use Rattle.bank_books.specs.declared.row_write.RowWrite.TheVariants as write
use Rattle.counter_ops.specs.Op.{procedure_of}
use Rattle.counter_ops.specs.Touched.{amount, touched}
use Rattle.counter_ops.specs.declared.op.Op.{Op}
use Rattle.bank_meaning.specs.Executions.{books_meaning, signature_of}
use Rattle.bank_meaning.specs.Operations.{form_of}
use Rattle.bank_meaning.specs.PolicyRules.{asker, grounds, is_in_limit, used_by}
use Rattle.bank_meaning.specs.Questions.{QuestionsChangeNothing}
use Rattle.bank_meaning.specs.Requests.{effect, executes, first, repeated}
use Rattle.bank_meaning.specs.Run.{if_allowed, step, unless_repeated}
use Rattle.bank_meaning.specs.Slips.{slip_named, slip_of}
use Rattle.bank_meaning.specs.declared.execution.Execution.{Execution}
use Rattle.bank_meaning.specs.declared.leave.Authorization.TheVariants as leave
use Rattle.bank_meaning.specs.declared.request.Asked.{Asked}
use Rattle.bank_meaning.specs.declared.request.Asked.TheVariants as asked
use Rattle.bank_meaning.specs.declared.request.Request.{Request}
use Rattle.bank_meaning.specs.declared.who.Who.{Who}
use Rattle.bank_meaning.proofs.Forms.{law_of}
use Rattle.bank_meaning.proofs.FirstRule.{none_denies}

-- some triple holds all that is touched, so it reaches an amount of 0
in_limit : (w : WorldLists) (x : Execution) → amount x.op ≡ 0 → first w (executes x) ≡ None → is_in_limit (grounds w x) ≡ true
in_limit w x zero is =
    let rows = current x.moment (triples_of w.policy (asker x.who) (procedure_of x.op)) in
    let some = held_by_some rows (touched x.op) (not-false _ (none_denies w (executes x) rule.NoTriple is)) in
    subst (λ n. is_held_for rows (touched x.op) n ≡ true) (sym zero) (up_to_holds rows (touched x.op) some.0 0 some.1 (omega arith))

-- An operation that comes to nothing, takes no slip, and changes nothing by the books alone.
record IsQuestion (w : WorldLists) (x : Execution) : Type 0 where
  pub nothing : amount x.op ≡ 0
  pub no_slip : slip_named x ≡ 0
  pub books : (books_meaning w x).effect ≡ w

no_effect : (w : WorldLists) (x : Execution) → IsQuestion w x → first w (executes x) ≡ None → effect w (executes x) ≡ w
no_effect w x question is = go (is_in_limit (grounds w x)) (slip_named x) (in_limit w x question.nothing is) question.no_slip
  where
    after : WorldLists
    after = (books_meaning w x).effect

    left : Bool → WorldLists
    left within = used_by (if within then leave.Triple else leave.Release x.who.release) (asker x.who) after

    go : (within : Bool) (slip : ℕ) → within ≡ true → slip ≡ 0
        → (if slip == 0 then left within else written (write.Slip (slip_of x (books_meaning w x).reply.bytes)) (left within)) ≡ w
    go within slip reaches none =
        ap (λ n. if n == 0 then left within else written (write.Slip (slip_of x (books_meaning w x).reply.bytes)) (left within)) none ∙ ap left reaches ∙ question.books

no_step : (w : WorldLists) (x : Execution) → IsQuestion w x → step w (executes x) ≡ w
no_step w x question = go (repeated w (executes x)) (first w (executes x)) refl
  where
    go : (kept : Option (List ℕ)) (r : Option Rule) → first w (executes x) ≡ r → unless_repeated kept (if_allowed r (effect w (executes x)) w) w ≡ w
    go None None is = no_effect w x question is
    go None (Some r) is = refl
    go (Some text) r is = refl

question_of : (w : WorldLists) (who : Who) (moment : ℕ) (o : Op) → takes_slip (procedure_of o) ≡ false → IsQuestion w (record { who = who; moment = moment; op = o })
question_of w who moment o is =
    let x : Execution = record { who = who; moment = moment; op = o } in
    let question = (law_of o).asks is in
    record {
      nothing = question.nothing;
      no_slip = ap (λ b. if b then who.slip else 0) is;
      books = ap (λ m. m.effect) ((law_of o).said (signature_of x) w) ∙ ap (λ changes. applied changes w) (question.silent ((form_of o).rows (signature_of x) w) (signature_of x));
    }

-- denied or not, a listing leaves the World
listing_leaves : (r : Option Rule) (w : WorldLists) → if_allowed r w w ≡ w
listing_leaves None w = refl
listing_leaves (Some r) w = refl

pub questions_change_nothing : QuestionsChangeNothing
questions_change_nothing = (
  λ w x is. no_step w x (question_of w x.who x.moment x.op is),
  λ w q is.
      let listed : Request = record { who = q.who; moment = q.moment; asked = asked.Listing } in
      subst (λ (what : Asked). step w (record { who = q.who; moment = q.moment; asked = what }) ≡ w) (sym is) (listing_leaves (first w listed) w),
)
