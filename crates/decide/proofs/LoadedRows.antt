-- The first rule against an operation, by rows that were loaded for it.
use Rattle.std.proofs.Common.{◌≡◌, ◌==◌, ◌&&◌, ℕ, Bool, true, false, not, cond, List, Option, Some, None, Ok, Err, Result, ap, sym, ◌∙◌}
use Rattle.std.specs.Prelude.{if◌then◌else◌}
use Rattle.std.specs.Prelude.{option_map}
use Rattle.std.specs.Rc.{rc_slice_items}
use Rattle.bank_policy.specs.HeldRows.{CertifiedSet, HeldTriple}
use Rattle.bank_policy.specs.declared.rows.Standing.{Standing}
use Rattle.bank_policy.specs.Tests.{current, is_certified, is_held}
use Rattle.bank_terms.specs.declared.rule.Rule.{Rule}
use Rattle.bank_books.specs.WorldLists.{WorldLists}
use Rattle.counter_ops.specs.Rows.{row_of}
use Rattle.counter_ops.specs.Touched.{amount, touched}
use Rattle.bank_meaning.specs.Executions.{signature_of}
use Rattle.decide.specs.Loaded.{IsLoadedFor, loaded_grounds}
use Rattle.decide.specs.NamedRelease.{grounds_of}
use Rattle.bank_meaning.specs.Meaning.{by_books}
use Rattle.bank_meaning.specs.Operations.{meaning_of}
use Rattle.bank_meaning.specs.NamedRelease.{ReleaseGrounds}
use Rattle.bank_meaning.specs.PolicyRules.{Grounds, asker, first_of_policy, grounds, is_identified, is_in_limit, is_released, authorization_by_triples}
use Rattle.bank_meaning.specs.declared.leave.Authorization.{Authorization}
use Rattle.bank_meaning.specs.declared.leave.Authorization.TheVariants as leave
use Rattle.bank_terms.specs.declared.rule.Rule.TheVariants as rule
use Rattle.bank_meaning.specs.Executions.{execution_verdict}
use Rattle.bank_meaning.specs.declared.execution.Execution.{Execution}
use Rattle.decide.specs.declared.by_rows.OperationRows.{OperationRows}
use Rattle.bank_meaning.proofs.PolicyLemmas.{books_decide, policy_decides}

-- what is judged, of these parts
abbrev grounds_with : Execution → Option Standing → List CertifiedSet → List HeldTriple → Option ReleaseGrounds → Grounds
grounds_with x s relations held released = record {
  user = asker x.who;
  standing = s;
  session = x.who.session;
  relations = relations;
  held = held;
  operation = row_of x.op;
  items = touched x.op;
  amount = amount x.op;
  release = x.who.release;
  released = released;
}

same_grounds : (w : WorldLists) (x : Execution) (l : OperationRows) → IsLoadedFor w x l → loaded_grounds l.policy x ≡ grounds w x
same_grounds w x l loaded =
    let g = grounds w x in
    ap (λ s. grounds_with x s (rc_slice_items l.policy.relations) (current x.moment (rc_slice_items l.policy.held)) (option_map (grounds_of x.moment) l.policy.released)) loaded.standing
    ∙ ap (λ rows. grounds_with x g.standing rows (current x.moment (rc_slice_items l.policy.held)) (option_map (grounds_of x.moment) l.policy.released)) loaded.relations
    ∙ ap (λ rows. grounds_with x g.standing g.relations (current x.moment rows) (option_map (grounds_of x.moment) l.policy.released)) loaded.held
    ∙ ap (λ released. grounds_with x g.standing g.relations g.held released) loaded.released

pub denied_by_policy : (w : WorldLists) (x : Execution) (l : OperationRows) (r : Rule) → IsLoadedFor w x l → first_of_policy (loaded_grounds l.policy x) ≡ Some r → Some r ≡ (execution_verdict x w).first
denied_by_policy w x l r loaded is = sym (policy_decides w x r (ap first_of_policy (sym (same_grounds w x l loaded)) ∙ is))

pub denied_by_books : (w : WorldLists) (x : Execution) (l : OperationRows) (stated : Option Rule) → IsLoadedFor w x l → first_of_policy (loaded_grounds l.policy x) ≡ None
    → stated ≡ (by_books (meaning_of x.op (signature_of x) w)).first → stated ≡ (execution_verdict x w).first
denied_by_books w x l stated loaded none says = says ∙ sym (books_decide w x (ap first_of_policy (sym (same_grounds w x l loaded)) ∙ none))

first_by_tests : (known certified held enough none_named counts : Bool) (release : ℕ) (r : Rule) → known ≡ true → certified ≡ true
    → ◌≡◌ {A = Result Authorization Rule} (if not held then Err rule.NoTriple else (if enough then Ok leave.Triple else (if none_named then Err rule.Limit else Ok (leave.Release release)))) (Err r)
    → ◌≡◌ {A = Option Rule} (cond (not known) (Some rule.Identity)
    (cond (not certified) (Some rule.NotCertified)
    (cond (not held) (Some rule.NoTriple)
    (cond (not enough && none_named) (Some rule.Limit) (cond (not enough && (not none_named && not counts)) (Some rule.Release) None))))) (Some r)
first_by_tests false certified held enough none_named counts release r known cert is = absurd cc
first_by_tests true false held enough none_named counts release r known cert is = absurd cc
first_by_tests true true false enough none_named counts release r known cert is = cc
first_by_tests true true true true none_named counts release r known cert is = absurd cc
first_by_tests true true true false true counts release r known cert is = cc
first_by_tests true true true false false counts release r known cert is = absurd cc

-- a rule by which triples authorize nothing is the policy's first, where the user is known and the procedure certified
pub first_by_triples : (g : Grounds) (r : Rule) → is_identified g.standing g.session ≡ true → is_certified g.relations g.items ≡ true → authorization_by_triples g.held g.items g.amount g.release ≡ Err r
    → first_of_policy g ≡ Some r
first_by_triples g r =
    first_by_tests (is_identified g.standing g.session) (is_certified g.relations g.items) (is_held g.held g.items) (is_in_limit g) (g.release == 0) (is_released g) g.release r
