-- What the rules say of an operation that is asked for, what it leaves and what it is answered.
use Rattle.std.specs.Prelude.{Bool, true, false, List, ◌∷◌, if◌then◌else◌}
use Rattle.std.specs.List.{find}
use Rattle.bank_terms.specs.declared.rule.Rule.{Rule}
use Rattle.bank_terms.specs.declared.rule.Rule.TheVariants as rule
use Rattle.bank_books.specs.WorldLists.{WorldLists}
use Rattle.bank_books.specs.declared.signature.Signature.{Signature}
use Rattle.bank_meaning.specs.Meaning.{Meaning, Verdict, rules_after_policy}
use Rattle.bank_meaning.specs.Operations.{meaning_of}
use Rattle.bank_meaning.specs.PolicyRules.{asker, grounds, leave_of, policy_denies, used_by}
use Rattle.bank_meaning.specs.declared.execution.Execution.{Execution}

-- who makes the rows that it adds, and when
abbrev pub signature_of : Execution → Signature
signature_of x = record { user = asker x.who; moment = x.moment }

-- what its operation is in a World, by the books alone
abbrev pub books_meaning : WorldLists → Execution → Meaning
books_meaning w x = meaning_of x.op (signature_of x) w

-- the rule is one of the policy's, by which operations are judged before their books
abbrev pub is_of_policy : Rule → Bool
is_of_policy rule.Identity = true
is_of_policy rule.NotCertified = true
is_of_policy rule.NoTriple = true
is_of_policy rule.Limit = true
is_of_policy rule.Release = true
is_of_policy _ = false

-- What it is in a World, by the rules of the policy and of the books. Where a release is what lets it be, that is used up with it.
abbrev pub execution_meaning : WorldLists → Execution → Meaning
execution_meaning w x = record {
  denies = λ r. if is_of_policy r then policy_denies r (grounds w x) else (books_meaning w x).denies r;
  effect = used_by (leave_of (grounds w x)) (asker x.who) (books_meaning w x).effect;
  reply = (books_meaning w x).reply;
}

-- the rules that it is judged by beside its slip, in their order
abbrev pub rules_of_executions : List Rule
rules_of_executions = rule.Identity ∷ rule.NotCertified ∷ rule.NoTriple ∷ rule.Limit ∷ rule.Release ∷ rules_after_policy

-- all that is said of it beside its slip
abbrev pub execution_verdict : Execution → WorldLists → Verdict
execution_verdict x w = record {
  first = find (λ r. (execution_meaning w x).denies r) rules_of_executions;
  effect = (execution_meaning w x).effect;
  reply = (execution_meaning w x).reply;
}
