-- What is known of a request that no rule denies: its user is there, holds a triple, and the books let it be.
use Rattle.std.proofs.Common.{◌≡◌, ℕ, ◌==◌, true, Option, Some, None, refl, sym, ◌∙◌}
use Rattle.std.specs.Prelude.{option_and_then, option_map}
use Rattle.std.specs.Option.{option_map_or}
use Rattle.std.proofs.lemmas.Bool.{eqb-true, not-false}
use Rattle.bank_policy.specs.HeldRows.{standing, standing_of, triples_of, user_row}
use Rattle.bank_policy.specs.PolicyKeys.{user_key}
use Rattle.policy_check.specs.Separation.{MayExecute}
use Rattle.bank_policy.specs.declared.rows.User.{User}
use Rattle.bank_terms.specs.declared.rule.Rule.{Rule}
use Rattle.bank_terms.specs.declared.rule.Rule.TheVariants as rule
use Rattle.bank_policy.specs.Tests.{current}
use Rattle.bank_policy.proofs.RowsTell.{held_by_rows}
use Rattle.bank_policy.proofs.Tested.{held_by_some}
use Rattle.bank_books.specs.Range.{IsUser}
use Rattle.bank_books.specs.WorldLists.{WorldLists}
use Rattle.counter_ops.specs.Op.{procedure_of}
use Rattle.keyed_rows.proofs.Rows.{find-found}
use Rattle.counter_ops.specs.Touched.{touched}
use Rattle.bank_meaning.specs.PolicyRules.{asker, first_of_policy, grounds, is_identified}
use Rattle.bank_meaning.specs.Meaning.{by_books}
use Rattle.bank_meaning.specs.Executions.{books_meaning}
use Rattle.bank_meaning.specs.Requests.{executes, first}
use Rattle.bank_meaning.specs.declared.execution.Execution.{Execution}
use Rattle.bank_meaning.specs.Sums.{NoOneExecutesWhatHeCertifies}
use Rattle.bank_meaning.proofs.FirstRule.{none_denies}
use Rattle.bank_meaning.proofs.PolicyLemmas.{books_decide, policy_decides}
use Rattle.bank_meaning.proofs.SlipFirst.{plain_allowed}

-- ---- the user

row_there : (o : Option User) (session : ℕ) → is_identified (option_map standing_of o) session ≡ true → (row : User) × (o ≡ Some row)
row_there None session is = absurd cc
row_there (Some row) session is = (row, refl)

pub user_there : (w : WorldLists) (user : Option ℕ) (session : ℕ) → is_identified (option_and_then (λ u. standing w.policy u) user) session ≡ true
    → IsUser w.policy.users (option_map_or (λ u. u) user 0)
user_there w None session is = absurd cc
user_there w (Some user) session is =
    let row = row_there (user_row w.policy user) session is in
    let found = find-found (λ r. user_key r == user) w.policy.users row.0 row.1 in
    (row.0, (found.0, eqb-true (user_key row.0) user found.1))

pub allowed_user : (w : WorldLists) (q : Execution) → first w (executes q) ≡ None → IsUser w.policy.users (asker q.who)
allowed_user w q is = user_there w q.who.user q.who.session (not-false _ (none_denies w (executes q) rule.Identity is))

-- ---- the user's triple

may_execute : (w : WorldLists) (q : Execution) → first w (executes q) ≡ None → MayExecute w.policy (asker q.who) (procedure_of q.op)
may_execute w q is =
    let some = held_by_some (current q.moment (triples_of w.policy (asker q.who) (procedure_of q.op))) (touched q.op) (not-false _ (none_denies w (executes q) rule.NoTriple is)) in
    let held = (held_by_rows w.policy (asker q.who) (procedure_of q.op) (touched q.op) some.0 q.moment).1 some.1 in
    (held.0, held.1, held.2, held.3, (held.4.0, held.4.1))

pub no_one_executes_what_he_certifies : NoOneExecutesWhatHeCertifies
no_one_executes_what_he_certifies w q separated is certifies = separated.others (asker q.who) (procedure_of q.op) (certifies, may_execute w q is)

-- ---- the books

pub allowed_by_books : (w : WorldLists) (q : Execution) → first w (executes q) ≡ None → (by_books (books_meaning w q)).first ≡ None
allowed_by_books w q is = go (first_of_policy (grounds w q)) refl
  where
    go : (r : Option Rule) → first_of_policy (grounds w q) ≡ r → (by_books (books_meaning w q)).first ≡ None
    go None none = sym (books_decide w q none) ∙ plain_allowed w q is
    go (Some r) some = let denied : None ≡ Some r = sym (plain_allowed w q is) ∙ policy_decides w q r some in absurd cc
