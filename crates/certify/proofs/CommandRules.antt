-- What follows of the policy from the rules, where none denies a command.
use Rattle.std.proofs.Common.{◌≡◌, ◌≢◌, ℕ, ◌==◌, ◌&&◌, Bool, true, false, not, map, refl, ap, sym, ◌∙◌, Option, Some, None, Contains}
use Rattle.std.specs.Prelude.{is_none, is_some, option_map}
use Rattle.std.specs.Option.{option_map_or}
use Rattle.std.proofs.lemmas.Bool.{eq-eqb, eqb-true, false≢true}
use Rattle.keyed_rows.specs.Ordered.{AreDistinct, HasRow}
use Rattle.bank_policy.specs.HeldRows.{standing, standing_of, user_row}
use Rattle.bank_policy.specs.Policy.{PolicyLists}
use Rattle.bank_policy.specs.PolicyKeys.{user_key}
use Rattle.bank_policy.specs.declared.rows.Standing.{Standing}
use Rattle.bank_policy.specs.declared.rows.User.{User}
use Rattle.keyed_rows.proofs.Rows.{find-found, find_of_key, none_passes}
use Rattle.rule_tests.proofs.RuleTests.{passed_by, source_of}
use Rattle.policy_commands.specs.declared.policy_op.PolicyOp.{PolicyOp}
use Rattle.certify.specs.Commands.{breaks_separation, first_against_command, is_of_officers, is_out_of_place, is_unknown}
use Rattle.certify.specs.declared.command_rows.CommandRows.{CommandRows}

-- no rule denies the command
pub record IsPassed (rows : CommandRows) (by : ℕ) (command : PolicyOp) : Type 0 where
  pub officer : (is_of_officers command && not rows.officer) ≡ false
  pub certifier : (not (is_of_officers command) && not rows.certifies) ≡ false
  pub separation : breaks_separation rows command ≡ false
  pub known : is_unknown rows command ≡ false
  pub state : is_out_of_place rows by command ≡ false

pub passed : (rows : CommandRows) (by : ℕ) (command : PolicyOp) → first_against_command rows by command ≡ None → IsPassed rows by command
passed rows by command none =
    let first = passed_by (is_of_officers command && not rows.officer) _ _ none in
    let second = passed_by (not (is_of_officers command) && not rows.certifies) _ _ first.1 in
    let third = passed_by (breaks_separation rows command) _ _ second.1 in
    let fourth = passed_by (is_unknown rows command) _ _ third.1 in
    let fifth = passed_by (is_out_of_place rows by command) _ _ fourth.1 in
    record { officer = first.0; certifier = second.0; separation = third.0; known = fourth.0; state = fifth.0 }

pub not_false : (b : Bool) → not b ≡ false → b ≡ true
not_false true is = refl
not_false false is = cc

pub not_true : (b : Bool) → not b ≡ true → b ≡ false
not_true true is = cc
not_true false is = refl

-- ---- users, by what is asked of their rows

-- a user whose row says something is there
pub user_there : (policy : PolicyLists) (user : ℕ) → is_none (standing policy user) ≡ false → HasRow user_key policy.users user
user_there policy user is =
    let found = source_of standing_of (user_row policy user) is in
    let row = find-found (λ r. user_key r == user) policy.users found.0 found.1 in
    (found.0, (row.0, eqb-true (user_key found.0) user row.1))

-- a user without a standing has no row
pub user_missing : (policy : PolicyLists) (user : ℕ) → is_some (standing policy user) ≡ false → (row : User) → Contains policy.users row → user_key row ≢ user
user_missing policy user none row there of = go (user_row policy user) refl none
  where
    go : (o : Option User) → user_row policy user ≡ o → is_some (option_map standing_of o) ≡ false → ⊥
    go None is none = false≢true (sym (none_passes (λ r. user_key r == user) policy.users row is there) ∙ eq-eqb (user_key row) user of)
    go (Some r) is none = false≢true (sym none)

-- a user whose standing is not that of an officer is no officer by any row
pub not_officer : (policy : PolicyLists) (user : ℕ) → AreDistinct (map user_key policy.users) → option_map_or (λ s. s.officer) (standing policy user) false ≡ false
    → (row : User) → Contains policy.users row → user_key row ≡ user → row.officer ≢ true
not_officer policy user distinct none row there of is =
    let found = find_of_key user_key user policy.users row distinct there of in
    false≢true (sym none ∙ ap (λ o. option_map_or (λ (s : Standing). s.officer) (option_map standing_of o) false) found ∙ is)
