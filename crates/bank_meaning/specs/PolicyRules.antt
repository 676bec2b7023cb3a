-- The rules of the policy: who asks, and rules E1 to E3 of Clark and Wilson's model.
use Rattle.std.specs.Prelude.{ℕ, ◌==◌, ◌&&◌, Bool, false, not, List, [], ◌∷◌, Option, None, Some, Result, Ok, Err, if◌then◌else◌, option_and_then}
use Rattle.std.specs.Option.{option_map_or}
use Rattle.bank_policy.specs.HeldRows.{CertifiedSet, HeldTriple, relations_of, standing, triples_of}
use Rattle.bank_policy.specs.Tests.{current, is_certified, is_held, is_held_for}
use Rattle.bank_terms.specs.declared.item.Cdi.{Cdi}
use Rattle.bank_policy.specs.declared.rows.Standing.{Standing}
use Rattle.bank_terms.specs.declared.operation_row.OperationRow.{OperationRow}
use Rattle.bank_terms.specs.declared.rule.Rule.{Rule}
use Rattle.bank_terms.specs.declared.rule.Rule.TheVariants as rule
use Rattle.bank_books.specs.Effects.{written}
use Rattle.bank_books.specs.WorldLists.{WorldLists}
use Rattle.bank_books.specs.declared.row_write.RowWrite.TheVariants as write
use Rattle.counter_ops.specs.Op.{procedure_of}
use Rattle.counter_ops.specs.Rows.{row_of}
use Rattle.counter_ops.specs.Touched.{amount, touched}
use Rattle.rule_tests.specs.Denial.{first_denial, is_denial}
use Rattle.bank_meaning.specs.NamedRelease.{ReleaseGrounds, counts, release_grounds}
use Rattle.bank_meaning.specs.declared.leave.Authorization.{Authorization}
use Rattle.bank_meaning.specs.declared.leave.Authorization.TheVariants as leave
use Rattle.bank_meaning.specs.declared.execution.Execution.{Execution}
use Rattle.bank_meaning.specs.declared.who.Who.{Who}

-- the user who asks, 0 where the authenticator names none
abbrev pub asker : Who → ℕ
asker who = option_map_or (λ user. user) who.user 0

-- all that the rules of the policy judge one operation by; of the triples, those that are valid at its moment
pub record Grounds : Type 0 where
  -- who asks, 0 where the authenticator names none
  pub user : ℕ
  pub standing : Option Standing
  pub session : ℕ
  pub relations : List CertifiedSet
  pub held : List HeldTriple
  -- the operation as a row, what it touches and what it comes to
  pub operation : OperationRow
  pub items : List Cdi
  pub amount : ℕ
  -- the number of the release that is named, 0 for none, and what it is judged by, where it is there
  pub release : ℕ
  pub released : Option ReleaseGrounds

abbrev pub grounds : WorldLists → Execution → Grounds
grounds w x = record {
  user = asker x.who;
  standing = option_and_then (λ user. standing w.policy user) x.who.user;
  session = x.who.session;
  relations = relations_of w.policy (procedure_of x.op);
  held = current x.moment (triples_of w.policy (asker x.who) (procedure_of x.op));
  operation = row_of x.op;
  items = touched x.op;
  amount = amount x.op;
  release = x.who.release;
  released = release_grounds w (asker x.who) x.who.release x.moment;
}

-- the user is there, is not suspended, and their session is open and the one that is named; 0 names none
abbrev pub is_identified : Option Standing → ℕ → Bool
is_identified row session = option_map_or (λ s. not (session == 0) && (not s.suspended && (s.on && s.session == session))) row false

-- some one triple of the user's holds all that is touched, and reaches the amount
abbrev pub is_in_limit : Grounds → Bool
is_in_limit g = is_held_for g.held g.items g.amount

-- the release that is named is there and valid
abbrev pub is_released : Grounds → Bool
is_released g = option_map_or (λ r. counts r g.user g.operation g.items g.amount) g.released false

-- The rules of the policy that an operation is judged by, in their order, each with whether it denies: who asks is not
-- known; no relation of the procedure has a set that holds all that is touched; no one triple of the user's has; none
-- that has reaches the amount, and no release is named; or one is named, and is not valid.
abbrev pub policy_tests : Grounds → List (Rule × Bool)
policy_tests g =
    (rule.Identity, not (is_identified g.standing g.session))
    ∷ (rule.NotCertified, not (is_certified g.relations g.items))
    ∷ (rule.NoTriple, not (is_held g.held g.items))
    ∷ (rule.Limit, not (is_in_limit g) && g.release == 0)
    ∷ (rule.Release, not (is_in_limit g) && (not (g.release == 0) && not (is_released g)))
    ∷ []

-- the rule denies it
abbrev pub policy_denies : Rule → Grounds → Bool
policy_denies r g = is_denial r (policy_tests g)

-- the first of them that denies
abbrev pub first_of_policy : Grounds → Option Rule
first_of_policy g = first_denial (policy_tests g)

-- what authorizes it, where no rule denies: a triple of the user's own, or else the release that is named
abbrev pub leave_of : Grounds → Authorization
leave_of g = if is_in_limit g then leave.Triple else leave.Release g.release

abbrev pub unless_denied : {A : Type 0} → Option Rule → A → Result A Rule
unless_denied None value = Ok value
unless_denied (Some rule) value = Err rule

-- the authorization that the policy gives, or its first rule against it
abbrev pub leave_by_policy : Grounds → Result Authorization Rule
leave_by_policy g = unless_denied (first_of_policy g) (leave_of g)

-- the authorization that a user's triples give, or the first rule by which they give none: a triple that reaches the
-- amount, or else the release that is named
abbrev pub authorization_by_triples : List HeldTriple → List Cdi → ℕ → ℕ → Result Authorization Rule
authorization_by_triples held items amount release =
    if not (is_held held items) then Err rule.NoTriple
    else (if is_held_for held items amount then Ok leave.Triple else (if release == 0 then Err rule.Limit else Ok (leave.Release release)))

-- The authorization that is sought, or the first rule before that on releases: it is a release where no triple reaches
-- the amount, whether that is valid or not.
abbrev pub leave_sought : Grounds → Result Authorization Rule
leave_sought g =
    if not (is_identified g.standing g.session) then Err rule.Identity
    else (if not (is_certified g.relations g.items) then Err rule.NotCertified else authorization_by_triples g.held g.items g.amount g.release)

-- the World where an authorization was used: a release is marked as used
abbrev pub used_by : Authorization → ℕ → WorldLists → WorldLists
used_by leave.Triple user w = w
used_by (leave.Release number) user w = written (write.Used (record { user = user; number = number })) w
