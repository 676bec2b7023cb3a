-- What a check of a policy answers: Ok exactly where it is sound and separated, else the first fault in this order.
use Rattle.std.specs.Prelude.{ℕ, ◌≡◌, ◌<◌, ◌⊎◌, Result, Ok, Err}
use Rattle.bank_policy.specs.Policy.{PolicyLists}
use Rattle.bank_terms.specs.Procedure.{number_of}
use Rattle.policy_check.specs.Separation.{OfficerHolds, BreaksSeparation, Separated}
use Rattle.policy_check.specs.Soundness.{IsPolicySound}
use Rattle.bank_terms.specs.declared.procedure.Procedure.{Procedure}
use Rattle.policy_check.specs.declared.policy_fault.PolicyFault.{PolicyFault}
use Rattle.policy_check.specs.declared.policy_fault.PolicyFault.TheVariants.{Dangling, Separation, OfficerHolds as OfficerFault}

-- the least of the officers who hold something
abbrev pub IsLeastOfficer : PolicyLists → ℕ → Type 0
IsLeastOfficer policy user = OfficerHolds policy user × ((other : ℕ) → other < user → ¬ OfficerHolds policy other)

-- the order of users, and of one user's procedures by number
abbrev pub IsBefore : ℕ → Procedure → ℕ → Procedure → Type 0
IsBefore user procedure other_user other = (user < other_user) ⊎ ((user ≡ other_user) × (number_of procedure < number_of other))

-- the least user who breaks separation, with the least of the procedures at which they do
abbrev pub IsLeastBreak : PolicyLists → ℕ → Procedure → Type 0
IsLeastBreak policy user procedure =
    BreaksSeparation policy user procedure
    × ((other_user : ℕ) (other : Procedure) → IsBefore other_user other user procedure → ¬ BreaksSeparation policy other_user other)

abbrev pub IsPolicyVerdict : PolicyLists → Result (Unit {0}) PolicyFault → Type 0
IsPolicyVerdict policy (Ok _) = IsPolicySound policy × Separated policy
IsPolicyVerdict policy (Err Dangling) = ¬ IsPolicySound policy
IsPolicyVerdict policy (Err (OfficerFault user)) = IsPolicySound policy × IsLeastOfficer policy user
IsPolicyVerdict policy (Err (Separation user procedure)) =
    IsPolicySound policy × ((officer : ℕ) → ¬ OfficerHolds policy officer) × IsLeastBreak policy user procedure
