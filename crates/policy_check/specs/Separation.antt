-- Separation of duty: rule E4 of Clark and Wilson's model, that who certifies a procedure does not execute it.
use Rattle.std.specs.Prelude.{ℕ, ◌≡◌, ◌⊎◌, Any, IsTrue}
use Rattle.bank_policy.specs.Policy.{PolicyLists}
use Rattle.bank_terms.specs.declared.procedure.Procedure.{Procedure}

-- the user may certify the procedure
abbrev pub IsCertifier : PolicyLists → ℕ → Procedure → Type 0
IsCertifier policy user procedure = Any (λ row. (row.user ≡ user) × (row.procedure ≡ procedure)) policy.certifiers

-- the user certified a relation of the procedure, though they may have been dismissed since
abbrev pub HasCertified : PolicyLists → ℕ → Procedure → Type 0
HasCertified policy user procedure = Any (λ row. (row.by ≡ user) × (row.procedure ≡ procedure)) policy.relations

abbrev pub Certifies : PolicyLists → ℕ → Procedure → Type 0
Certifies policy user procedure = IsCertifier policy user procedure ⊎ HasCertified policy user procedure

-- the user has a triple for the procedure, with any set
abbrev pub MayExecute : PolicyLists → ℕ → Procedure → Type 0
MayExecute policy user procedure = Any (λ row. (row.user ≡ user) × (row.procedure ≡ procedure)) policy.triples

abbrev pub BreaksSeparation : PolicyLists → ℕ → Procedure → Type 0
BreaksSeparation policy user procedure = Certifies policy user procedure × MayExecute policy user procedure

-- the user has a triple, is a certifier, or certified a relation
abbrev pub Holds : PolicyLists → ℕ → Type 0
Holds policy user =
    Any (λ row. row.user ≡ user) policy.triples ⊎ Any (λ row. row.user ≡ user) policy.certifiers ⊎ Any (λ row. row.by ≡ user) policy.relations

abbrev pub IsOfficer : PolicyLists → ℕ → Type 0
IsOfficer policy user = Any (λ row. (row.user ≡ user) × IsTrue row.officer) policy.users

-- the user is an officer, and holds something all the same
abbrev pub OfficerHolds : PolicyLists → ℕ → Type 0
OfficerHolds policy user = IsOfficer policy user × Holds policy user

-- an officer executes and certifies nothing, and no one executes what they certify
pub record Separated (policy : PolicyLists) : Type 0 where
  pub officers : (user : ℕ) → ¬ OfficerHolds policy user
  pub others : (user : ℕ) (procedure : Procedure) → ¬ BreaksSeparation policy user procedure
