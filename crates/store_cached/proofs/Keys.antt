-- Keys that compare equal are one.
use Rattle.std.proofs.Common.{◌≡◌, ℕ, ◌==◌, ◌&&◌, Bool, true, ap, ap₂, sym, ◌∙◌}
use Rattle.std.proofs.lemmas.Bool.{and_parts, eqb-true}
use Rattle.bank_terms.proofs.Procedures.{equal_by_number, one_procedure}
use Rattle.bank_terms.specs.Procedure.{number_of}
use Rattle.store_cached.specs.Fresh.{is_key}
use Rattle.bank_terms.specs.declared.procedure.Procedure.{Procedure}
use Rattle.store_cached.specs.declared.entry.Key.{Key}
use Rattle.store_cached.specs.contracts.entry.KeyPartialEq.TheImpl as key

-- the test by which the cache compares keys
abbrev pub same : Key → Key → Bool
same = key.eq-value.it

abbrev made : ℕ → Procedure → Key
made user procedure = record { user = user; procedure = procedure }

-- the test of the cache is that of the definitions
pub same_is_key : (a b : Key) → same a b ≡ is_key a b
same_is_key a b = ap (λ t. a.user == b.user && t) (equal_by_number a.procedure b.procedure)

pub same_key : (a b : Key) → same a b ≡ true → a ≡ b
same_key a b h =
    let parts = and_parts (a.user == b.user) (number_of a.procedure == number_of b.procedure) (sym (same_is_key a b) ∙ h) in
    ap₂ made (eqb-true _ _ parts.0) (one_procedure a.procedure b.procedure (eqb-true _ _ parts.1))
