-- Where a rule denies, a fault is one that the store counted.
use Rattle.std.proofs.Common.{◌≡◌, ℕ, Option, None, Some, Result, Ok, Err, ap, refl, subst, ◌∙◌, arith}
use Rattle.std.specs.Prelude.{IfSome, IsSome, OnErr}
use Rattle.money.specs.Counted.{counted_once_more}
use Rattle.money.specs.declared.fault.Fault.{Fault}
use Rattle.bank_terms.specs.declared.rule.Rule.{Rule}
use Rattle.store_rows.specs.Status.{RoseBy}

rose_by_one : (a b : ℕ) → b ≡ counted_once_more a → RoseBy 1 a b
rose_by_one a b more = grind arith

-- a read counted its fault
pub read_counted : {A : Type 0} (a b : ℕ) (result : Result A Fault) → b ≡ counted_once_more a → OnErr result (RoseBy 1 a b)
read_counted a b (Ok x) more = tt
read_counted a b (Err fault) more = rose_by_one a b more

-- after a read that answered
pub counted_after : {A : Type 0} (a b c : ℕ) (result : Result A Fault) → b ≡ a → c ≡ counted_once_more b → OnErr result (RoseBy 1 a c)
counted_after a b c result kept more = read_counted a c result (more ∙ ap counted_once_more kept)

-- the same, of a call that counts its fault where a rule denies
pub counted_from : {A : Type 0} (a b c : ℕ) (result : Result A Fault) → b ≡ a → OnErr result (RoseBy 1 b c) → OnErr result (RoseBy 1 a c)
counted_from a b c result kept counted = subst (λ n. OnErr result (RoseBy 1 n c)) kept counted

-- no rule denies
pub none_denies : {R A : Type 0} (said : Option R) → said ≡ None → IsSome said → A
none_denies None is some = absurd (cc)
none_denies (Some rule) is some = absurd (cc)

-- a call that answers each denial with its rule reports a fault only where no rule denies
pub not_denied : {A : Type 0} (said : Option Rule) (result : Result (Result A Rule) Fault) (fault : Fault) → result ≡ Err fault → IfSome said (λ rule. result ≡ Ok (Err rule)) → said ≡ None
not_denied None result fault is stated = refl
not_denied (Some rule) result fault is stated = cc

-- nor of rows of a World, where none denies these rows
pub rows_allow : {R A : Type 0} (first_against : R → Option Rule) (rows of_world : R) → rows ≡ of_world → first_against rows ≡ None → IsSome (first_against of_world) → A
rows_allow first_against rows of_world is none some = none_denies (first_against of_world) (subst (λ r. first_against r ≡ None) is none) some
