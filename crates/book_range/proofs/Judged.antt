-- What `all` says of each row, and what a test says that follows another.
use Rattle.std.proofs.Common.{◌≡◌, ℕ, ◌<◌, List, [], ◌∷◌, length, get_or, Bool, true, false, MatchBool, Contains, IsTrue, refl, arith, subst, sym, ◌∙◌}
use Rattle.std.specs.List.{AllWithin, HoldsAt}
use Rattle.std.proofs.lemmas.Bool.{false≢true}
use Rattle.std.proofs.lemmas.List.Elements.{Contains-get_or}

pub judged : {X : Type 0} (P : X → Type 0) (xs : List X) (r : Bool) →
    MatchBool r (AllWithin P xs 0 (length xs)) ((k : ℕ) × (k < length xs) × HoldsAt (λ x. P x → ⊥) xs k) →
    (IsTrue r → (x : X) → Contains xs x → P x) × (((x : X) → Contains xs x → P x) → IsTrue r)
judged P xs true all = (λ _ x there. subst P there.2 (all there.0 x (omega arith) there.1), λ _. refl)
judged P [] false (k, below, fails) = absurd (omega arith)
judged P (x ∷ xs) false (k, below, fails) = (
  λ is. absurd (false≢true is),
  λ each. absurd (fails x (each (get_or (x ∷ xs) k x) (Contains-get_or (x ∷ xs) k x below))),
)

-- the same of rows that equal those that were judged
pub stated : {X : Type 0} (P : X → Type 0) (seen xs : List X) (r : Bool) → seen ≡ xs → (IsTrue r → (x : X) → Contains seen x → P x) × (((x : X) → Contains seen x → P x) → IsTrue r) →
    (IsTrue r → (x : X) → Contains xs x → P x) × (((x : X) → Contains xs x → P x) → IsTrue r)
stated {X} P seen xs r same says =
    let Q : List X → Type 0 = λ ys. (IsTrue r → (x : X) → Contains ys x → P x) × (((x : X) → Contains ys x → P x) → IsTrue r) in
    subst Q same says

-- a test that follows one that was passed
pub then_tested : {a b : Bool} {P Q R : Type 0} → IsTrue a → (IsTrue a → P) × (P → IsTrue a) → (IsTrue b → Q) × (Q → IsTrue b) → (P → Q → R) → (R → Q) → (IsTrue b → R) × (R → IsTrue b)
then_tested is first second joined last = (λ both. joined (first.0 is) (second.0 both), λ holds. second.1 (last holds))

-- a test that was not passed
pub not_passed : {a : Bool} {P R : Type 0} → a ≡ false → (IsTrue a → P) × (P → IsTrue a) → (R → P) → (IsTrue a → R) × (R → IsTrue a)
not_passed fails says part = (λ is. absurd (false≢true (sym fails ∙ is)), λ holds. says.1 (part holds))
