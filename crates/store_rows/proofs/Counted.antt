-- An answer that was counted says what it said before.
use Rattle.std.proofs.Common.{◌≡◌, Result, Ok, Err, IfOk, subst}

pub still_holds : {A E F : Type 0} (P : A → Type 0) (answer : Result A E) (counted : Result A F) → IfOk counted (λ value. answer ≡ Ok value) → IfOk answer P → IfOk counted P
still_holds P answer (Ok value) same stated = subst (λ r. IfOk r P) same stated
still_holds P answer (Err fault) same stated = tt
