-- What the checks of a World make sure of.
use Rattle.std.proofs.Common.{◌≡◌, subst, sym}
use Rattle.std.specs.Prelude.{Err, IfErr, IsErrAnd, Ok, Result}

-- what is said of the fault that is handed on
pub same_fault : {X E : Type 0} (r : Result X E) (e : E) (P : E → Type 0) → IsErrAnd r (λ f. f ≡ e) → P e → IfErr r P
same_fault (Ok x) e P is p = tt
same_fault (Err f) e P is p = subst P (sym is) p
