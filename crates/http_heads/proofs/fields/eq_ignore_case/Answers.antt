use Rattle.std.proofs.Common.{◌≡◌, Bool, true, false, IsTrue, refl, sym}
use Rattle.std.specs.Prelude.{◌↔◌}
use Rattle.std.specs.Bool.{Decides}
use Rattle.std.proofs.lemmas.Slice.Eq.{bytes_eq-Decides}
use Rattle.http_heads.specs.Fields.{eq_ignore_case}
use Rattle.http_heads.proofs.fields.eq_ignore_case.Goals as goal

same_bool : (P : Type 0) (r s : Bool) → (IsTrue r ↔ P) → Decides s P → r ≡ s
same_bool P true true h d = refl
same_bool P true false h d = sym (d.1 (h.0 refl))
same_bool P false true h d = h.1 (d.0 refl)
same_bool P false false h d = refl

pub returns : goal.returns
unfolding eq_ignore_case
returns c = same_bool _ _ _ c.eq_ignore_ascii_case.ensures.test (bytes_eq-Decides _ _)
