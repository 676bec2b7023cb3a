-- What has to be there is what was found.
use Rattle.std.specs.Prelude.{◌≡◌, Option, Some, None, Result, Ok, Err, IfOk, IfSome}
use Rattle.std.specs.Option.{option_map_or}
use Rattle.std.proofs.Common.{◌∙◌, ap, refl, subst, sym}
use Rattle.money.specs.declared.fault.Fault.{Fault}
use Rattle.money.specs.declared.fault.Fault.TheVariants.{Disk}

abbrev pub required_of : {X : Type 0} → Option X → Result X Fault
required_of found = option_map_or Ok found (Err Disk)

abbrev there : {X : Type 0} → Result X Fault → Option X
there (Ok it) = Some it
there (Err fault) = None

there_is : {X : Type 0} (found : Option X) → there (required_of found) ≡ found
there_is (Some it) = refl
there_is None = refl

pub was_found : {X : Type 0} (found : Option X) (it : X) → Ok it ≡ required_of found → found ≡ Some it
was_found found it is = sym (there_is found) ∙ sym (ap there is)

-- what is said of it where it is found
pub of_found : {X : Type 0} (found : Option X) (it : X) (P : X → Type 0) → Ok it ≡ required_of found → IfSome found P → P it
of_found {X} found it P is says = subst (λ (o : Option X). IfSome o P) (was_found found it is) says

-- the row that is looked for, where it is found
pub found_row : {X : Type 0} (found looked_for : Option X) (r : Result X Fault) → r ≡ required_of found → found ≡ looked_for → IfOk r (λ row. looked_for ≡ Some row)
found_row found looked_for (Ok row) is same = sym same ∙ was_found found row is
found_row found looked_for (Err fault) is same = tt
