-- The rules that something is judged by, as one table: each with whether it denies, in their order.
use Rattle.std.specs.Prelude.{◌==◌, Bool, false, List, [], ◌∷◌, Option, Some, None, if◌then◌else◌}
use Rattle.bank_terms.specs.Rule.{number_of}
use Rattle.bank_terms.specs.declared.rule.Rule.{Rule}

-- the first rule that denies, or none
abbrev pub first_denial : List (Rule × Bool) → Option Rule
first_denial [] = None
first_denial ((rule, denies) ∷ rest) = if denies then Some rule else first_denial rest

-- this rule denies; one that is not in the table does not
abbrev pub is_denial : Rule → List (Rule × Bool) → Bool
is_denial rule [] = false
is_denial rule ((other, denies) ∷ rest) = if number_of other == number_of rule then denies else is_denial rule rest
