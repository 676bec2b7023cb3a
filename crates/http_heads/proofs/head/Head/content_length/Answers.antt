use Rattle.std.proofs.Common.{◌≡◌, ℕ, ◌+◌, ◌≤◌, min, Bool, true, false, cond, List, [], ◌∷◌, length, Option, Some, None, refl, sym, ap, ◌∙◌, arith}
use Rattle.std.specs.Prelude.{option_map}
use Rattle.std.specs.Str.Parse.{digits_value}
use Rattle.http_heads.specs.Framing.{content_length, stated_len, is_digits, max_body_len}
use Rattle.http_heads.proofs.head.Head.content_length.Goals as goal

abbrev at_most_too_long : ℕ → ℕ
at_most_too_long n = min n (max_body_len + 1)

abbrev read : List (List ℕ) → Option ℕ
read values = option_map at_most_too_long (stated_len values)

one : (b : Bool) (n : ℕ) → cond b (Some (at_most_too_long n)) None ≡ option_map at_most_too_long (cond b (Some n) None)
one true n = refl
one false n = refl

two : (values : List (List ℕ)) → 2 ≤ length values → None ≡ read values
two [] h = absurd (omega arith)
two (a ∷ []) h = absurd (omega arith)
two (a ∷ b ∷ values) h = refl

pub returns-in-Missing : goal.returns-in-Missing
unfolding content_length
returns-in-Missing c = sym (ap read c.in-Missing.ensures)

pub returns-in-One : goal.returns-in-One
unfolding content_length
returns-in-One c =
    c.parse_length.ensures ∙ one (is_digits c.in-One.value.now) (digits_value 10 c.in-One.value.now) ∙ sym (ap read c.in-One.ensures)

pub returns-in-Several : goal.returns-in-Several
unfolding content_length
returns-in-Several c = two _ c.in-Several.ensures
