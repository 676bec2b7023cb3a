-- The numbers that fields state in decimal.
use Rattle.std.specs.Prelude.{ℕ, ℤ, pos, neg_ℤ, ◌==◌, Bool, ◌&&◌, ◌||◌, nat_le, if◌then◌else◌, List, codes, drop, slice_index, Option, Some, None, option_and_then, option_map}
use Rattle.std.specs.Int.{is_in_range}
use Rattle.std.specs.Str.{all_ascii_digits, bytes_eq}
use Rattle.std.specs.Str.Parse.{digits_value}

-- digits of which the first is 1 to 9 (49 to 57); or 0 alone
unfoldable pub is_number : List ℕ → Bool
is_number text = (is_in_range 49 57 (slice_index text 0) && all_ascii_digits text) || bytes_eq text (codes "0")

-- the number, where it is this one at most
abbrev pub number_up_to : ℕ → List ℕ → Option ℕ
number_up_to most text = if is_number text && nat_le (digits_value 10 text) most then Some (digits_value 10 text) else None

-- the number, where it lies from low to high
abbrev pub number_in : ℕ → ℕ → List ℕ → Option ℕ
number_in low high text = option_and_then (λ n. if nat_le low n then Some n else None) (number_up_to high text)

-- the greatest amount in cents; the least is as far below 0
abbrev most_cents : ℕ
most_cents = 999999999999

-- the number below 0 that is as far from it; 0 has no minus
abbrev pub below_zero : ℕ → Option ℤ
below_zero n = if n == 0 then None else Some (neg_ℤ (pos n))

-- an amount of cents: a number, with a minus (45) before it where it is below 0
abbrev pub amount_of : List ℕ → Option ℤ
amount_of text =
    if slice_index text 0 == 45 then option_and_then below_zero (number_up_to most_cents (drop 1 text)) else option_map pos (number_up_to most_cents text)
