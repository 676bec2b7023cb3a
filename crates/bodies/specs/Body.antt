-- What the bytes of a body state: a value of JSON (RFC 8259), an object's members, and the whole numbers among them.
use Rattle.std.specs.Prelude.{ℕ, ℤ, pos, ◌==◌, ◌&&◌, List, Bool, false, Option, Some, None, option_and_then, option_map, unwrap_or, unsigned_abs, if◌then◌else◌, int_le}
use Rattle.money.specs.Range.{max_delta, min_delta}
use Rattle.bank_terms.specs.Limits.{max_key}
use Rattle.std.specs.Str.{is_utf8}
use Rattle.serde_json.specs.Data.{Data}
use Rattle.serde_json.specs.Events.{members_len}
use Rattle.serde_json.specs.Find.{get, as_object, as_number, as_i64}
use Rattle.serde_json.specs.Read.{read}

-- the next step of a reading, where the last one found a value
infixl 10 ◌>>=◌
abbrev pub ◌>>=◌ : {A B : Type 0} → Option A → (A → Option B) → Option B
o >>= next = option_and_then next o

-- The value that the bytes are, as serde_json reads it. A text of JSON is in UTF-8 (RFC 8259, section 8.1), so
-- other bytes are none.
abbrev pub value_of : List ℕ → Option Data
value_of bytes = if is_utf8 bytes then read bytes else None

-- An object (RFC 8259, section 4) with this many names. Where a text has a name twice, its last value stays: so an
-- object with as many names as a form has, and each of the form's names among them, has those names and no others.
abbrev pub has_members : ℕ → Data → Bool
has_members count value = unwrap_or (option_map (λ members. members_len members == count) (as_object value)) false

-- the number, where it lies from low to high
abbrev pub within : ℤ → ℤ → ℤ → Option ℤ
within low high z = if int_le low z && int_le z high then Some z else None

-- The whole number from low to high that the member of this name is. A number is whole where it is written with no
-- fraction and no exponent, and is not `-0` (RFC 8259, section 6): those are serde_json's floats, which are no `i64`.
abbrev pub number_member : List ℕ → ℤ → ℤ → Data → Option ℤ
number_member name low high value = option_and_then (within low high) (option_and_then as_i64 (option_and_then as_number (get name value)))

-- the same, where no number below zero is meant
abbrev pub natural_member : List ℕ → ℕ → ℕ → Data → Option ℕ
natural_member name low high value = option_map unsigned_abs (number_member name (pos low) (pos high) value)

-- a key: of an account, a teller, a branch, an entry or a turn
abbrev pub key_member : List ℕ → Data → Option ℕ
key_member name value = natural_member name 1 max_key value

-- what one entry adds, as the benchmark's Delta
abbrev pub delta_member : List ℕ → Data → Option ℤ
delta_member name value = number_member name min_delta max_delta value
