use Rattle.std.proofs.Common.{◌≡◌, ◌+◌, min, true, take}
use Rattle.std.specs.List.{list_all}
use Rattle.std.specs.Char.{is_ascii_digit}
use Rattle.std.specs.Str.Parse.{digits_value}
use Rattle.http_heads.specs.Framing.{max_body_len}
use Rattle.http_heads.proofs.length.parse_length.Given as goal

abbrev pub invariant-loop-digit : goal.invariant-loop-digit
invariant-loop-digit l =
    (l.len ≡ min (digits_value 10 (take l.digit-index l.value)) (max_body_len + 1))
    × (list_all is_ascii_digit (take l.digit-index l.value) ≡ true)
