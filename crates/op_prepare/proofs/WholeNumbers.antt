-- Whole numbers as values of JSON are no floats, and their text is that of the number.
use Rattle.std.proofs.Common.{◌≡◌, ℤ, pos, negsuc, refl}
use Rattle.std.specs.Fmt.{signed_decimal}
use Rattle.serde_json.specs.Find.{of_integer}
use Rattle.serde_json.specs.Written.{number_text}

pub text_of_whole : (z : ℤ) → number_text (of_integer z) ≡ signed_decimal z
text_of_whole (pos n) = refl
text_of_whole (negsuc n) = refl
