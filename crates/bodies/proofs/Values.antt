-- The value of bytes that were read, and of bytes that were refused.
use Rattle.std.proofs.Common.{◌≡◌, ℕ, List, true, false, Some, None, cond, IsUtf8, ap, ◌∙◌, refl}
use Rattle.std.specs.Str.{is_utf8}
use Rattle.std.proofs.lemmas.Str.{IsUtf8-from_is_utf8, is_utf8-from_IsUtf8}
use Rattle.serde_json.specs.Data.{Data}
use Rattle.serde_json.specs.Read.{read}
use Rattle.bodies.specs.Body.{value_of}

pub value_of-read : (bytes : List ℕ) (value : Data) → IsUtf8 bytes × (read bytes ≡ Some value) → value_of bytes ≡ Some value
value_of-read bytes value is_read = ap (λ b. cond b (read bytes) None) (is_utf8-from_IsUtf8 bytes is_read.0) ∙ is_read.1

pub value_of-refused : (bytes : List ℕ) → (IsUtf8 bytes → read bytes ≡ None) → value_of bytes ≡ None
value_of-refused bytes unread =
    elim (is_utf8 bytes) as (λ b. is_utf8 bytes ≡ b → cond b (read bytes) None ≡ None)
    [ true ↦ λ is_text. unread (IsUtf8-from_is_utf8 bytes is_text) | false ↦ λ _. refl ] refl
