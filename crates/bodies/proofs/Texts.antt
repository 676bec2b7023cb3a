-- That a text of JSON has bytes, and a fact beside an error.
use Rattle.std.proofs.Common.{◌≡◌, ℕ, ◌<◌, List, [], ◌∷◌, length, Some, Result, Ok, Err, IfErr, arith, rules}
use Rattle.serde_json.specs.Data.{Data}
use Rattle.serde_json.specs.Read.{read}
use Rattle.serde_json.proofs.OnLiterals.{serde_json_on_literals}

pub some_bytes : (bytes : List ℕ) (value : Data) → read bytes ≡ Some value → 0 < length bytes
unfolding serde_json_on_literals
some_bytes [] value is_read = search rules
some_bytes (byte ∷ bytes) value is_read = omega arith

pub IfErr-from_fact : {T E : Type 0} (result : Result T E) (P : Type 0) → P → IfErr result (λ _. P)
IfErr-from_fact (Ok _) P holds = tt
IfErr-from_fact (Err _) P holds = holds
