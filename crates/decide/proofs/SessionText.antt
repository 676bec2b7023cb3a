-- The replies to sessions are the compact texts of their JSON values.
use Rattle.std.proofs.Common.{◌≡◌, ℕ, append_assoc}
use Rattle.serde_json.specs.Written.{compact_text}
use Rattle.serde_json.proofs.OnLiterals.{serde_json_on_literals}
use Rattle.bank_meaning.specs.Sessions.{ending_data, ending_text, opening_data, opening_text}

pub opening_text_is : (number : ℕ) → compact_text (opening_data number) ≡ opening_text number
unfolding serde_json_on_literals opening_text
opening_text_is number = simp append_assoc

pub ending_text_is : (number : ℕ) → compact_text (ending_data number) ≡ ending_text number
unfolding serde_json_on_literals ending_text
ending_text_is number = simp append_assoc
