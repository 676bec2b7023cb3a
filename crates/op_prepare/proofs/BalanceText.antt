-- The reply to the question for a balance is the compact text of its JSON value.
use Rattle.std.proofs.Common.{◌≡◌, ℤ, append_assoc}
use Rattle.serde_json.specs.Written.{compact_text}
use Rattle.serde_json.proofs.OnLiterals.{serde_json_on_literals}
use Rattle.bank_meaning.specs.Balance.{balance_data, balance_text}
use Rattle.op_prepare.proofs.WholeNumbers.{text_of_whole}

pub balance_text_is : (z : ℤ) → compact_text (balance_data z) ≡ balance_text z
unfolding serde_json_on_literals balance_text
balance_text_is z = simp (text_of_whole, append_assoc)
