-- The reply to a move of cash is the compact text of its JSON value.
use Rattle.std.proofs.Common.{◌≡◌, append_assoc}
use Rattle.serde_json.specs.Written.{compact_text}
use Rattle.serde_json.proofs.OnLiterals.{serde_json_on_literals}
use Rattle.drawers.specs.declared.move_cash.Moved.{Moved}
use Rattle.bank_meaning.specs.MoveCash.{moved_data, moved_text}
use Rattle.op_prepare.proofs.WholeNumbers.{text_of_whole}

pub moved_text_is : (v : Moved) → compact_text (moved_data v) ≡ moved_text v
unfolding serde_json_on_literals moved_text
moved_text_is v = simp (text_of_whole, append_assoc)
