-- The reply to the closing of a day is the compact text of its JSON value.
use Rattle.std.proofs.Common.{◌≡◌, append_assoc}
use Rattle.serde_json.specs.Written.{compact_text}
use Rattle.serde_json.proofs.OnLiterals.{serde_json_on_literals}
use Rattle.drawers.specs.declared.close_day.Closed.{Closed}
use Rattle.bank_meaning.specs.CloseDay.{closed_data, closed_text}
use Rattle.op_prepare.proofs.WholeNumbers.{text_of_whole}

pub closed_text_is : (v : Closed) → compact_text (closed_data v) ≡ closed_text v
unfolding serde_json_on_literals closed_text
closed_text_is v = simp (text_of_whole, append_assoc)
