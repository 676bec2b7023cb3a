-- The reply to a transfer is the compact text of its JSON value.
use Rattle.std.proofs.Common.{◌≡◌, append_assoc}
use Rattle.serde_json.specs.Written.{compact_text}
use Rattle.serde_json.proofs.OnLiterals.{serde_json_on_literals}
use Rattle.postings.specs.declared.transfer.Transferred.{Transferred}
use Rattle.bank_meaning.specs.Transfer.{transferred_data, transferred_text}
use Rattle.op_prepare.proofs.WholeNumbers.{text_of_whole}

pub transferred_text_is : (v : Transferred) → compact_text (transferred_data v) ≡ transferred_text v
unfolding serde_json_on_literals transferred_text
transferred_text_is v = simp (text_of_whole, append_assoc)
