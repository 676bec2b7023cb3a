-- The reply to a drawer that is put on is the compact text of its JSON value.
use Rattle.std.proofs.Common.{◌≡◌, append_assoc}
use Rattle.serde_json.specs.Written.{compact_text}
use Rattle.serde_json.proofs.OnLiterals.{serde_json_on_literals}
use Rattle.drawers.specs.declared.drawer_on.PutOn.{PutOn}
use Rattle.bank_meaning.specs.DrawerOn.{put_on_data, put_on_text}
use Rattle.op_prepare.proofs.WholeNumbers.{text_of_whole}

pub put_on_text_is : (v : PutOn) → compact_text (put_on_data v) ≡ put_on_text v
unfolding serde_json_on_literals put_on_text
put_on_text_is v = simp (text_of_whole, append_assoc)
