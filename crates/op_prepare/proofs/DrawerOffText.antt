-- The reply to a drawer that is put off is the compact text of its JSON value.
use Rattle.std.proofs.Common.{◌≡◌, append_assoc}
use Rattle.serde_json.specs.Written.{compact_text}
use Rattle.serde_json.proofs.OnLiterals.{serde_json_on_literals}
use Rattle.drawers.specs.declared.drawer_off.PutOff.{PutOff}
use Rattle.bank_meaning.specs.DrawerOff.{put_off_data, put_off_text}
use Rattle.op_prepare.proofs.WholeNumbers.{text_of_whole}

pub put_off_text_is : (v : PutOff) → compact_text (put_off_data v) ≡ put_off_text v
unfolding serde_json_on_literals put_off_text
put_off_text_is v = simp (text_of_whole, append_assoc)
