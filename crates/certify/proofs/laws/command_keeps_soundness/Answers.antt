use Rattle.certify.proofs.SoundPolicy as proven
use Rattle.certify.proofs.laws.command_keeps_soundness.Goals as goal

pub returns : goal.returns
returns c = proven.command_keeps_soundness
