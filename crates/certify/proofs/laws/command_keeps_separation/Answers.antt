use Rattle.certify.proofs.SeparatedPolicy as proven
use Rattle.certify.proofs.laws.command_keeps_separation.Goals as goal

pub returns : goal.returns
returns c = proven.command_keeps_separation
