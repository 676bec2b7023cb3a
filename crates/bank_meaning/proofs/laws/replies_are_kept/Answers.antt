use Rattle.bank_meaning.proofs.KeptReplies.{replies_are_kept}
use Rattle.bank_meaning.proofs.laws.replies_are_kept.Goals as goal

pub returns : goal.returns
returns c = replies_are_kept
