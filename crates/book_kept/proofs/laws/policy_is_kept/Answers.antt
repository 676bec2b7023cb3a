use Rattle.book_kept.proofs.PolicyKept as proven
use Rattle.book_kept.proofs.laws.policy_is_kept.Goals as goal

pub returns : goal.returns
returns c = proven.policy_is_kept
