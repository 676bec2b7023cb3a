use Rattle.std.proofs.Common.{length}
use Rattle.http_heads.proofs.BlankLemmas.{IsBlank}
use Rattle.http_heads.proofs.blank.are_line_ends.Given as goal

abbrev pub invariant-loop-following : goal.invariant-loop-following
invariant-loop-following l = (IsBlank l.rest → IsBlank l.fn.bytes) × (IsBlank l.fn.bytes → IsBlank l.rest)

abbrev pub decreases-loop-following : goal.decreases-loop-following
decreases-loop-following l = length l.rest
