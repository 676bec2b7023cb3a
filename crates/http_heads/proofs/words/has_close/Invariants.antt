use Rattle.std.proofs.Common.{◌≡◌, length}
use Rattle.std.specs.Prelude.{codes}
use Rattle.std.specs.List.{list_any}
use Rattle.http_heads.specs.Fields.{eq_ignore_case}
use Rattle.http_heads.specs.Words.{words}
use Rattle.http_heads.proofs.words.has_close.Given as goal

abbrev pub invariant-loop-comma : goal.invariant-loop-comma
invariant-loop-comma l =
    list_any (λ word. eq_ignore_case word (codes "close")) (words l.fn.value) ≡ list_any (λ word. eq_ignore_case word (codes "close")) (words l.rest)

abbrev pub decreases-loop-comma : goal.decreases-loop-comma
decreases-loop-comma l = length l.rest
