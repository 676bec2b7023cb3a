use Rattle.std.proofs.Common.{[], length, refl, ap, ◌∙◌, arith}
use Rattle.std.specs.Prelude.{◌==◌}
use Rattle.std.proofs.lemmas.Bool.Decides.{nat_tests}
use Rattle.http_heads.proofs.LineLemmas.{nil_of_length}
use Rattle.http_heads.proofs.BlankLemmas.{more, fewer, none_left}
use Rattle.http_heads.proofs.blank.are_line_ends.Goals as goal

pub loop-following-preserved : goal.loop-following-preserved
loop-following-preserved c =
    let front = c.in-Some.ensures.some in
    (λ ends. c.loop-following.invariant.0 (more _ _ front.0 front.1 ends), λ ends. fewer _ _ front.0 front.1 (c.loop-following.invariant.1 ends))

pub returns : goal.returns
returns c =
    let rest = c.loop-following.rest.now in (
      λ empty. c.loop-following.invariant.0 ([], nil_of_length rest (grind (arith, nat_tests))),
      λ ends. c.is_empty.ensures ∙ ap (λ l. length l == 0) (none_left rest (c.in_default.ensures.none refl) (c.loop-following.invariant.1 ends)),
    )
