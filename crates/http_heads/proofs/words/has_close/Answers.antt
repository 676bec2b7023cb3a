use Rattle.std.proofs.Common.{◌≡◌, true, false, ◌+◌, ◌-◌, ◌||◌, length, take, drop, suc, sym, ap, ◌∙◌, rules, add-one}
use Rattle.std.specs.List.{list_any}
use Rattle.std.proofs.lemmas.List.{take_rest}
use Rattle.httparse.specs.Grammar.{trim_ows}
use Rattle.http_heads.specs.Words.{words}
use Rattle.http_heads.proofs.WordLemmas.{is_close, any_at, any_whole}
use Rattle.http_heads.proofs.words.has_close.Goals as goal

pub returns-then-eq_ignore_case : goal.returns-then-eq_ignore_case
returns-then-eq_ignore_case c =
    let rest = c.loop-comma.rest.now in
    let at = c.in-Some.comma in
    let found : is_close (trim_ows (take at rest)) ≡ true = ap is_close (sym c.trim.ensures) ∙ sym c.if-eq_ignore_case.ensures in
    sym (c.loop-comma.invariant ∙ any_at rest at (search rules) (search rules) (search rules) ∙ ap (λ t. t || list_any is_close (words (drop (suc at) rest))) found)

pub loop-comma-preserved : goal.loop-comma-preserved
loop-comma-preserved c =
    let rest = c.loop-comma.rest.now in
    let at = c.in-Some.comma in
    let other : is_close (trim_ows (take at rest)) ≡ false = ap is_close (sym c.trim.ensures) ∙ sym c.if-eq_ignore_case.ensures in
    let following : drop (suc at) rest ≡ take (length rest - (at + 1)) (drop (at + 1) rest) = simp (take_rest, add-one) in
    c.loop-comma.invariant ∙ any_at rest at (search rules) (search rules) (search rules) ∙ ap (λ t. t || list_any is_close (words (drop (suc at) rest))) other
    ∙ ap (λ l. list_any is_close (words l)) following

pub returns : goal.returns
returns c =
    let rest = c.loop-comma.rest.now in
    c.eq_ignore_case-2.ensures ∙ ap is_close c.trim-2.ensures ∙ sym (any_whole rest (search rules)) ∙ sym c.loop-comma.invariant
