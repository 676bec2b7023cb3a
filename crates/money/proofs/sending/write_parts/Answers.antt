use Rattle.std.proofs.Common.{◌≡◌, ℕ, ◌<◌, List, ◌++◌, length, take, drop, get_or, sym, ap, ◌∙◌, suc, Bor}
use Rattle.std.proofs.lemmas.List.{take-append-drop}
use Rattle.std.proofs.lemmas.List.Concat.{flat_map-append}
use Rattle.std.proofs.Math.Seq.{drop-cons}
use Rattle.money.specs.Counted.{joined}
use Rattle.money.proofs.Beginnings.{Sends-after}
use Rattle.money.proofs.sending.write_parts.Goals as goal

joined_at : (parts : List (Bor (List ℕ))) (i : ℕ) (d : Bor (List ℕ)) → i < length parts
    → joined parts ≡ joined (take i parts) ++ ((get_or parts i d).now ++ joined (drop (suc i) parts))
joined_at parts i d within =
    ap joined (sym (take-append-drop i parts)) ∙ flat_map-append (λ (p : Bor (List ℕ)). p.now) (take i parts) (drop i parts)
    ∙ ap (λ l. joined (take i parts) ++ joined l) (drop-cons parts i d within)

pub returns-in-Err : goal.returns-in-Err
returns-in-Err g c =
    Sends-after g.W.Write.contents c.args.writer.now c.loop-part.writer _ _ _ _ _ _ (joined_at c.args.parts.now c.loop-part.part-index _ c.loop-part-test.true) tt c.loop-part.invariant.sent c.loop-part.invariant.kept c.in-Err.ensures
