use Rattle.std.proofs.Common.{◌≤◌, ◌∙◌, arith, sym, subst, take, replicate}
use Rattle.std.proofs.lemmas.List.{take-replicate}
use Rattle.std.proofs.lemmas.Result.{err_from_is_err_and}
use Rattle.money.specs.Counted.{Sends}
use Rattle.money.proofs.Beginnings.{Sends-after, spaces_around, spaces_more}
use Rattle.money.proofs.text.write_spaces.Goals as goal

pub returns-in_err-write_whole : goal.returns-in_err-write_whole
returns-in_err-write_whole g c =
    let k = c.min-piece.result in
    let fits : k ≤ c.loop-left.left = omega (arith, c.min-piece.ensures) in
    let few : k ≤ 32 = omega (arith, c.min-piece.ensures) in
    subst (Sends _ _ _ _) (sym (err_from_is_err_and _ c.from_residual.ensures.1).1)
    (Sends-after g.W.Write.contents c.args.writer.now c.loop-left.writer _ _ _ _ _ _
    (spaces_around c.args.count c.loop-left.left k (take k (replicate 32 32)) c.loop-left.invariant.within fits (take-replicate k 32 32 few)) tt c.loop-left.invariant.sent c.loop-left.invariant.kept
    c.in_err-write_whole.ensures)

pub loop-left-preserved : goal.loop-left-preserved
loop-left-preserved g c =
    let k = c.min-piece.result in
    let fits : k ≤ c.loop-left.left = omega (arith, c.min-piece.ensures) in
    let few : k ≤ 32 = omega (arith, c.min-piece.ensures) in
    record {
      within = omega (arith, c.loop-left.invariant.within);
      sent =
          spaces_more _ _ _ c.args.count c.loop-left.left k (take k (replicate 32 32)) c.loop-left.invariant.within fits (take-replicate k 32 32 few) c.loop-left.invariant.sent
          c.in_ok-write_whole.ensures.whole;
      kept = c.in_ok-write_whole.ensures.kept ∙ c.loop-left.invariant.kept;
    }
