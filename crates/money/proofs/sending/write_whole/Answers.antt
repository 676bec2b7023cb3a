use Rattle.std.proofs.Common.{◌≡◌, ◌+◌, ◌-◌, ◌≤◌, length, take, drop, sym, ap, ◌∙◌, subst, arith, inl, length-drop, ◌++◌}
use Rattle.std.proofs.lemmas.List.{take_all}
use Rattle.std.proofs.Math.Seq.{take-add}
use Rattle.std.specs.Io.KnownBytes.{Appends}
use Rattle.std.proofs.KnownBytes.{Appends-trans}
use Rattle.money.proofs.sending.write_whole.Goals as goal

pub loop-done-preserved : goal.loop-done-preserved
loop-done-preserved g c =
    let bytes = c.args.bytes.now in
    let done = c.loop-done.done in
    let n = c.in-Ok.n in
    let rest = take_all (length bytes - done) (drop done bytes) (omega (arith, length-drop done bytes)) in
    let within : n ≤ length (drop done bytes) = rw (sym rest) c.in-Ok.ensures.bound in
    let joined : take (done + n) bytes ≡ take done bytes ++ take n (take (length bytes - done) (drop done bytes)) =
    take-add done n bytes ∙ ap (λ l. take done bytes ++ take n l) (sym rest) in
    let same : c.write.new.self.failures ≡ c.loop-done.writer.failures = c.in-Ok.ensures.ok (inl (omega arith)) in
    record {
      within = omega (arith, length-drop done bytes);
      sent = subst (Appends _ _) (sym joined) (Appends-trans _ _ _ _ _ c.loop-done.invariant.sent c.in-Ok.ensures.bytes);
      kept = same ∙ c.loop-done.invariant.kept;
    }
