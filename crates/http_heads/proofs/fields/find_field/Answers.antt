use Rattle.std.proofs.Common.{subst}
use Rattle.http_heads.specs.Found.{IsFound}
use Rattle.http_heads.proofs.FieldLemmas.{one_more}
use Rattle.http_heads.proofs.fields.find_field.Goals as goal

pub loop-header-preserved : goal.loop-header-preserved
loop-header-preserved c =
    subst (λ vs. IsFound vs c.add-found.result)
    (one_more _ _ c.args.headers.now c.loop-header.header-index _ _ _ _ c.loop-header-test.true c.eq_ignore_case-is_named.ensures c.of.ensures c.of-in-loop-header.ensures)
    (c.add-found.ensures _ c.loop-header.invariant)
