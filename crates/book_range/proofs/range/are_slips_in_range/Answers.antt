use Rattle.std.proofs.Common.{IsTrue, map, subst, sym}
use Rattle.std.specs.List.Sorted.{IsNonDecreasingBy}
use Rattle.keyed_rows.specs.Ordered.{AreDistinct}
use Rattle.bank_books.specs.Keys.{slip_key}
use Rattle.bank_books.specs.Range.{IsSlipInRange}
use Rattle.book_range.proofs.Judged.{not_passed, then_tested, stated}
use Rattle.book_range.proofs.range.are_slips_in_range.Goals as goal

pub returns-then-has_distinct_keys : goal.returns-then-has_distinct_keys
returns-then-has_distinct_keys c =
    let w = c.args.world.now in
    let same = c.slips-slips.ensures.value in
    let keys =
    subst (λ rows. (IsTrue c.has_distinct_keys.result → AreDistinct (map slip_key rows)) × (AreDistinct (map slip_key rows) → IsTrue c.has_distinct_keys.result)) same
    (c.has_distinct_keys.ensures (subst (IsNonDecreasingBy slip_key) (sym same) c.slips-slips.ensures.in_order)) in
    then_tested c.if-has_distinct_keys.true keys
    (stated (IsSlipInRange w.slips w.policy.users) c.slips-slips.result.now w.slips c.is_each_slip_in_range.result same c.is_each_slip_in_range.ensures) (λ first second. record { keys = first; each = second })
    (λ all. all.each)
