use Rattle.std.proofs.Common.{◌≡◌, pos, ◌<◌, ◌∙◌, length, to_z, of_z, w64, arith, rules}
use Rattle.std.proofs.lemmas.Bool.{false≢true}
use Rattle.std.proofs.lemmas.Int.{ints}
use Rattle.book_sums.specs.declared.shares.Part.{Part}
use Rattle.book_check.proofs.TurnWalk.{sum_more, walk_more}
use Rattle.book_check.proofs.turns.are_balances_after.Goals as goal

abbrev none : Part
none = record { group = 0; number = 0; amount = pos 0 }

pub returns-in-None : goal.returns-in-None
returns-in-None c = (
  λ is. absurd (false≢true is),
  λ all.
      let more = sum_more c.args.deltas.now c.loop-index.index _ _ none c.loop-index-test.true c.loop-index.invariant.before in
      let opening : to_z w64 (of_z w64 c.args.opening) ≡ c.args.opening = search rules in
      c.in-None.ensures.sum.1 (omega (arith, ints, all.amounts c.loop-index.index none c.loop-index-test.true, more, opening)),
)

pub loop-index-preserved : goal.loop-index-preserved
loop-index-preserved c =
    let within : c.loop-index.index < length c.args.balances.now = omega arith in
    let stated = c.in-Some.ensures.sum.0 (search rules) in
    let more = sum_more c.args.deltas.now c.loop-index.index _ _ none c.loop-index-test.true c.loop-index.invariant.before in
    let after : to_z w64 (of_z w64 c.in-Some.after) ≡ c.in-Some.after = search rules in
    record {
      before = after ∙ c.in-Some.ensures.value ∙ stated ∙ more;
      amounts = walk_more c.args.deltas.now c.args.balances.now c.loop-index.index _ _ none c.loop-index-test.true within c.loop-index.invariant.before stated c.loop-index.invariant.amounts;
    }
