use Rattle.std.proofs.lemmas.Bool.{ltb-true}
use Rattle.book_sums.proofs.SharesBetween.{above_from}
use Rattle.book_sums.proofs.shares.are_above.Goals as goal

pub returns-else-place-parts : goal.returns-else-place-parts
returns-else-place-parts c is k d from till =
    above_from c.args.parts.now c.args.place c.args.key c.key.result k _ d c.requires.in_order c.key.ensures (ltb-true _ _ is) from till
