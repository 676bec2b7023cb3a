use Rattle.std.proofs.Common.{rules}
use Rattle.bank_books.specs.Range.{AreOfRows, HasDistinctKeys}
use Rattle.book_range.proofs.RangeJoined.{parts_of_range, range_from_parts}
use Rattle.book_range.proofs.range.is_in_range.Goals as goal

pub returns-then-has_distinct_world_keys : goal.returns-then-has_distinct_world_keys
returns-then-has_distinct_world_keys c =
    let w = c.args.world.now in
    let kept = c.args.kept.now in
    let rows : AreOfRows w kept = search rules in
    let keys : HasDistinctKeys w = search rules in
    (λ is. range_from_parts w kept rows keys (c.are_all_in_range.ensures.0 is), λ all. c.are_all_in_range.ensures.1 (parts_of_range w kept all))
