use Rattle.book_range.specs.RangeParts.{IsLineLimited}
use Rattle.book_range.proofs.Judged.{not_passed, then_tested, stated}
use Rattle.book_range.proofs.RangeJoined.{line_joined}
use Rattle.book_range.proofs.range.are_lines_in_range.Goals as goal

pub returns-then-are_lines_named : goal.returns-then-are_lines_named
returns-then-are_lines_named c =
    let w = c.args.world.now in
    then_tested c.if-are_lines_named.true c.are_lines_named.ensures
    (stated (IsLineLimited w.policy.users) c.lines.result.now w.lines c.are_within_limits.result c.lines.ensures.value c.are_within_limits.ensures)
    (λ named limited l there. line_joined w l (named l there) (limited l there))
    (λ all l there. record { number = (all l there).number; moment = (all l there).moment; day = (all l there).day; user = (all l there).user })

pub returns-else-are_lines_named : goal.returns-else-are_lines_named
returns-else-are_lines_named c =
    not_passed c.if-are_lines_named.false c.are_lines_named.ensures (λ all l there. record { branch = (all l there).branch; place = (all l there).place })
