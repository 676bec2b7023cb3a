use Rattle.book_range.specs.Named.{IsNamed}
use Rattle.book_range.specs.declared.named.Named.TheVariants as named
use Rattle.book_range.proofs.Judged.{not_passed, then_tested}
use Rattle.book_range.proofs.NamedParts.{test_of_rows}
use Rattle.book_range.proofs.named.are_entries_named.Goals as goal
use Rattle.book_sums.specs.Sums.{teller_part, turn_part}

pub returns-then-are_named : goal.returns-then-are_named
returns-then-are_named c =
    let w = c.args.world.now in
    then_tested c.if-are_named.true
    (test_of_rows (IsNamed w named.Account) turn_part w.entries c.args.sums.now.by_turn c.are_named.result c.requires.sums.by_turn c.are_named.ensures)
    (test_of_rows (IsNamed w named.Teller) teller_part w.entries c.args.sums.now.by_teller c.are_named-then-are_named.result c.requires.sums.by_teller c.are_named-then-are_named.ensures)
    (λ accounts tellers e there. record { branch = (tellers e there).0; account = accounts e there; teller = (tellers e there).1 })
    (λ all e there. ((all e there).branch, (all e there).teller))

pub returns-else-are_named : goal.returns-else-are_named
returns-else-are_named c =
    let w = c.args.world.now in
    not_passed c.if-are_named.false
    (test_of_rows (IsNamed w named.Account) turn_part w.entries c.args.sums.now.by_turn c.are_named.result c.requires.sums.by_turn c.are_named.ensures)
    (λ all e there. (all e there).account)
