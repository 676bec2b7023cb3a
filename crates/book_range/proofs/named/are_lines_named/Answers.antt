use Rattle.book_range.specs.Named.{IsNamed}
use Rattle.book_range.specs.declared.named.Named.TheVariants as named
use Rattle.book_range.proofs.NamedParts.{test_of_rows}
use Rattle.book_range.proofs.named.are_lines_named.Goals as goal
use Rattle.book_sums.specs.Sums.{place_part}

pub returns : goal.returns
returns c =
    let w = c.args.world.now in
    let each = test_of_rows (IsNamed w named.Place) place_part w.lines c.args.sums.now.by_place c.are_named.result c.requires.sums.by_place c.are_named.ensures in
    (λ is l there. record { branch = (each.0 is l there).0; place = (each.0 is l there).1 }, λ all. each.1 (λ l there. ((all l there).branch, (all l there).place)))
