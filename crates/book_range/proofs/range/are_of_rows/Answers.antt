use Rattle.std.proofs.Common.{◌≡◌, ◌↔◌, IsTrue, rules}
use Rattle.std.proofs.lemmas.Slice.Eq.{slice_eq-Decides}
use Rattle.book_range.proofs.SameCounts.{counts_decide}
use Rattle.book_range.proofs.range.are_of_rows.Goals as goal

pub returns-then-stand_beside-4 : goal.returns-then-stand_beside-4
returns-then-stand_beside-4 c =
    let users : IsTrue c.eq.result ↔ (c.users.result.now ≡ c.as_slice.result.now) = slice_eq-Decides counts_decide _ _ _ c.eq.ensures in
    search (rules, users)
