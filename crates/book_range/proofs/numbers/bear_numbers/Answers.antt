use Rattle.std.proofs.Common.{rules, length, ◌≤◌}
use Rattle.std.proofs.lemmas.Iterator.{YieldsList-from_slice, cases_from_all}
use Rattle.book_range.proofs.Judged.{judged}
use Rattle.book_range.proofs.numbers.bear_numbers.Goals as goal

pub returns : goal.returns
returns g c =
    let rows = c.args.rows.now in
    let P : g.row.T.Denot → Type 0 = λ row. (1 ≤ g.T.Numbered.number row) × (g.T.Numbered.number row ≤ length rows) in
    judged P rows c.all.result (cases_from_all _ _ c.all.result P (λ x. P x → ⊥) c.all.ensures.ran (YieldsList-from_slice rows cc) (λ x q k. search rules) (λ x q k. search rules))
