use Rattle.std.proofs.Common.{◌≡◌, ℕ, length, arith, subst}
use Rattle.book_check.specs.Least.{HoldsOfBranch, IsFirstFailing}
use Rattle.book_check.proofs.KeptRows.{by_themselves}
use Rattle.year_forward.proofs.open_branches.first_with.Goals as goal

pub returns : goal.returns
returns g c =
    let w = c.args.world.now in
    let rows = c.args.rows.now in
    let all : c.loop-row.row-index ≡ length rows = omega arith in
    let P : ℕ → Type 0 = λ n. IsFirstFailing (HoldsOfBranch (λ row _. g.T.Closable.closed w row) g.T.Closable.branch rows rows n) c.loop-row.least in
    by_themselves (g.T.Closable.closed w) g.T.Closable.branch rows c.loop-row.least (subst P all c.loop-row.invariant)
