use Rattle.std.proofs.Common.{◌≡◌, ◌==◌, Some, None, ap, sym, ◌∙◌}
use Rattle.std.specs.Prelude.{option_map}
use Rattle.std.specs.List.{find}
use Rattle.bank_books.specs.Keys.{branch_key}
use Rattle.bank_books.specs.declared.rows.Branch.{Branch}
use Rattle.book_range.proofs.FoundRows.{found_in}
use Rattle.year_forward.specs.Closed.{present_day}
use Rattle.year_forward.proofs.OpenBranches.{other_than, other_than_none}
use Rattle.year_forward.proofs.open_branches.is_other_day.Goals as goal

pub returns-in-Some : goal.returns-in-Some
returns-in-Some c =
    let w = c.args.world.now in
    let row = c.in-Some.row.now in
    let found = found_in branch_key (λ b. branch_key b == c.from.result) c.branches.result.now w.branches (Some row) c.branches.ensures.value c.in-Some.ensures c.branches.ensures.in_order in
    let today : present_day w c.args.branch ≡ Some row.day =
    ap (option_map (λ (b : Branch). b.day)) (sym (found ∙ ap (λ k. find (λ (b : Branch). b.branch == k) w.branches) c.from.ensures)) in
    other_than (present_day w c.args.branch) row.day c.args.day today

pub returns-in-None : goal.returns-in-None
returns-in-None c =
    let w = c.args.world.now in
    let found = found_in branch_key (λ b. branch_key b == c.from.result) c.branches.result.now w.branches None c.branches.ensures.value c.in-None.ensures c.branches.ensures.in_order in
    let today : present_day w c.args.branch ≡ None =
    ap (option_map (λ (b : Branch). b.day)) (sym (found ∙ ap (λ k. find (λ (b : Branch). b.branch == k) w.branches) c.from.ensures)) in
    other_than_none (present_day w c.args.branch) c.args.day today
