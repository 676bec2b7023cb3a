use Rattle.std.proofs.Common.{◌≡◌, ◌+ℤ◌, pos, ap, ◌∙◌, of_z, rules, to_z}
use Rattle.std.specs.Prelude.{if◌then◌else◌}
use Rattle.std.specs.Int.{w128}
use Rattle.book_kept.proofs.lines.branch_moved.Goals as goal

pub returns-then-moved-number-clause-moved : goal.returns-then-moved-number-clause-moved
returns-then-moved-number-clause-moved c =
    let b = c.args.branch.now in
    let amount = c.args.line.now.amount in
    let vault_back : to_z w128 (of_z w128 c.in_ok-moved.field-0) ≡ c.in_ok-moved.field-0 = search rules in
    let drawers_back : to_z w128 (of_z w128 c.in_ok-moved-2.field-0) ≡ c.in_ok-moved-2.field-0 = search rules in
    let entries_back : to_z w128 (of_z w128 c.in_ok-moved-3.field-0) ≡ c.in_ok-moved-3.field-0 = search rules in
    let counts_back : to_z w128 (of_z w128 c.in_ok-moved-4.field-0) ≡ c.in_ok-moved-4.field-0 = search rules in
    let vault = vault_back ∙ c.in_ok-moved.ensures.value in
    let drawers = drawers_back ∙ c.in_ok-moved-2.ensures.value in
    let entries = entries_back ∙ c.in_ok-moved-3.ensures.value ∙ ap (λ t. b.cash_entries +ℤ (if t then amount else pos 0)) c.is_cash_entry.ensures in
    let counts = counts_back ∙ c.in_ok-moved-4.ensures.value ∙ ap (λ t. b.differences +ℤ (if t then amount else pos 0)) c.is_difference.ensures in
    let lines = c.in_ok-moved-5.ensures.1 in
    λ i. record b { vault = vault i; drawers = drawers i; cash_entries = entries i; differences = counts i; lines = lines i }
