use Rattle.std.proofs.Common.{sym, ◌∙◌}
use Rattle.world_reads.specs.PolicyListing.{is_row_after}
use Rattle.world_reads.proofs.Found.{found-following, found-front}
use Rattle.world_reads.proofs.next_line.line_after.Goals as goal

pub returns-in-Some : goal.returns-in-Some
returns-in-Some c = found-front (is_row_after c.args.after) _ _ _ c.in-Some.ensures

pub returns-in-Some-member_line_after : goal.returns-in-Some-member_line_after
returns-in-Some-member_line_after c =
    let p = is_row_after c.args.after in
    found-following p _ _ _ (sym c.in_default.is ∙ c.certifier_after.ensures) (found-front p _ _ _ c.in-Some-member_line_after.ensures)

pub returns-in-Some-relation_after : goal.returns-in-Some-relation_after
returns-in-Some-relation_after c =
    let p = is_row_after c.args.after in
    found-following p _ _ _ (sym c.in_default.is ∙ c.certifier_after.ensures)
    (found-following p _ _ _ (sym c.in_default-member_line_after.is ∙ c.member_line_after.ensures)
    (found-front p _ _ _ c.in-Some-relation_after.ensures))

pub returns : goal.returns
returns c =
    let p = is_row_after c.args.after in
    found-following p _ _ _ (sym c.in_default.is ∙ c.certifier_after.ensures)
    (found-following p _ _ _ (sym c.in_default-member_line_after.is ∙ c.member_line_after.ensures)
    (found-following p _ _ _ (sym c.in_default-relation_after.is ∙ c.relation_after.ensures) c.triple_after.ensures))
