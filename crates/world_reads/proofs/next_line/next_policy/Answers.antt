use Rattle.std.proofs.Common.{List, Option, Some, ap, ◌∙◌}
use Rattle.std.specs.List.{find}
use Rattle.bank_policy.specs.declared.rows.User.{User}
use Rattle.world_reads.specs.PolicyListing.{is_after, is_row_after, lines_after_users}
use Rattle.world_reads.specs.declared.policy_row.PolicyKey.TheVariants as key
use Rattle.world_reads.specs.declared.policy_row.PolicyRow.TheVariants as row
use Rattle.world_reads.proofs.Found.{found-following, found-front, found-made}
use Rattle.world_reads.proofs.next_line.next_policy.Goals as goal

pub returns-in_ok-copied_user-in-Some : goal.returns-in_ok-copied_user-in-Some
returns-in_ok-copied_user-in-Some c =
    let p = is_row_after c.args.after in
    let first : List User → Option User = λ users. find (λ user. is_after c.args.after (key.User user.user)) users in
    ap (λ user. Some (row.User user)) c.in_ok-copied_user-in-Some.ensures
    ∙ found-front p _ _ _ (found-made p row.User _ _
    (c.in-Some.ensures ∙ ap first (c.users.ensures.value ∙ ap (λ policy. policy.users) c.policy-policy.ensures)))

pub returns-in-None : goal.returns-in-None
returns-in-None c =
    let p = is_row_after c.args.after in
    let first : List User → Option User = λ users. find (λ user. is_after c.args.after (key.User user.user)) users in
    found-following p _ _ _
    (found-made p row.User _ _ (c.in-None.ensures ∙ ap first (c.users.ensures.value ∙ ap (λ policy. policy.users) c.policy-policy.ensures)))
    (c.line_after.ensures ∙ ap (λ policy. find p (lines_after_users policy)) c.policy-policy.ensures)
