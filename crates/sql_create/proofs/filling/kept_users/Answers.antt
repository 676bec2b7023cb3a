use Rattle.std.proofs.Common.{◌∙◌, ◌<◌, ap, length, get_or, subst}
use Rattle.bank_policy.specs.Policy.{PolicyLists}
use Rattle.bank_books.specs.Records.{KeptLists}
use Rattle.sql_create.proofs.UserLemmas.{user_more}
use Rattle.sql_create.proofs.filling.kept_users.Goals as goal

pub loop-row-preserved : goal.loop-row-preserved
loop-row-preserved c =
    let rows_are = c.users-rows.ensures.value ∙ ap (λ (p : PolicyLists). p.users) c.policy.ensures in
    user_more c.args.world.now c.users-counts.result.now c.loop-row.row-index c.len.result c.row-item.result c.in_ok-kept_user.field-0 _ c.loop-row.users.items c.push.new.self.items
    (c.users-counts.ensures ∙ ap (λ (k : KeptLists). k.users) c.requires) (subst (λ rs. c.loop-row.row-index < length rs) rows_are c.loop-row-test.true)
    (c.row-item.is ∙ ap (λ rs. get_or rs c.loop-row.row-index c.row-item.result) rows_are) c.loop-row.invariant (c.len.ensures ∙ c.loop-row.users.ok.0) c.in_ok-kept_user.ensures c.in_ok-push.ensures.items
