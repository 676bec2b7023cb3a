use Rattle.std.proofs.Common.{◌≤◌, ap, ◌∙◌}
use Rattle.bank_policy.specs.declared.rows.User.{User}
use Rattle.book_range.proofs.Judged.{not_passed, then_tested, stated}
use Rattle.book_range.proofs.range.are_users_in_range.Goals as goal

pub returns-then-are_releases_in_range : goal.returns-then-are_releases_in_range
returns-then-are_releases_in_range c =
    then_tested c.if-are_releases_in_range.true c.are_releases_in_range.ensures
    (stated (λ (u : User). u.session ≤ 999999999) c.users.result.now c.args.world.now.policy.users c.are_within_limits.result
    (c.users.ensures.value ∙ ap (λ p. p.users) c.policy.ensures) c.are_within_limits.ensures)
    (λ first second. record { releases = first; users = second }) (λ both. both.users)

pub returns-else-are_releases_in_range : goal.returns-else-are_releases_in_range
returns-else-are_releases_in_range c = not_passed c.if-are_releases_in_range.false c.are_releases_in_range.ensures (λ both. both.releases)
