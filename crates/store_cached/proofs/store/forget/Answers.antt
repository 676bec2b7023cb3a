use Rattle.std.proofs.Common.{◌≡◌, ◌∙◌, false, sym}
use Rattle.bank_books.specs.Version.{changes_policy}
use Rattle.store_cached.specs.Users.{IsKnownOf, changes_users}
use Rattle.store_cached.proofs.Users.{known_after, version_after}
use Rattle.store_cached.proofs.store.forget.Goals as goal

pub returns-in-Some-clause-carried : goal.returns-in-Some-clause-carried
returns-in-Some-clause-carried c = λ w is.
    let same : changes_policy c.args.plan.now ≡ false = sym c.changes_policy.ensures ∙ c.if-changes_policy.false in
    let known : IsKnownOf w c.in-Some.it = rw c.in-Some.is at is in
    version_after c.args.plan.now c.in-Some.it c.forget_users.new.self w same c.forget_users.ensures.version c.forget_users.ensures.users known

pub returns-else-changes_users-clause-carried : goal.returns-else-changes_users-clause-carried
returns-else-changes_users-clause-carried c = λ w is.
    let same : changes_policy c.args.plan.now ≡ false = sym c.changes_policy.ensures ∙ c.if-changes_policy.false in
    let none : changes_users c.args.plan.now ≡ false = sym c.changes_users.ensures ∙ c.if-changes_users.false in
    known_after c.args.plan.now c.args.known.now w same none is
