-- Making room changes no row, and the changes are then carried out in order.
use Rattle.std.proofs.Common.{rules, ◌≡◌, ℕ, ap, ◌∙◌}
use Rattle.bank_policy.specs.PolicyRoom.{policy_of}
use Rattle.bank_books.specs.Effects.{all_written}
use Rattle.bank_books.specs.Room.{world_of}
use Rattle.bank_books.proofs.writing.write_plan.Goals as goal

pub returns-in_err-reserve-clause-err : goal.returns-in_err-reserve-clause-err
returns-in_err-reserve-clause-err c =
    let same = c.in_err-reserve.ensures.same (policy_of c.args.policy.now) in
    search (rules, same)

pub returns-in_err-reserve-2-clause-err : goal.returns-in_err-reserve-2-clause-err
returns-in_err-reserve-2-clause-err c =
    let same : (version : ℕ) → world_of c.reserve.new.self (policy_of c.reserve-2.new.self) version ≡ world_of c.args.lists.now (policy_of c.args.policy.now) version =
    λ version. ap (λ p. world_of c.reserve.new.self p version) c.in_err-reserve-2.ensures.same ∙ c.in_ok-reserve.ensures.same (policy_of c.args.policy.now) version in
    search (rules, same)

pub returns-clause-ok : goal.returns-clause-ok
returns-clause-ok c = λ version.
    c.write_rows.ensures.written version
    ∙ ap (all_written c.args.plan.items) (ap (λ p. world_of c.reserve.new.self p version) c.in_ok-reserve-2.ensures.same ∙ c.in_ok-reserve.ensures.same (policy_of c.args.policy.now) version)
