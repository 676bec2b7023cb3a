use Rattle.std.proofs.Common.{◌≡◌, ◌∙◌}
use Rattle.bank_books.specs.Room.{world_of}
use Rattle.list_opening.proofs.OpeningLemmas.{opens, refuses, some_is}
use Rattle.list_opening.proofs.opening.read_lists.Goals as goal

pub returns-in_err-policy : goal.returns-in_err-policy
returns-in_err-policy c =
    refuses c.args.texts.now _ (record { branches = c.in_ok-books.books.branches.items; tellers = c.in_ok-books.books.tellers.items; accounts = c.in_ok-books.books.accounts.items }) c.in_err-policy.field-0.0 c.from_residual-in_err-policy.result
    c.told-texts c.in_ok-books.ensures.stated c.in_err-policy.ensures.bad c.from_residual-in_err-policy.ensures.1

pub returns : goal.returns
returns c =
    opens c.args.texts.now _ (record { branches = c.in_ok-books.books.branches.items; tellers = c.in_ok-books.books.tellers.items; accounts = c.in_ok-books.books.accounts.items }) c.in_ok-policy.policy c.unwrap.result
    c.told-texts c.in_ok-books.ensures.stated c.in_ok-policy.ensures.stated
    (some_is c.from_lists.result c.unwrap.result (λ w. w ≡ world_of c.in_ok-books.books c.in_ok-policy.policy 0) c.from_lists.ensures.value c.unwrap.ensures ∙ c.in_ok-books.ensures.opened c.in_ok-policy.policy)
