use Rattle.std.proofs.Common.{◌≡◌, List, Contains, subst}
use Rattle.bank_books.specs.declared.records.AccountRecord.{AccountRecord}
use Rattle.book_check.specs.Least.{IsFirstFailing}
use Rattle.book_check.specs.RowConditions.{EntriesOfHistory, TurnsOfHistory}
use Rattle.book_check.specs.Turns.{IsAccountInTurns}
use Rattle.book_check.proofs.FirstFailing.{reworded}
use Rattle.book_check.proofs.HistoryConditions.{AccountsInTurns, accounts_by_turns, turns_by_accounts}
use Rattle.book_check.proofs.KeptRows.{by_themselves}
use Rattle.book_check.proofs.TurnParts.{balances_beside}
use Rattle.book_check.proofs.history.first_turn.Goals as goal

pub returns : goal.returns
returns c =
    let w = c.args.world.now in
    let s = c.args.sums.now in
    let kept = c.args.kept.now in
    let balances = c.args.balances.now in
    let r = c.requires in
    let holds : AccountRecord → Type 0 = λ a. IsAccountInTurns s.by_turn balances a.row in
    let judged = by_themselves holds (λ a. a.row.home) c.accounts.result.now c.least_failing.result c.least_failing.ensures in
    let P : List AccountRecord → Type 0 = λ xs. IsFirstFailing (λ branch. (a : AccountRecord) → Contains xs a → a.row.home ≡ branch → holds a) c.least_failing.result in
    reworded (AccountsInTurns kept s balances) (λ branch. EntriesOfHistory w kept branch × TurnsOfHistory w kept branch) c.least_failing.result
    (λ branch. turns_by_accounts w kept s balances branch r.in_range r.sums r.balances)
    (λ branch. accounts_by_turns w kept s balances branch r.in_range r.sums r.balances)
    (subst P c.accounts.ensures judged)

pub invariant_of-least_failing : goal.invariant_of-least_failing
invariant_of-least_failing c =
    let r = c.requires in
    record { beside = balances_beside c.args.world.now c.args.sums.now c.args.kept.now.entries c.args.balances.now r.sums r.in_range.rows.entries r.balances }
