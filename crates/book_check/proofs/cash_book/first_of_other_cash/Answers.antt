-- The least branch with a row that fails is the least whose cash does not agree.
use Rattle.std.proofs.Common.{◌≡◌, ℕ, List, Option, subst, sym, ap, ◌∙◌}
use Rattle.bank_books.specs.Conditions.{CashAgrees}
use Rattle.book_check.specs.Least.{IsFirstFailing, lesser_of}
use Rattle.bank_books.specs.declared.rows.CashLine.{CashLine}
use Rattle.bank_books.specs.Keys.{line_key}
use Rattle.book_range.specs.Numbers.{BranchesBearNumbers}
use Rattle.book_check.specs.RowConditions.{BranchesOfCash, TellersOfLines}
use Rattle.book_check.proofs.FirstFailing.{both, reworded}
use Rattle.book_check.proofs.CashConditions.{RowsOfCash, cash_by_rows, rows_by_cash}
use Rattle.book_check.proofs.cash_book.first_of_other_cash.Goals as goal

pub returns : goal.returns
returns c =
    let w = c.args.world.now in
    let kept = c.args.kept.now in
    let branches = c.first_branch-branches.result in
    let tellers = c.first_teller-tellers.result in
    let numbers = c.first_of_other_numbers-numbers.result in
    let N : List CashLine → Type 0 = λ rows. IsFirstFailing (BranchesBearNumbers line_key (λ l. l.number) rows kept) numbers in
    let one = both (BranchesOfCash w kept) (TellersOfLines w kept) branches tellers c.first_branch-branches.ensures c.first_teller-tellers.ensures in
    let all = both (λ b. BranchesOfCash w kept b × TellersOfLines w kept b) (BranchesBearNumbers line_key (λ l. l.number) w.lines kept) (lesser_of branches tellers) numbers one
    (subst N c.lines.ensures.value c.first_of_other_numbers-numbers.ensures) in
    let joined : c.lesser_of-2.result ≡ lesser_of (lesser_of branches tellers) numbers = c.lesser_of-2.ensures ∙ ap (λ o. lesser_of o numbers) c.lesser_of.ensures in
    let P : Option ℕ → Type 0 = λ o. IsFirstFailing (CashAgrees w kept) o in
    subst P (sym joined)
    (reworded (RowsOfCash w kept) (CashAgrees w kept) (lesser_of (lesser_of branches tellers) numbers)
    (λ b. cash_by_rows w kept b c.requires.in_range) (λ b. rows_by_cash w kept b c.requires.in_range) all)
