-- The least branch with a row that fails is the least whose history does not agree.
use Rattle.std.proofs.Common.{◌≡◌, ℕ, List, Option, subst, sym}
use Rattle.bank_books.specs.declared.rows.Entry.{Entry}
use Rattle.bank_books.specs.Conditions.{HistoryAgrees}
use Rattle.bank_books.specs.Keys.{entry_key}
use Rattle.book_check.specs.Least.{IsFirstFailing, lesser_of}
use Rattle.book_range.specs.Numbers.{BranchesBearNumbers}
use Rattle.book_check.specs.RowConditions.{AccountsOfHistory, BranchesOfHistory, EntriesOfHistory, TellersOfHistory, TurnsOfHistory}
use Rattle.book_check.proofs.FirstFailing.{both, reworded}
use Rattle.book_check.proofs.HistoryConditions.{RowsAgree, agrees_by_rows, rows_by_agreement}
use Rattle.book_check.proofs.history.first_of_other_history.Goals as goal

pub returns : goal.returns
returns c =
    let w = c.args.world.now in
    let kept = c.args.kept.now in
    let branches = c.first_branch-branches.result in
    let tellers = c.first_teller-tellers.result in
    let accounts = c.first_account-accounts.result in
    let turns = c.first_turn-turns.result in
    let numbers = c.first_of_other_numbers-numbers.result in
    let N : List Entry → Type 0 = λ rows. IsFirstFailing (BranchesBearNumbers entry_key (λ e. e.number) rows kept) numbers in
    let one = both (BranchesOfHistory w kept) (TellersOfHistory w kept) branches tellers c.first_branch-branches.ensures c.first_teller-tellers.ensures in
    let two = both (AccountsOfHistory w kept) (λ b. EntriesOfHistory w kept b × TurnsOfHistory w kept b) accounts turns c.first_account-accounts.ensures c.first_turn-turns.ensures in
    let three = both (λ b. BranchesOfHistory w kept b × TellersOfHistory w kept b) (λ b. AccountsOfHistory w kept b × (EntriesOfHistory w kept b × TurnsOfHistory w kept b)) (lesser_of branches tellers) (lesser_of accounts turns) one two in
    let all = both (λ b. (BranchesOfHistory w kept b × TellersOfHistory w kept b) × (AccountsOfHistory w kept b × (EntriesOfHistory w kept b × TurnsOfHistory w kept b)))
    (BranchesBearNumbers entry_key (λ e. e.number) w.entries kept) (lesser_of (lesser_of branches tellers) (lesser_of accounts turns)) numbers three (subst N c.entries.ensures.value c.first_of_other_numbers-numbers.ensures) in
    let least = lesser_of (lesser_of (lesser_of branches tellers) (lesser_of accounts turns)) numbers in
    let joined : c.lesser_of-4.result ≡ least = cc in
    let P : Option ℕ → Type 0 = λ o. IsFirstFailing (HistoryAgrees w kept) o in
    subst P (sym joined) (reworded (RowsAgree w kept) (HistoryAgrees w kept) least (λ b. agrees_by_rows w kept b c.requires.in_range) (λ b. rows_by_agreement w kept b c.requires.in_range) all)
