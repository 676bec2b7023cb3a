-- What one request makes of a World that passes its checks.
use Rattle.std.proofs.Common.{◌≡◌, ℕ, ◌+◌, ℤ, pos, ◌+ℤ◌, List, map, refl, ap, arith, sym, subst, ◌∙◌}
use Rattle.std.specs.List.{AllByRecursion, sum_by}
use Rattle.std.proofs.lemmas.Int.{ints}
use Rattle.keyed_rows.specs.Totals.{total}
use Rattle.policy_check.specs.Separation.{Separated}
use Rattle.policy_check.specs.Soundness.{IsPolicySound}
use Rattle.bank_books.specs.Balances.{account_balance, branch_balance, entry_count, teller_balance}
use Rattle.bank_books.specs.Books.{Books}
use Rattle.bank_books.specs.Cash.{cash_entry_total, vault_opening}
use Rattle.bank_books.specs.Effects.{all_written}
use Rattle.bank_books.specs.Range.{IsBranch}
use Rattle.bank_books.specs.WorldLists.{WorldLists}
use Rattle.bank_books.specs.declared.row_write.RowWrite.{RowWrite}
use Rattle.book_laws.specs.Kept.{OnlyAdds}
use Rattle.book_laws.specs.PlanMoves.{IsPosting, account_share, branch_share, cash_entry_share, entry_share, teller_share}
use Rattle.book_laws.proofs.Kept.{adds_nothing}
use Rattle.book_laws.proofs.PlanMoves.{plan_moves}
use Rattle.bank_meaning.specs.Order.{IsInOrder}
use Rattle.bank_meaning.specs.Moves.{Moves, moves_nothing}
use Rattle.bank_meaning.specs.Sums.{PassesChecks}
use Rattle.bank_meaning.proofs.KeptOrder.{in_order_all_written}

pub plus_zero : (z : ℤ) → z ≡ z +ℤ pos 0
plus_zero z = omega (arith, ints)

pub none_more : (n : ℕ) → n ≡ n + 0
none_more n = omega arith

-- from one World to the next, where these are the moves
pub record IsStep (before after : WorldLists) (m : Moves) : Type 0 where
  pub checks : PassesChecks after
  pub branches : (branch : ℕ) → branch_balance after branch ≡ branch_balance before branch +ℤ m.branches branch
  pub tellers : (teller : ℕ) → teller_balance after teller ≡ teller_balance before teller +ℤ m.tellers teller
  pub accounts : (account : ℕ) → account_balance after account ≡ account_balance before account +ℤ m.accounts account
  pub history : (branch : ℕ) → entry_count branch after.entries ≡ entry_count branch before.entries + m.entries branch
  pub cash_entries : (branch : ℕ) → cash_entry_total branch after.lines ≡ cash_entry_total branch before.lines +ℤ m.branches branch
  -- no branch is lost, and none gets another vault
  pub stay : (branch : ℕ) → IsBranch before.branches branch → IsBranch after.branches branch
  pub vaults : (branch : ℕ) → vault_opening branch after.branches ≡ vault_opening branch before.branches
  pub added : OnlyAdds before after

pub stands : (w : WorldLists) → PassesChecks w → IsStep w w moves_nothing
stands w checks = record {
  checks = checks;
  branches = λ branch. plus_zero (branch_balance w branch);
  tellers = λ teller. plus_zero (teller_balance w teller);
  accounts = λ account. plus_zero (account_balance w account);
  history = λ branch. none_more (entry_count branch w.entries);
  cash_entries = λ branch. plus_zero (cash_entry_total branch w.lines);
  stay = λ branch is. is;
  vaults = λ branch. refl;
  added = adds_nothing w;
}

-- a World in order with the same policy and with books that hold
pub passes : (before after : WorldLists) → PassesChecks before → IsInOrder after → after.policy ≡ before.policy → Books after → PassesChecks after
passes before after checks order same books =
    record { in_order = order; books = books; sound = subst IsPolicySound (sym same) checks.sound; separated = subst Separated (sym same) checks.separated }

-- what the changes of a plan add is what an operation is said to move
pub record IsSumOf (changes : List RowWrite) (m : Moves) : Type 0 where
  pub branches : (key : ℕ) → total (map (branch_share key) changes) ≡ m.branches key
  pub tellers : (key : ℕ) → total (map (teller_share key) changes) ≡ m.tellers key
  pub accounts : (key : ℕ) → total (map (account_share key) changes) ≡ m.accounts key
  pub entries : (key : ℕ) → sum_by (entry_share key) changes ≡ m.entries key
  pub cash_entries : (key : ℕ) → total (map (cash_entry_share key) changes) ≡ m.branches key

-- the step of a plan of entries and cash lines
pub plan_step : (w : WorldLists) (changes : List RowWrite) (m : Moves) → PassesChecks w → AllByRecursion IsPosting changes → IsSumOf changes m → Books (all_written changes w)
    → IsStep w (all_written changes w) m
plan_step w changes m checks postings sums books =
    let moved = plan_moves w changes postings in
    record {
      checks = passes w (all_written changes w) checks (in_order_all_written changes w checks.in_order) moved.policy books;
      branches = λ key. moved.branch_balances key ∙ ap (λ z. branch_balance w key +ℤ z) (sums.branches key);
      tellers = λ key. moved.teller_balances key ∙ ap (λ z. teller_balance w key +ℤ z) (sums.tellers key);
      accounts = λ key. moved.account_balances key ∙ ap (λ z. account_balance w key +ℤ z) (sums.accounts key);
      history = λ key. moved.entries key ∙ ap (λ n. entry_count key w.entries + n) (sums.entries key);
      cash_entries = λ key. moved.cash_entries key ∙ ap (λ z. cash_entry_total key w.lines +ℤ z) (sums.cash_entries key);
      stay = λ key is. subst (λ rows. IsBranch rows key) (sym moved.branches) is;
      vaults = λ key. ap (vault_opening key) moved.branches;
      added = moved.added;
    }
