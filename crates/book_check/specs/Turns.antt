-- The turns of an account, and the balances that are kept beside them.
use Rattle.std.specs.Prelude.{ℕ, ℤ, ◌≡◌, ◌<◌, ◌+◌, ◌+ℤ◌, ◌==◌, List, length, map, take, slice_index_or, count_by, Contains}
use Rattle.keyed_rows.specs.Totals.{total}
use Rattle.bank_books.specs.declared.records.EntryRecord.{EntryRecord}
use Rattle.bank_books.specs.declared.rows.Account.{Account}
use Rattle.bank_books.specs.Numbering.{AreNumbered}
use Rattle.book_sums.specs.Shares.{total_up_to}
use Rattle.book_sums.specs.declared.shares.Part.{Part}
use Rattle.book_check.specs.RowConditions.{amount_of}

-- the balance that is kept beside an entry, by account and turn
abbrev pub turn_balance : EntryRecord → Part
turn_balance e = record { group = e.row.account; number = e.row.turn; amount = amount_of e.balance_after }

-- the balances of an account are kept beside its deltas: they are as many, and numbered where those are
pub record AreBeside (deltas balances : List Part) (account : ℕ) : Type 0 where
  pub count : count_by (λ p. p.group == account) balances ≡ count_by (λ p. p.group == account) deltas
  pub numbered : AreNumbered (λ p. p.group) (λ p. p.number) deltas account → AreNumbered (λ p. p.group) (λ p. p.number) balances account

-- there is a balance for each delta: the opening and the deltas up to this one
pub record AreBalancesAfter (opening : ℤ) (deltas balances : List Part) : Type 0 where
  pub one_each : length deltas ≡ length balances
  pub amounts : (k : ℕ) (d : Part) → k < length deltas → (slice_index_or balances k d).amount ≡ opening +ℤ total (map (λ p. p.amount) (take (k + 1) deltas))

-- the turns of the account are numbered, and each of its balances is its opening and the deltas up to the turn
pub record IsAccountInTurns (deltas balances : List Part) (a : Account) : Type 0 where
  pub turns : AreNumbered (λ p. p.group) (λ p. p.number) deltas a.account
  pub amounts : (p : Part) → Contains balances p → p.group ≡ a.account → p.amount ≡ a.opening +ℤ total_up_to a.account p.number deltas
