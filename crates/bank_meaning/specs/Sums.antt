-- What holds along every list of requests: the checks pass, the sums agree, and what is written stays.
use Rattle.std.specs.Prelude.{ℕ, ℤ, neg_ℤ, ◌≡◌, ◌≤◌, ◌+◌, ◌+ℤ◌, ⊤, List, All, map, take, None}
use Rattle.bank_terms.specs.Limits.{max_key, max_moment}
use Rattle.std.specs.List.{sum_by}
use Rattle.keyed_rows.specs.Totals.{total}
use Rattle.policy_check.specs.Separation.{Certifies, Separated}
use Rattle.policy_check.specs.Soundness.{IsPolicySound}
use Rattle.bank_books.specs.Balances.{account_balance, branch_balance, entry_count, teller_balance}
use Rattle.bank_books.specs.Books.{Books}
use Rattle.bank_books.specs.Cash.{cash_entry_total, cash_of, difference_total, drawer_total}
use Rattle.bank_books.specs.Range.{IsBranch}
use Rattle.bank_books.specs.WorldLists.{WorldLists}
use Rattle.book_laws.specs.Kept.{OnlyAdds}
use Rattle.counter_ops.specs.Op.{procedure_of}
use Rattle.counter_ops.specs.Operations.{IsOp}
use Rattle.bank_meaning.specs.Moves.{Moves, moves_nothing}
use Rattle.bank_meaning.specs.Operations.{moves_of}
use Rattle.bank_meaning.specs.Order.{IsInOrder}
use Rattle.bank_meaning.specs.PolicyRules.{asker}
use Rattle.bank_meaning.specs.Requests.{executes, first}
use Rattle.bank_meaning.specs.Run.{Marked, accepted, world_after}
use Rattle.bank_meaning.specs.declared.execution.Execution.{Execution}
use Rattle.policy_commands.specs.Ranges.{IsPolicyOp}
use Rattle.bank_meaning.specs.declared.request.Asked.{Asked}
use Rattle.bank_meaning.specs.declared.request.Asked.TheVariants as asked
use Rattle.bank_meaning.specs.declared.request.Request.{Request}

-- The World passes both checks: its books hold, no row of its policy dangles, and no one may execute what they certify.
-- Its lists stand in order, as every World keeps them.
pub record PassesChecks (w : WorldLists) : Type 0 where
  pub in_order : IsInOrder w
  pub books : Books w
  pub sound : IsPolicySound w.policy
  pub separated : Separated w.policy

-- the members of what is asked for are in their ranges
abbrev pub IsAsked : Asked → Type 0
IsAsked (asked.Operation op) = IsOp op
IsAsked asked.Opening = ⊤
IsAsked asked.Ending = ⊤
IsAsked (asked.Command command) = IsPolicyOp command
IsAsked asked.Listing = ⊤

-- these and its moment are in their ranges
pub record IsProper (r : Request) : Type 0 where
  pub asked : IsAsked r.asked
  pub moment : r.moment ≤ max_moment
  pub slip : r.who.slip ≤ max_key

-- as a counter hands them on: those that are made are proper
abbrev pub AreProper : List Marked → Type 0
AreProper requests = All (λ m. m.mark ≡ None → IsProper m.request) requests

-- the same of all that may be asked for: operations alone move anything
abbrev pub moves_of_asked : Asked → Moves
moves_of_asked (asked.Operation op) = moves_of op
moves_of_asked asked.Opening = moves_nothing
moves_of_asked asked.Ending = moves_nothing
moves_of_asked (asked.Command command) = moves_nothing
moves_of_asked asked.Listing = moves_nothing

-- and of a request
abbrev pub moves : Request → Moves
moves r = moves_of_asked r.asked

-- ---- along a list of requests

-- the cash of a branch: that of its vault and of its drawers
abbrev pub branch_cash : WorldLists → ℕ → ℤ
branch_cash w branch = cash_of w branch 0 +ℤ drawer_total branch w.lines

-- the sum of what the requests that are accepted move
abbrev pub moved_along : (Moves → ℤ) → WorldLists → List Marked → ℤ
moved_along share w requests = total (map (λ r. share (moves r)) (accepted w requests))

-- after the requests
pub record SumsAgree (w : WorldLists) (requests : List Marked) : Type 0 where
  -- after each of them, too
  pub checks : (n : ℕ) → PassesChecks (world_after w (take n requests))
  pub branches : (branch : ℕ) → branch_balance (world_after w requests) branch ≡ branch_balance w branch +ℤ moved_along (λ m. m.branches branch) w requests
  pub tellers : (teller : ℕ) → teller_balance (world_after w requests) teller ≡ teller_balance w teller +ℤ moved_along (λ m. m.tellers teller) w requests
  pub accounts : (account : ℕ) → account_balance (world_after w requests) account ≡ account_balance w account +ℤ moved_along (λ m. m.accounts account) w requests
  -- TPC Benchmark A's third condition: the history has one record for each leg of a committed transaction, and none for anything else
  pub history : (branch : ℕ) → entry_count branch (world_after w requests).entries
      ≡ entry_count branch w.entries + sum_by (λ r. (moves r).entries branch) (accepted w requests)
  -- what its entries brought in cash is what they added to its balance
  pub cash_entries : (branch : ℕ) → cash_entry_total branch (world_after w requests).lines
      ≡ cash_entry_total branch w.lines +ℤ moved_along (λ m. m.branches branch) w requests
  -- the cash of a branch is what it was, with what its entries brought and what the counts of its drawers differed by
  pub cash : (branch : ℕ) → IsBranch w.branches branch → branch_cash (world_after w requests) branch
      ≡ branch_cash w branch
      +ℤ (moved_along (λ m. m.branches branch) w requests +ℤ (difference_total branch (world_after w requests).lines +ℤ neg_ℤ (difference_total branch w.lines)))
  pub added : OnlyAdds w (world_after w requests)

-- of every World that passes both checks, and of every list of requests with any marks
abbrev pub SumsAlwaysAgree : Type 0
SumsAlwaysAgree = (w : WorldLists) (requests : List Marked) → PassesChecks w → AreProper requests → SumsAgree w requests

-- Clark and Wilson's rule E4: who is let execute a procedure does not certify it.
abbrev pub NoOneExecutesWhatHeCertifies : Type 0
NoOneExecutesWhatHeCertifies = (w : WorldLists) (x : Execution) → Separated w.policy → first w (executes x) ≡ None → ¬ Certifies w.policy (asker x.who) (procedure_of x.op)
