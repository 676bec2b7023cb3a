-- That the amount of an operation, with which limits are compared, bounds all that it moves.
use Rattle.std.specs.Prelude.{ℕ, ℤ, neg_ℤ, ◌≡◌, ◌≤◌, ◌+ℤ◌, Bool, true, false, unsigned_abs}
use Rattle.bank_books.specs.Balances.{account_balance, branch_balance, teller_balance}
use Rattle.bank_books.specs.Cash.{cash_of}
use Rattle.bank_books.specs.WorldLists.{WorldLists}
use Rattle.counter_ops.specs.Releasable.{op_of}
use Rattle.counter_ops.specs.Touched.{amount}
use Rattle.counter_ops.specs.declared.new_account.NewAccount.{NewAccount}
use Rattle.counter_ops.specs.declared.op.Op.{Op}
use Rattle.counter_ops.specs.declared.op.Op.TheVariants as op
use Rattle.counter_ops.specs.declared.release.Release.{Release}
use Rattle.bank_meaning.specs.Requests.{executes}
use Rattle.bank_meaning.specs.Run.{step}
use Rattle.bank_meaning.specs.Sums.{IsProper, PassesChecks}
use Rattle.bank_meaning.specs.declared.execution.Execution.{Execution}

-- they differ by at most n cents
abbrev pub DifferAtMost : ℕ → ℤ → ℤ → Type 0
DifferAtMost most before after = unsigned_abs (after +ℤ neg_ℤ before) ≤ most

abbrev pub is_drawer_off : Op → Bool
is_drawer_off (op.DrawerOff form) = true
is_drawer_off _ = false

-- What an operation moves, allowed or not, repeated or not. A drawer that is put off comes back whole, whatever is in it: its operation has no amount.
pub record IsWithinAmount (w : WorldLists) (x : Execution) : Type 0 where
  pub branches : (branch : ℕ) → DifferAtMost (amount x.op) (branch_balance w branch) (branch_balance (step w (executes x)) branch)
  pub tellers : (teller : ℕ) → DifferAtMost (amount x.op) (teller_balance w teller) (teller_balance (step w (executes x)) teller)
  pub accounts : (account : ℕ) → DifferAtMost (amount x.op) (account_balance w account) (account_balance (step w (executes x)) account)
  -- of a drawer, or of the vault, which is place 0
  pub cash : is_drawer_off x.op ≡ false → (branch place : ℕ) → DifferAtMost (amount x.op) (cash_of w branch place) (cash_of (step w (executes x)) branch place)
  -- what a release lets be, and how far below zero a new account may go
  pub released : (form : Release) → x.op ≡ op.Release form → amount (op_of form.operation) ≤ amount x.op
  pub floor : (form : NewAccount) → x.op ≡ op.NewAccount form → unsigned_abs form.floor ≤ amount x.op

-- of every World that passes both checks, and every proper operation
abbrev pub AmountsBound : Type 0
AmountsBound = (w : WorldLists) (x : Execution) → PassesChecks w → IsProper (executes x) → IsWithinAmount w x
