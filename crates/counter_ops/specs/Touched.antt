-- What an operation touches and what it comes to, of the operation alone: the constrained data items that Clark and
-- Wilson's rules E1 and E2 ask about, and the amount that a limit is compared with.
use Rattle.std.specs.Prelude.{ℕ, ◌==◌, ◌||◌, List, [], ◌∷◌, ◌++◌, unsigned_abs, if◌then◌else◌}
use Rattle.bank_terms.specs.declared.item.Cdi.{Cdi}
use Rattle.bank_terms.specs.declared.item.Kind.TheVariants as kind
use Rattle.counter_ops.specs.declared.post.Post.{Post}
use Rattle.counter_ops.specs.declared.transfer.Transfer.{Transfer}
use Rattle.counter_ops.specs.declared.correct.Correct.{Correct}
use Rattle.counter_ops.specs.declared.move_cash.MoveCash.{MoveCash}
use Rattle.counter_ops.specs.declared.releasable.Releasable.{Releasable}
use Rattle.counter_ops.specs.declared.releasable.Releasable.TheVariants as releasable
use Rattle.counter_ops.specs.declared.op.Op.{Op}
use Rattle.counter_ops.specs.declared.op.Op.TheVariants as op

abbrev pub account_item : ℕ → Cdi
account_item key = record { kind = kind.Account; key = key }

abbrev pub teller_item : ℕ → Cdi
teller_item key = record { kind = kind.Teller; key = key }

abbrev pub branch_item : ℕ → Cdi
branch_item key = record { kind = kind.Branch; key = key }

-- the history of a branch, by the branch's key
abbrev pub history_item : ℕ → Cdi
history_item key = record { kind = kind.History; key = key }

-- the drawer of a teller, by the teller's key
abbrev pub drawer_item : ℕ → Cdi
drawer_item key = record { kind = kind.Drawer; key = key }

-- the vault of a branch, by the branch's key
abbrev pub vault_item : ℕ → Cdi
vault_item key = record { kind = kind.Vault; key = key }

-- what an entry at a teller touches beside the accounts
abbrev pub touched_at : ℕ → ℕ → List Cdi
touched_at teller branch = teller_item teller ∷ branch_item branch ∷ history_item branch ∷ drawer_item teller ∷ []

-- what a drawer that is put on or off touches
abbrev pub touched_by_drawer : ℕ → ℕ → List Cdi
touched_by_drawer teller branch = teller_item teller ∷ branch_item branch ∷ drawer_item teller ∷ vault_item branch ∷ []

-- a branch whose books are looked at
abbrev pub touched_by_books : ℕ → List Cdi
touched_by_books branch = branch_item branch ∷ history_item branch ∷ vault_item branch ∷ []

abbrev pub touched_by_post : Post → List Cdi
touched_by_post post = account_item post.account ∷ touched_at post.teller post.branch

abbrev pub touched_by_transfer : Transfer → List Cdi
touched_by_transfer transfer =
    account_item transfer.source ∷ account_item transfer.target ∷ touched_at transfer.teller transfer.branch

-- the correction of a post names no other account
abbrev pub touched_by_correct : Correct → List Cdi
touched_by_correct correct =
    account_item correct.account
    ∷ (if correct.other == 0 then touched_at correct.teller correct.branch else account_item correct.other ∷ touched_at correct.teller correct.branch)

-- a teller and their drawer, where the place is not the vault
abbrev pub touched_place : ℕ → List Cdi
touched_place place = if place == 0 then [] else teller_item place ∷ drawer_item place ∷ []

abbrev pub touched_by_move_cash : MoveCash → List Cdi
touched_by_move_cash move_cash =
    branch_item move_cash.branch ∷ []
    ++ touched_place move_cash.source
    ++ touched_place move_cash.target
    ++ (if (move_cash.source == 0 || move_cash.target == 0) then vault_item move_cash.branch ∷ [] else [])

abbrev pub touched_by_releasable : Releasable → List Cdi
touched_by_releasable (releasable.Post post) = touched_by_post post
touched_by_releasable (releasable.Transfer transfer) = touched_by_transfer transfer
touched_by_releasable (releasable.Correct correct) = touched_by_correct correct
touched_by_releasable (releasable.DrawerOn drawer_on) = touched_by_drawer drawer_on.teller drawer_on.branch
touched_by_releasable (releasable.MoveCash move_cash) = touched_by_move_cash move_cash

-- A release touches what the operation that it is for touches. The list of accounts touches nothing.
abbrev pub touched : Op → List Cdi
touched (op.Post post) = touched_by_post post
touched (op.Transfer transfer) = touched_by_transfer transfer
touched (op.Correct correct) = touched_by_correct correct
touched (op.DrawerOn drawer_on) = touched_by_drawer drawer_on.teller drawer_on.branch
touched (op.DrawerOff drawer_off) = touched_by_drawer drawer_off.teller drawer_off.branch
touched (op.MoveCash move_cash) = touched_by_move_cash move_cash
touched (op.NewAccount new_account) = account_item new_account.account ∷ branch_item new_account.branch ∷ []
touched (op.Release release) = touched_by_releasable release.operation
touched (op.Balance balance) = account_item balance.account ∷ []
touched (op.Statement statement) = account_item statement.account ∷ []
touched (op.Accounts _) = []
touched (op.Proof proof) = touched_by_books proof.branch
touched (op.CloseDay close_day) = touched_by_books close_day.branch

abbrev pub amount_of_releasable : Releasable → ℕ
amount_of_releasable (releasable.Post post) = unsigned_abs post.delta
amount_of_releasable (releasable.Transfer transfer) = transfer.amount
amount_of_releasable (releasable.Correct correct) = unsigned_abs correct.delta
amount_of_releasable (releasable.DrawerOn drawer_on) = drawer_on.cash
amount_of_releasable (releasable.MoveCash move_cash) = move_cash.amount

-- in cents, without a sign
abbrev pub amount : Op → ℕ
amount (op.Post post) = unsigned_abs post.delta
amount (op.Transfer transfer) = transfer.amount
amount (op.Correct correct) = unsigned_abs correct.delta
amount (op.DrawerOn drawer_on) = drawer_on.cash
amount (op.DrawerOff _) = 0
amount (op.MoveCash move_cash) = move_cash.amount
amount (op.NewAccount new_account) = unsigned_abs new_account.floor
amount (op.Release release) = amount_of_releasable release.operation
amount (op.Balance _) = 0
amount (op.Statement _) = 0
amount (op.Accounts _) = 0
amount (op.Proof _) = 0
amount (op.CloseDay _) = 0
