-- That the members of an operation that a body states lie in their ranges, form by form.
use Rattle.std.proofs.Common.{◌+◌, ◌==◌, ℕ, pos, List, Option, IfSome, option_and_then, codes}
use Rattle.std.proofs.lemmas.Bool.{eqb-false}
use Rattle.serde_json.specs.Data.{Data}
use Rattle.serde_json.specs.Find.{as_str, get}
use Rattle.money.specs.Range.{IsDelta, max_cents}
use Rattle.bank_terms.specs.Limits.{max_key, max_limit, max_listed, max_transfer, max_user, min_floor}
use Rattle.bank_terms.specs.Procedure.{procedure_named}
use Rattle.bank_terms.specs.declared.procedure.Procedure.{Procedure}
use Rattle.bank_terms.specs.declared.procedure.Procedure.TheVariants as procedure
use Rattle.row_members.specs.Ranges.{IsCash, IsFloor, IsKey, IsWithin}
use Rattle.counter_ops.specs.Accounts.{IsAccounts}
use Rattle.counter_ops.specs.Correct.{IsCorrect}
use Rattle.counter_ops.specs.DrawerOff.{IsDrawerOff}
use Rattle.counter_ops.specs.DrawerOn.{IsDrawerOn}
use Rattle.counter_ops.specs.MoveCash.{IsMoveCash}
use Rattle.counter_ops.specs.NewAccount.{IsNewAccount}
use Rattle.counter_ops.specs.Operations.{IsOp}
use Rattle.counter_ops.specs.Post.{IsPost}
use Rattle.counter_ops.specs.Releasable.{IsReleasable}
use Rattle.counter_ops.specs.Release.{IsRelease}
use Rattle.counter_ops.specs.Statement.{IsStatement}
use Rattle.counter_ops.specs.Transfer.{IsTransfer}
use Rattle.counter_ops.specs.declared.balance.Balance.{Balance}
use Rattle.counter_ops.specs.declared.close_day.CloseDay.{CloseDay}
use Rattle.counter_ops.specs.declared.op.Op.TheVariants as op
use Rattle.counter_ops.specs.declared.proof.Proof.{Proof}
use Rattle.counter_ops.specs.declared.releasable.Releasable.TheVariants as releasable
use Rattle.bodies.specs.Accounts.{accounts_of}
use Rattle.bodies.specs.Balance.{balance_of}
use Rattle.bodies.specs.Body.{delta_member, has_members, key_member, natural_member, number_member, value_of}
use Rattle.bodies.specs.CloseDay.{close_day_of}
use Rattle.bodies.specs.Correct.{correct_of}
use Rattle.bodies.specs.DrawerOff.{drawer_off_of}
use Rattle.bodies.specs.DrawerOn.{drawer_on_of}
use Rattle.bodies.specs.Laws.{OperationsAreInRange}
use Rattle.bodies.specs.MoveCash.{move_cash_of}
use Rattle.bodies.specs.NewAccount.{new_account_of}
use Rattle.bodies.specs.Operation.{op_of}
use Rattle.bodies.specs.Post.{post_of}
use Rattle.bodies.specs.Proof.{proof_of}
use Rattle.bodies.specs.Release.{releasable_as, releasable_of, release_of}
use Rattle.bodies.specs.Statement.{statement_of}
use Rattle.bodies.specs.Transfer.{transfer_of}
use Rattle.bodies.proofs.InRange.{delta_in_range, failed, key_in_range, mapped, natural_in_range, next, number_in_range, passed, whatever}

-- ---- steps

key : {B : Type 0} (name : List ℕ) (value : Data) (f : ℕ → Option B) (Q : B → Type 0) → ((n : ℕ) → IsKey n → IfSome (f n) Q) → IfSome (option_and_then f (key_member name value)) Q
key name value f Q more = next (key_member name value) f IsKey Q (key_in_range name value) more

natural : {B : Type 0} (name : List ℕ) (low high : ℕ) (value : Data) (f : ℕ → Option B) (Q : B → Type 0) → ((n : ℕ) → IsWithin low high n → IfSome (f n) Q)
    → IfSome (option_and_then f (natural_member name low high value)) Q
natural name low high value f Q more = next (natural_member name low high value) f (IsWithin low high) Q (natural_in_range name low high value) more

-- ---- forms

post_in_range : (extra : ℕ) (value : Data) → IfSome (post_of extra value) IsPost
post_in_range extra value =
    passed (has_members (4 + extra) value) _ IsPost (λ is.
    key (codes "account") value _ IsPost (λ account in_account.
    key (codes "branch") value _ IsPost (λ branch in_branch.
    next (delta_member (codes "delta") value) _ IsDelta IsPost (delta_in_range (codes "delta") value) (λ delta in_delta.
    key (codes "teller") value _ IsPost (λ teller in_teller.
    record { account = in_account; branch = in_branch; delta = in_delta; teller = in_teller })))))

balance_in_range : (value : Data) → IfSome (balance_of value) (λ b. IsKey b.account)
balance_in_range value = passed (has_members 1 value) _ (λ (b : Balance). IsKey b.account) (λ is. key (codes "account") value _ (λ (b : Balance). IsKey b.account) (λ account in_account. in_account))

transfer_in_range : (extra : ℕ) (value : Data) → IfSome (transfer_of extra value) IsTransfer
transfer_in_range extra value =
    passed (has_members (5 + extra) value) _ IsTransfer (λ is.
    key (codes "source") value _ IsTransfer (λ source in_source.
    key (codes "target") value _ IsTransfer (λ target in_target.
    key (codes "teller") value _ IsTransfer (λ teller in_teller.
    key (codes "branch") value _ IsTransfer (λ branch in_branch.
    natural (codes "amount") 1 max_transfer value _ IsTransfer (λ amount in_amount.
    failed (source == target) _ IsTransfer (λ apart.
    record { source = in_source; target = in_target; teller = in_teller; branch = in_branch; amount = in_amount; two_accounts = eqb-false source target apart })))))))

correct_in_range : (extra : ℕ) (value : Data) → IfSome (correct_of extra value) IsCorrect
correct_in_range extra value =
    passed (has_members (6 + extra) value) _ IsCorrect (λ is.
    key (codes "branch") value _ IsCorrect (λ branch in_branch.
    key (codes "entry") value _ IsCorrect (λ entry in_entry.
    key (codes "account") value _ IsCorrect (λ account in_account.
    natural (codes "other") 0 max_key value _ IsCorrect (λ other in_other.
    key (codes "teller") value _ IsCorrect (λ teller in_teller.
    next (delta_member (codes "delta") value) _ IsDelta IsCorrect (delta_in_range (codes "delta") value) (λ delta in_delta.
    failed (account == other) _ IsCorrect (λ apart.
    record { branch = in_branch; entry = in_entry; account = in_account; other = in_other; teller = in_teller; delta = in_delta; two_accounts = eqb-false account other apart }))))))))

drawer_on_in_range : (extra : ℕ) (value : Data) → IfSome (drawer_on_of extra value) IsDrawerOn
drawer_on_in_range extra value =
    passed (has_members (3 + extra) value) _ IsDrawerOn (λ is.
    key (codes "teller") value _ IsDrawerOn (λ teller in_teller.
    key (codes "branch") value _ IsDrawerOn (λ branch in_branch.
    natural (codes "cash") 0 max_limit value _ IsDrawerOn (λ cash in_cash.
    record { teller = in_teller; branch = in_branch; cash = in_cash }))))

drawer_off_in_range : (value : Data) → IfSome (drawer_off_of value) IsDrawerOff
drawer_off_in_range value =
    passed (has_members 3 value) _ IsDrawerOff (λ is.
    key (codes "teller") value _ IsDrawerOff (λ teller in_teller.
    key (codes "branch") value _ IsDrawerOff (λ branch in_branch.
    next (number_member (codes "counted") (pos 0) max_cents value) _ IsCash IsDrawerOff (number_in_range (codes "counted") (pos 0) max_cents value) (λ counted in_counted.
    record { teller = in_teller; branch = in_branch; counted = in_counted }))))

move_cash_in_range : (extra : ℕ) (value : Data) → IfSome (move_cash_of extra value) IsMoveCash
move_cash_in_range extra value =
    passed (has_members (4 + extra) value) _ IsMoveCash (λ is.
    natural (codes "source") 0 max_key value _ IsMoveCash (λ source in_source.
    natural (codes "target") 0 max_key value _ IsMoveCash (λ target in_target.
    key (codes "branch") value _ IsMoveCash (λ branch in_branch.
    natural (codes "amount") 1 max_limit value _ IsMoveCash (λ amount in_amount.
    failed (source == target) _ IsMoveCash (λ apart.
    record { source = in_source; target = in_target; branch = in_branch; amount = in_amount; two_places = eqb-false source target apart }))))))

new_account_in_range : (value : Data) → IfSome (new_account_of value) IsNewAccount
new_account_in_range value =
    passed (has_members 3 value) _ IsNewAccount (λ is.
    key (codes "account") value _ IsNewAccount (λ account in_account.
    key (codes "branch") value _ IsNewAccount (λ branch in_branch.
    next (number_member (codes "floor") min_floor (pos 0) value) _ IsFloor IsNewAccount (number_in_range (codes "floor") min_floor (pos 0) value) (λ floor in_floor.
    record { account = in_account; branch = in_branch; floor = in_floor }))))

statement_in_range : (value : Data) → IfSome (statement_of value) IsStatement
statement_in_range value =
    passed (has_members 3 value) _ IsStatement (λ is.
    key (codes "account") value _ IsStatement (λ account in_account.
    key (codes "start") value _ IsStatement (λ start in_start.
    natural (codes "count") 1 max_listed value _ IsStatement (λ count in_count.
    record { account = in_account; start = in_start; count = in_count }))))

accounts_in_range : (value : Data) → IfSome (accounts_of value) IsAccounts
accounts_in_range value =
    passed (has_members 2 value) _ IsAccounts (λ is.
    natural (codes "after") 0 max_key value _ IsAccounts (λ after in_after.
    natural (codes "count") 1 max_listed value _ IsAccounts (λ count in_count.
    record { after = in_after; count = in_count })))

proof_in_range : (value : Data) → IfSome (proof_of value) (λ p. IsKey p.branch)
proof_in_range value = passed (has_members 1 value) _ (λ (p : Proof). IsKey p.branch) (λ is. key (codes "branch") value _ (λ (p : Proof). IsKey p.branch) (λ branch in_branch. in_branch))

close_day_in_range : (value : Data) → IfSome (close_day_of value) (λ d. IsKey d.branch)
close_day_in_range value = passed (has_members 1 value) _ (λ (d : CloseDay). IsKey d.branch) (λ is. key (codes "branch") value _ (λ (d : CloseDay). IsKey d.branch) (λ branch in_branch. in_branch))

-- ---- releases

as_procedure : (value : Data) (chosen : Procedure) → IfSome (releasable_as value chosen) IsReleasable
as_procedure value procedure.Post = mapped (post_of 1 value) releasable.Post IsPost IsReleasable (post_in_range 1 value) (λ x is. is)
as_procedure value procedure.Transfer = mapped (transfer_of 1 value) releasable.Transfer IsTransfer IsReleasable (transfer_in_range 1 value) (λ x is. is)
as_procedure value procedure.Correct = mapped (correct_of 1 value) releasable.Correct IsCorrect IsReleasable (correct_in_range 1 value) (λ x is. is)
as_procedure value procedure.DrawerOn = mapped (drawer_on_of 1 value) releasable.DrawerOn IsDrawerOn IsReleasable (drawer_on_in_range 1 value) (λ x is. is)
as_procedure value procedure.MoveCash = mapped (move_cash_of 1 value) releasable.MoveCash IsMoveCash IsReleasable (move_cash_in_range 1 value) (λ x is. is)
as_procedure value _ = tt

releasable_in_range : (value : Data) → IfSome (releasable_of value) IsReleasable
releasable_in_range value =
    whatever (option_and_then as_str (get (codes "procedure") value)) _ IsReleasable (λ name. whatever (procedure_named name) _ IsReleasable (λ chosen. as_procedure value chosen))

release_in_range : (value : Data) → IfSome (release_of value) IsRelease
release_in_range value =
    passed (has_members 2 value) _ IsRelease (λ is.
    natural (codes "beneficiary") 1 max_user value _ IsRelease (λ beneficiary in_beneficiary.
    next (option_and_then releasable_of (get (codes "operation") value)) _ IsReleasable IsRelease
    (whatever (get (codes "operation") value) releasable_of IsReleasable releasable_in_range) (λ operation in_operation.
    record { beneficiary = in_beneficiary; operation = in_operation })))

-- ---- all of them

by_procedure : (chosen : Procedure) (value : Data) → IfSome (op_of chosen value) IsOp
by_procedure procedure.Post value = mapped (post_of 0 value) op.Post IsPost IsOp (post_in_range 0 value) (λ x is. is)
by_procedure procedure.Transfer value = mapped (transfer_of 0 value) op.Transfer IsTransfer IsOp (transfer_in_range 0 value) (λ x is. is)
by_procedure procedure.Correct value = mapped (correct_of 0 value) op.Correct IsCorrect IsOp (correct_in_range 0 value) (λ x is. is)
by_procedure procedure.DrawerOn value = mapped (drawer_on_of 0 value) op.DrawerOn IsDrawerOn IsOp (drawer_on_in_range 0 value) (λ x is. is)
by_procedure procedure.DrawerOff value = mapped (drawer_off_of value) op.DrawerOff IsDrawerOff IsOp (drawer_off_in_range value) (λ x is. is)
by_procedure procedure.MoveCash value = mapped (move_cash_of 0 value) op.MoveCash IsMoveCash IsOp (move_cash_in_range 0 value) (λ x is. is)
by_procedure procedure.NewAccount value = mapped (new_account_of value) op.NewAccount IsNewAccount IsOp (new_account_in_range value) (λ x is. is)
by_procedure procedure.Release value = mapped (release_of value) op.Release IsRelease IsOp (release_in_range value) (λ x is. is)
by_procedure procedure.Balance value = mapped (balance_of value) op.Balance (λ (b : Balance). IsKey b.account) IsOp (balance_in_range value) (λ x is. is)
by_procedure procedure.Statement value = mapped (statement_of value) op.Statement IsStatement IsOp (statement_in_range value) (λ x is. is)
by_procedure procedure.Accounts value = mapped (accounts_of value) op.Accounts IsAccounts IsOp (accounts_in_range value) (λ x is. is)
by_procedure procedure.Proof value = mapped (proof_of value) op.Proof (λ (p : Proof). IsKey p.branch) IsOp (proof_in_range value) (λ x is. is)
by_procedure procedure.CloseDay value = mapped (close_day_of value) op.CloseDay (λ (d : CloseDay). IsKey d.branch) IsOp (close_day_in_range value) (λ x is. is)

pub operations_in_range : OperationsAreInRange
operations_in_range chosen body = whatever (value_of body) (op_of chosen) IsOp (by_procedure chosen)
