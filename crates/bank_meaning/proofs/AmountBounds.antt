-- The amount of an operation bounds what it adds to each balance, and to the cash of each place.
use Rattle.std.proofs.Common.{◌≡◌, ℕ, ◌≤◌, ℤ, pos, neg_ℤ, ◌+ℤ◌, ◌==◌, List, Bool, true, false, Option, Some, None, refl, arith, sym, subst}
use Rattle.std.specs.Prelude.{unsigned_abs, if◌then◌else◌}
use Rattle.std.proofs.lemmas.Int.{ints}
use Rattle.bank_terms.specs.declared.rule.Rule.{Rule}
use Rattle.bank_books.specs.Balances.{account_balance, branch_balance, teller_balance}
use Rattle.bank_books.specs.Cash.{place_cash, vault_opening}
use Rattle.bank_books.specs.Effects.{written}
use Rattle.bank_books.specs.WorldLists.{WorldLists}
use Rattle.bank_books.specs.declared.row_write.RowWrite.TheVariants as write
use Rattle.bank_books.specs.declared.signature.Signature.{Signature}
use Rattle.counter_ops.specs.Releasable.{op_of}
use Rattle.counter_ops.specs.Touched.{amount, amount_of_releasable}
use Rattle.counter_ops.specs.declared.op.Op.{Op}
use Rattle.counter_ops.specs.declared.releasable.Releasable.{Releasable}
use Rattle.counter_ops.specs.declared.releasable.Releasable.TheVariants as releasable
use Rattle.bank_meaning.specs.Amounts.{AmountsBound, DifferAtMost, is_drawer_off}
use Rattle.bank_meaning.specs.Executions.{books_meaning, signature_of}
use Rattle.bank_meaning.specs.Operations.{form_of, meaning_of}
use Rattle.bank_meaning.specs.PolicyRules.{asker, grounds, leave_of, used_by}
use Rattle.bank_meaning.specs.Requests.{effect, executes, first, repeated}
use Rattle.bank_meaning.specs.Run.{Marked, if_allowed, is_accepted, step, unless_repeated}
use Rattle.bank_meaning.specs.Slips.{slip_named, slip_of}
use Rattle.bank_meaning.specs.Moves.{Moves, moves_nothing}
use Rattle.bank_meaning.specs.Operations.{moves_of}
use Rattle.bank_meaning.specs.declared.execution.Execution.{Execution}
use Rattle.bank_meaning.specs.declared.leave.Authorization.{Authorization}
use Rattle.bank_meaning.specs.declared.leave.Authorization.TheVariants as leave
use Rattle.bank_meaning.proofs.RunSums.{one_request}
use Rattle.bank_meaning.specs.Form.{changed_by}
use Rattle.bank_meaning.proofs.Forms.{law_of}
use Rattle.bank_meaning.proofs.AmountParts.{abs_itself, added_at_most, differ_by_none, if_moved, plan_bound, same_most}

-- the lines by the books alone
books_bound : (o : Op) (by : Signature) (w : WorldLists) (branch place : ℕ) → is_drawer_off o ≡ false
    → DifferAtMost (amount o) (place_cash branch place w.lines) (place_cash branch place (meaning_of o by w).effect.lines)
books_bound o by w branch place is =
    subst (λ m. DifferAtMost (amount o) (place_cash branch place w.lines) (place_cash branch place m.effect.lines)) (sym ((law_of o).said by w))
    (plan_bound branch place (amount o) (changed_by (form_of o) by w) w ((law_of o).cash is by w branch place))

-- ---- one operation

-- a release that is used up and a slip that is taken are no lines
effect_lines : (w : WorldLists) (x : Execution) → (effect w (executes x)).lines ≡ (books_meaning w x).effect.lines
effect_lines w x = go (slip_named x == 0) (leave_of (grounds w x))
  where
    after : WorldLists
    after = (books_meaning w x).effect

    go : (b : Bool) (l : Authorization)
        → (if b then used_by l (asker x.who) after else written (write.Slip (slip_of x (books_meaning w x).reply.bytes)) (used_by l (asker x.who) after)).lines ≡ after.lines
    go true leave.Triple = refl
    go true (leave.Release number) = refl
    go false leave.Triple = refl
    go false (leave.Release number) = refl

step_bound : (w : WorldLists) (x : Execution) (branch place : ℕ) → is_drawer_off x.op ≡ false
    → DifferAtMost (amount x.op) (place_cash branch place w.lines) (place_cash branch place (step w (executes x)).lines)
step_bound w x branch place is = go (repeated w (executes x)) (first w (executes x))
  where
    stays : DifferAtMost (amount x.op) (place_cash branch place w.lines) (place_cash branch place w.lines)
    stays = differ_by_none (amount x.op) (place_cash branch place w.lines)

    go : (kept : Option (List ℕ)) (r : Option Rule)
        → DifferAtMost (amount x.op) (place_cash branch place w.lines) (place_cash branch place (unless_repeated kept (if_allowed r (effect w (executes x)) w) w).lines)
    go None None =
        subst (λ ls. DifferAtMost (amount x.op) (place_cash branch place w.lines) (place_cash branch place ls)) (sym (effect_lines w x)) (books_bound x.op (signature_of x) w branch place is)
    go None (Some r) = stays
    go (Some kept) r = stays

-- the cash of a place is that of its lines, but for the opening of the vault, which stays
same_opening : (most : ℕ) (before after opened opening : ℤ) → opened ≡ opening → DifferAtMost most before after → DifferAtMost most (opening +ℤ before) (opened +ℤ after)
same_opening most before after opened opening same within =
    same_most most ((opened +ℤ after) +ℤ neg_ℤ (opening +ℤ before)) (after +ℤ neg_ℤ before) (both before after opened opening same) within
  where
    both : (before after opened opening : ℤ) → opened ≡ opening → (opened +ℤ after) +ℤ neg_ℤ (opening +ℤ before) ≡ after +ℤ neg_ℤ before
    both before after opened opening same = omega (arith, ints)

opening_of : (b : Bool) (before after : ℤ) → after ≡ before → (if b then after else pos 0) ≡ (if b then before else pos 0)
opening_of true before after same = same
opening_of false before after same = refl

released_bound : (r : Releasable) → amount (op_of r) ≤ amount_of_releasable r
released_bound (releasable.Post post) = omega arith
released_bound (releasable.Transfer transfer) = omega arith
released_bound (releasable.Correct correct) = omega arith
released_bound (releasable.DrawerOn form) = omega arith
released_bound (releasable.MoveCash m) = omega arith

pub amounts_bound : AmountsBound
amounts_bound w x checks proper =
    let made : Marked = record { request = executes x; mark = None } in
    let after : WorldLists = step w (executes x) in
    let here = one_request w made checks (λ is. proper) in
    let accepted : Bool = is_accepted w made in
    let moved : Moves = if accepted then moves_of x.op else moves_nothing in
    record {
      branches = λ branch.
          added_at_most (amount x.op) (branch_balance w branch) (branch_balance after branch) (moved.branches branch) (here.branches branch)
          (if_moved (λ m. m.branches branch) accepted (moves_of x.op) (amount x.op) refl ((law_of x.op).moves.branches branch));
      tellers = λ teller.
          added_at_most (amount x.op) (teller_balance w teller) (teller_balance after teller) (moved.tellers teller) (here.tellers teller)
          (if_moved (λ m. m.tellers teller) accepted (moves_of x.op) (amount x.op) refl ((law_of x.op).moves.tellers teller));
      accounts = λ account.
          added_at_most (amount x.op) (account_balance w account) (account_balance after account) (moved.accounts account) (here.accounts account)
          (if_moved (λ m. m.accounts account) accepted (moves_of x.op) (amount x.op) refl ((law_of x.op).moves.accounts account));
      cash = λ is branch place.
          same_opening (amount x.op) (place_cash branch place w.lines) (place_cash branch place after.lines)
          (if place == 0 then vault_opening branch after.branches else pos 0) (if place == 0 then vault_opening branch w.branches else pos 0)
          (opening_of (place == 0) (vault_opening branch w.branches) (vault_opening branch after.branches) (here.vaults branch)) (step_bound w x branch place is);
      released = λ form is. subst (λ o. amount (op_of form.operation) ≤ amount o) (sym is) (released_bound form.operation);
      floor = λ form is. subst (λ o. unsigned_abs form.floor ≤ amount o) (sym is) (abs_itself form.floor);
    }
