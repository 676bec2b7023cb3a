-- An account that no rule denies may come next, and its home has room for it: so it keeps the books.
use Rattle.std.proofs.Common.{◌≡◌, ◌≢◌, ℕ, ◌+◌, ◌≤◌, false, refl, ap, sym, ◌∙◌, subst, ◌==◌, Option, Some, None, Contains}
use Rattle.std.specs.Prelude.{is_none, is_some, nat_le, option_map}
use Rattle.std.specs.Option.{option_map_or}
use Rattle.std.proofs.lemmas.Bool.{eq-eqb, false≢true}
use Rattle.bank_books.specs.Balances.{account_count, account_row, branch_row}
use Rattle.bank_books.specs.declared.rows.Account.{Account}
use Rattle.bank_books.specs.Keys.{branch_key}
use Rattle.bank_books.specs.Records.{account_record_of, branch_record, branch_record_of}
use Rattle.bank_books.specs.WorldLists.{WorldLists}
use Rattle.book_laws.specs.Next.{IsNextAccount}
use Rattle.book_laws.proofs.AccountAdded.{account_keeps_books}
use Rattle.keyed_rows.proofs.Rows.{found_row, none_passes}
use Rattle.rule_tests.proofs.RuleTests.{one_fits, passed_by, source_of}
use Rattle.bank_books.specs.declared.rows.Branch.{Branch}
use Rattle.counter_ops.specs.NewAccount.{IsNewAccount}
use Rattle.counter_ops.specs.declared.new_account.NewAccount.{NewAccount}
use Rattle.bank_meaning.specs.Laws.{NewAccountKeepsBooks}
use Rattle.bank_meaning.specs.NewAccount.{first_against_new_account, opened, opening_rows}
use Rattle.bank_meaning.specs.declared.opening_rows.OpeningRows.{OpeningRows}

-- ---- what the rules say

record IsAllowed (rows : OpeningRows) : Type 0 where
  pub known : is_none rows.homed ≡ false
  pub free : is_some rows.account ≡ false
  pub room : option_map_or (λ n. nat_le 100000 n) rows.homed false ≡ false

is_allowed : (rows : OpeningRows) → first_against_new_account rows ≡ None → IsAllowed rows
is_allowed rows none =
    let known = passed_by (is_none rows.homed) _ _ none in
    let free = passed_by (is_some rows.account) _ _ known.1 in
    let room = passed_by (option_map_or (λ n. nat_le 100000 n) rows.homed false) _ _ free.1 in
    record { known = known.0; free = free.0; room = room.0 }

no_source : {A B : Type 0} (f : A → B) (o : Option A) → is_some (option_map f o) ≡ false → o ≡ None
no_source f None none = refl
no_source f (Some a) none = absurd cc

-- no account has the key of one that is not found
key_is_free : (w : WorldLists) (key : ℕ) → account_row key w.accounts ≡ None → (row : Account) → Contains w.accounts row → row.account ≢ key
key_is_free w key none row there same =
    false≢true (sym (none_passes (λ r. r.account == key) w.accounts row none there) ∙ eq-eqb row.account key same)

-- the branch that it names, and that it has room
branch_there : (w : WorldLists) (form : NewAccount) → IsAllowed (opening_rows w form) → (b : Branch) × (branch_row form.branch w.branches ≡ Some b)
branch_there w form allowed =
    let record_of = source_of (λ b. b.accounts) (branch_record w form.branch) allowed.known in
    source_of (branch_record_of w) (branch_row form.branch w.branches) (ap is_none record_of.1)

-- the account may come next
pub opened_is_next : (w : WorldLists) (form : NewAccount) → IsNewAccount form → first_against_new_account (opening_rows w form) ≡ None → IsNextAccount w (opened form)
opened_is_next w form ranges none =
    let allowed = is_allowed (opening_rows w form) none in
    let branch = branch_there w form allowed in
    let there = found_row branch_key form.branch w.branches branch.0 branch.1 in
    record {
      sound = record { key = ranges.account; home = (branch.0, there); floor = ranges.floor; opening = ranges.floor.1 };
      free = key_is_free w form.account (no_source (account_record_of w) (account_row form.account w.accounts) allowed.free);
      empty = refl;
    }

-- ---- the law

pub new_account_keeps_books : NewAccountKeepsBooks
new_account_keeps_books w form books ranges none =
    let allowed = is_allowed (opening_rows w form) none in
    let branch = branch_there w form allowed in
    let there = found_row branch_key form.branch w.branches branch.0 branch.1 in
    let room = subst (λ o. option_map_or (λ n. nat_le 100000 n) (option_map (λ b. b.accounts) (option_map (branch_record_of w) o)) false ≡ false) branch.1 allowed.room in
    account_keeps_books w (opened form) (opened_is_next w form ranges none) (subst (λ k. account_count k w.accounts + 1 ≤ 100000) there.1 (one_fits 100000 _ room)) books
