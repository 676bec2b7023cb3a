-- What is so of the rows where no rule of the books denies an operation.
use Rattle.bank_books.specs.Balances.{account_balance, account_deltas, account_row, branch_row, teller_row}
use Rattle.bank_books.specs.Cash.{holder_of, place_cash, vault_opening}
use Rattle.bank_books.specs.Keys.{account_key, branch_key, teller_key}
use Rattle.bank_books.specs.Records.{account_record, account_record_of, branch_record, branch_record_of, teller_record, teller_record_of}
use Rattle.bank_books.specs.WorldLists.{WorldLists}
use Rattle.bank_books.specs.declared.rows.Account.{Account}
use Rattle.bank_books.specs.declared.rows.Branch.{Branch}
use Rattle.bank_books.specs.declared.rows.Teller.{Teller}
use Rattle.bank_meaning.specs.JudgedRows.{DrawerCovers, HasAccount, HasBranch, HasDrawer, HoldsDrawer, KeepsFloor, PlaceCovers}
use Rattle.bank_meaning.specs.Requests.{denies, executes}
use Rattle.bank_meaning.specs.declared.who.Who.{Who}
use Rattle.bank_terms.specs.declared.rule.Rule.{Rule}
use Rattle.counter_ops.specs.declared.op.Op.{Op}
use Rattle.keyed_rows.proofs.Rows.{found_row}
use Rattle.rule_tests.proofs.RuleTests.{at_least, source_of}
use Rattle.rule_tests.specs.BranchParts.{cash_book_of, ledger_of}
use Rattle.rule_tests.specs.Rules.{account_keeps_floor, drawer_covers, drawer_is_held_by, teller_is_of, vault_covers}
use Rattle.std.proofs.Common.{Bool, None, Option, Some, ap, false, not, pos, refl, subst, sym, true, ℕ, ℤ, ◌+ℤ◌, ◌==◌, ◌∙◌, ◌≡◌}
use Rattle.std.proofs.lemmas.Bool.{eqb-true, not-false}
use Rattle.std.specs.Option.{option_map_or}
use Rattle.std.specs.Prelude.{is_none, is_some, option_map, ◌≤ℤ◌}

-- ---- rows that are there

pub branch_there : (w : WorldLists) (key : ℕ) → is_none (branch_record w key) ≡ false → HasBranch w key
branch_there w key is = source_of (branch_record_of w) (branch_row key w.branches) is

pub branch_of_ledger : (w : WorldLists) (key : ℕ) → is_none (option_map ledger_of (branch_record w key)) ≡ false → HasBranch w key
branch_of_ledger w key is =
    let row = source_of ledger_of (branch_record w key) is in
    branch_there w key (ap is_none row.1)

pub branch_of_book : (w : WorldLists) (key : ℕ) → is_none (option_map cash_book_of (branch_record w key)) ≡ false → HasBranch w key
branch_of_book w key is =
    let row = source_of cash_book_of (branch_record w key) is in
    branch_there w key (ap is_none row.1)

pub account_there : (w : WorldLists) (key : ℕ) → is_none (account_record w key) ≡ false → HasAccount w key
account_there w key is = source_of (account_record_of w) (account_row key w.accounts) is

-- ---- drawers

pub is_held_by : (o : Option ℕ) (user : ℕ) → option_map_or (λ holder. holder == user) o false ≡ true → o ≡ Some user
is_held_by None user is = absurd cc
is_held_by (Some holder) user is = ap Some (eqb-true holder user is)

pub no_holder : (o : Option ℕ) → is_some o ≡ false → o ≡ None
no_holder None is = refl
no_holder (Some holder) is = absurd cc

-- the teller of the branch, where its row is there
pub record IsTeller (w : WorldLists) (teller branch : ℕ) : Type 0 where
  pub row : Teller
  pub there : teller_row teller w.tellers ≡ Some row
  pub key : row.teller ≡ teller
  pub of_branch : row.branch ≡ branch

pub a_teller : (w : WorldLists) (teller branch : ℕ) → is_none (teller_record w teller) ≡ false → teller_is_of (teller_record w teller) branch ≡ true → IsTeller w teller branch
a_teller w teller branch known of =
    let found = source_of (teller_record_of w) (teller_row teller w.tellers) known in
    record {
      row = found.0;
      there = found.1;
      key = (found_row teller_key teller w.tellers found.0 found.1).1;
      of_branch = eqb-true found.0.branch branch (subst (λ o. teller_is_of (option_map (teller_record_of w) o) branch ≡ true) found.1 of);
    }

-- what a test of what is made of a row says, where the row is there
pub at_row : {A B : Type 0} (f : A → B) (test : Option B → Bool) (o : Option A) (row : A) (b : Bool) → o ≡ Some row → test (option_map f o) ≡ b → test (Some (f row)) ≡ b
at_row f test o row b is passes = subst (λ z. test (option_map f z) ≡ b) is passes

pub has_drawer : (w : WorldLists) (teller branch : ℕ) (holder : Option ℕ) (t : IsTeller w teller branch) → holder_of w.lines t.row.teller ≡ holder → HasDrawer w teller branch holder
has_drawer w teller branch holder t is =
    record { row = t.row; there = t.there; of_branch = t.of_branch; holder = ap (holder_of w.lines) (sym t.key) ∙ is }

pub holds_drawer : (w : WorldLists) (user teller branch : ℕ) → is_none (teller_record w teller) ≡ false → not (teller_is_of (teller_record w teller) branch) ≡ false
    → not (drawer_is_held_by (teller_record w teller) user) ≡ false → HoldsDrawer w user teller branch
holds_drawer w user teller branch known of held =
    let t = a_teller w teller branch known (not-false _ of) in
    has_drawer w teller branch (Some user) t
    (is_held_by (holder_of w.lines t.row.teller) user (at_row (teller_record_of w) (λ o. drawer_is_held_by o user) (teller_row teller w.tellers) t.row true t.there (not-false _ held)))

-- ---- cash and floors

pub drawer_covered : (w : WorldLists) (user teller branch : ℕ) (added : ℤ) → HoldsDrawer w user teller branch → drawer_covers (teller_record w teller) added ≡ true → DrawerCovers w teller branch added
drawer_covered w user teller branch added drawer covers =
    let key = (found_row teller_key teller w.tellers drawer.row drawer.there).1 in
    let enough = at_least (place_cash drawer.row.branch drawer.row.teller w.lines +ℤ added) (pos 0)
    (at_row (teller_record_of w) (λ o. drawer_covers o added) (teller_row teller w.tellers) drawer.row true drawer.there covers) in
    subst (λ b. pos 0 ≤ℤ (place_cash b teller w.lines +ℤ added)) drawer.of_branch
    (subst (λ t. pos 0 ≤ℤ (place_cash drawer.row.branch t w.lines +ℤ added)) key enough)

pub vault_covered : (w : WorldLists) (branch : ℕ) (added : ℤ) → HasBranch w branch → vault_covers (option_map (λ b. b.vault) (branch_record w branch)) added ≡ true → PlaceCovers w 0 branch added
vault_covered w branch added there covers =
    let row : Branch = there.0 in
    let key = (found_row branch_key branch w.branches row there.1).1 in
    let enough = at_least ((row.cash +ℤ place_cash row.branch 0 w.lines) +ℤ added) (pos 0)
    (at_row (branch_record_of w) (λ o. vault_covers (option_map (λ b. b.vault) o) added) (branch_row branch w.branches) row true there.1 covers) in
    let opening : vault_opening branch w.branches ≡ row.cash = ap (λ (o : Option Branch). option_map_or (λ r. r.cash) o (pos 0)) there.1 in
    subst (λ z. pos 0 ≤ℤ ((z +ℤ place_cash branch 0 w.lines) +ℤ added)) (sym opening) (subst (λ b. pos 0 ≤ℤ ((row.cash +ℤ place_cash b 0 w.lines) +ℤ added)) key enough)

pub keeps_floor : (w : WorldLists) (account : ℕ) (added : ℤ) → is_none (account_record w account) ≡ false → account_keeps_floor (account_record w account) added ≡ true → KeepsFloor w account added
keeps_floor w account added known keeps =
    let found = account_there w account known in
    let row : Account = found.0 in
    let key = (found_row account_key account w.accounts row found.1).1 in
    let enough = at_least ((row.opening +ℤ account_deltas row.account w.entries) +ℤ added) row.floor
    (at_row (account_record_of w) (λ o. account_keeps_floor o added) (account_row account w.accounts) row true found.1 keeps) in
    let opening : account_balance w account ≡ row.opening +ℤ account_deltas account w.entries =
    ap (λ (o : Option Account). option_map_or (λ r. r.opening) o (pos 0) +ℤ account_deltas account w.entries) found.1 in
    record {
      row = row;
      there = found.1;
      floor = subst (λ z. row.floor ≤ℤ (z +ℤ added)) (sym opening) (subst (λ k. row.floor ≤ℤ ((row.opening +ℤ account_deltas k w.entries) +ℤ added)) key enough);
    }

-- ---- a post and a transfer

abbrev pub NoneDenies : WorldLists → Who → ℕ → Op → Type 0
NoneDenies w who moment o = (r : Rule) → denies r w (executes (record { who = who; moment = moment; op = o })) ≡ false

-- ---- a correction

-- ---- cash

-- ---- what is opened, given and closed
