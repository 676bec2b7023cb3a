-- Where the rows are as the rules of the books ask, and the books hold with what an operation adds, their tests let it pass.
use Rattle.std.proofs.Common.{◌≡◌, ◌≢◌, ℕ, ◌+◌, ◌≤◌, ◌==◌, ℤ, pos, ◌+ℤ◌, Bool, true, false, cond, not, Option, Some, None, refl, ap, sym, ◌∙◌, subst, arith, int_lt, Contains, List, [], ◌&&◌, ◌∷◌}
use Rattle.std.specs.Prelude.{◌≤ℤ◌, if◌then◌else◌, nat_le}
use Rattle.std.proofs.lemmas.Bool.{and_from, eq-eqb, le-ltb, lt-leb, ne_eqb}
use Rattle.std.proofs.lemmas.Int.{ints}
use Rattle.money.specs.Range.{IsCents, is_cents, max_cents, min_cents}
use Rattle.bank_terms.specs.Limits.{max_key}
use Rattle.row_members.specs.Ranges.{IsCash, IsKey}
use Rattle.bank_books.specs.Books.{Books}
use Rattle.bank_books.specs.WorldLists.{WorldLists}
use Rattle.book_laws.proofs.BooksSplit.{books_parts}
use Rattle.book_laws.specs.Limits.{AreWithinLimits, IsAccountWithin, IsBranchWithin}
use Rattle.rule_tests.specs.Rules.{is_full, account_in_range, account_is_full, account_keeps_floor, drawer_covers, drawer_is_held_by, teller_is_of, vault_covers, ledger_is_full}
use Rattle.bank_books.specs.declared.rows.Account.{Account}
use Rattle.std.specs.List.{AllByRecursion}
use Rattle.bank_books.specs.declared.rows.Branch.{Branch}
use Rattle.bank_books.specs.declared.records.BranchRecord.{BranchRecord}
use Rattle.bank_books.specs.declared.rows.CashLine.{CashLine}
use Rattle.bank_meaning.specs.JudgedRows.{DrawerCovers, HasDrawer, HoldsDrawer, KeepsFloor, PlaceCovers}
use Rattle.bank_books.specs.declared.rows.Entry.{Entry}
use Rattle.bank_books.specs.declared.rows.Teller.{Teller}
use Rattle.bank_books.specs.Balances.{account_balance, account_deltas, branch_row}
use Rattle.book_laws.specs.Moves.{account_entered, branch_entered, branch_lined, teller_entered}
use Rattle.bank_books.specs.Keys.{account_key, branch_key, teller_key}
use Rattle.bank_books.specs.Records.{account_record_of, branch_record_of, teller_record_of}
use Rattle.bank_books.specs.Cash.{cash_of, holder_of, place_cash}
use Rattle.book_laws.proofs.EntryMoved.{entry_moves}
use Rattle.keyed_rows.proofs.Rows.{found_row}
use Rattle.book_laws.proofs.LineAdded.{line_moves, share_moves}
use Rattle.std.specs.Option.{option_map_or}
use Rattle.bank_books.specs.Effects.{written}
use Rattle.bank_books.specs.declared.row_write.RowWrite.TheVariants as write
use Rattle.book_laws.specs.Next.{lined}
use Rattle.rule_tests.specs.declared.cash_book.CashBook.{CashBook}
use Rattle.postings.proofs.CashedEntry.{HasCounterRoom, cash_of_entry}
use Rattle.bank_books.specs.declared.records.AccountRecord.{AccountRecord}
use Rattle.rule_tests.specs.BranchParts.{ledger_of}

-- ---- rules in their order

-- this one does not deny, and neither do those after it
pub none_by : {R : Type 0} (b : Bool) (r : R) (rest : Option R) → b ≡ false → rest ≡ None → cond b (Some r) rest ≡ None
none_by b r rest passes none = ap (λ c. cond c (Some r) rest) passes ∙ none

-- ---- numbers within their limits

pub is_at_least : (a b : ℤ) → b ≤ℤ a → not (int_lt a b) ≡ true
is_at_least a b least = grind (arith, ints)

pub is_money : (z : ℤ) → IsCents z → is_cents z ≡ true
is_money z cents = and_from (not (int_lt z min_cents)) (not (int_lt max_cents z)) (is_at_least z min_cents cents.0) (is_at_least max_cents z cents.1)

pub number_is_left : (count more : ℕ) → count + more ≤ max_key → is_full count more ≡ false
number_is_left count more fits = le-ltb max_key (count + more) fits

pub room_is_left : (most count : ℕ) → count + 1 ≤ most → nat_le most count ≡ false
room_is_left most count fits = lt-leb most count (omega arith)

pub money_of_cash : (z : ℤ) → IsCash z → IsCents z
money_of_cash z cash = (omega (arith, ints, cash.0), cash.1)

pub limits_of : (w : WorldLists) → Books w → AreWithinLimits w
limits_of w books = ((books_parts w).0 books).1

pub money_as : (a b : ℤ) → IsCents a → a ≡ b → is_cents b ≡ true
money_as a b cents same = is_money b (subst IsCents same cents)

pub cash_as : (a b : ℤ) → IsCash a → a ≡ b → is_cents b ≡ true
cash_as a b cash same = money_as a b (money_of_cash a cash) same

-- ---- who holds a drawer, and what it holds

pub is_of_branch : (w : WorldLists) (teller branch : ℕ) (holder : Option ℕ) (d : HasDrawer w teller branch holder) → teller_is_of (Some (teller_record_of w d.row)) branch ≡ true
is_of_branch w teller branch holder d = eq-eqb d.row.branch branch d.of_branch

pub key_of_drawer : (w : WorldLists) (teller branch : ℕ) (holder : Option ℕ) (d : HasDrawer w teller branch holder) → Contains w.tellers d.row × (d.row.teller ≡ teller)
key_of_drawer w teller branch holder d = found_row teller_key teller w.tellers d.row d.there

pub holder_is : (w : WorldLists) (teller branch : ℕ) (holder : Option ℕ) (d : HasDrawer w teller branch holder) → holder_of w.lines d.row.teller ≡ holder
holder_is w teller branch holder d = ap (holder_of w.lines) (key_of_drawer w teller branch holder d).1 ∙ d.holder

pub holds_it : (w : WorldLists) (user teller branch : ℕ) (d : HoldsDrawer w user teller branch) → drawer_is_held_by (Some (teller_record_of w d.row)) user ≡ true
holds_it w user teller branch d =
    ap (λ (o : Option ℕ). option_map_or (λ holder. holder == user) o false) (holder_is w teller branch (Some user) d) ∙ eq-eqb user user refl

-- a drawer's number is no vault's
pub is_no_vault : (w : WorldLists) (teller branch : ℕ) (holder : Option ℕ) → Books w → HasDrawer w teller branch holder → teller ≢ 0
is_no_vault w teller branch holder books d none =
    let found = key_of_drawer w teller branch holder d in
    let key : IsKey d.row.teller = (((books_parts w).0 books).0.rows.tellers.each d.row found.0).key in
    not_zero d.row.teller key (found.1 ∙ none)
  where
    not_zero : (n : ℕ) → IsKey n → n ≢ 0
    not_zero n key none = omega (arith, key.0)

pub covers_it : (w : WorldLists) (teller branch : ℕ) (holder : Option ℕ) (added : ℤ) (d : HasDrawer w teller branch holder) → DrawerCovers w teller branch added
    → drawer_covers (Some (teller_record_of w d.row)) added ≡ true
covers_it w teller branch holder added d covers =
    let found = key_of_drawer w teller branch holder d in
    is_at_least ((teller_record_of w d.row).cash +ℤ added) (pos 0)
    (subst (λ b. pos 0 ≤ℤ (place_cash b d.row.teller w.lines +ℤ added)) (sym d.of_branch) (subst (λ t. pos 0 ≤ℤ (place_cash branch t w.lines +ℤ added)) (sym found.1) covers))

-- what the vault holds
pub vault_is : (w : WorldLists) (branch : ℕ) (row : Branch) → branch_row branch w.branches ≡ Some row → cash_of w branch 0 ≡ (branch_record_of w row).vault
vault_is w branch row there =
    ap (λ (o : Option Branch). option_map_or (λ r. r.cash) o (pos 0) +ℤ place_cash branch 0 w.lines) there
    ∙ ap (λ b. row.cash +ℤ place_cash b 0 w.lines) (sym (found_row branch_key branch w.branches row there).1)

pub vault_covers_it : (w : WorldLists) (branch : ℕ) (row : Branch) (added : ℤ) → branch_row branch w.branches ≡ Some row → PlaceCovers w 0 branch added → vault_covers (Some (branch_record_of w row).vault) added ≡ true
vault_covers_it w branch row added there covers = is_at_least ((branch_record_of w row).vault +ℤ added) (pos 0) (subst (λ z. pos 0 ≤ℤ (z +ℤ added)) (vault_is w branch row there) covers)

-- an account at its floor or above
pub is_above_floor : (w : WorldLists) (account : ℕ) (added : ℤ) (k : KeepsFloor w account added) → account_keeps_floor (Some (account_record_of w k.row)) added ≡ true
is_above_floor w account added k =
    let found = found_row account_key account w.accounts k.row k.there in
    let balance : account_balance w account ≡ (account_record_of w k.row).balance =
    ap (λ (o : Option Account). option_map_or (λ r. r.opening) o (pos 0) +ℤ account_deltas account w.entries) k.there
    ∙ ap (λ a. k.row.opening +ℤ account_deltas a w.entries) (sym found.1) in
    is_at_least ((account_record_of w k.row).balance +ℤ added) k.row.floor (subst (λ z. k.row.floor ≤ℤ (z +ℤ added)) balance k.floor)

-- ---- what rows come to with one row more

pub branch_with_entry : (w : WorldLists) (e : Entry) (row : Branch) → e.branch ≡ row.branch → branch_record_of (written (write.Entry e) w) row ≡ branch_entered e.delta (branch_record_of w row)
branch_with_entry w e row of =
    (entry_moves w e).branches row ∙ ap (λ b. if b then branch_entered e.delta (branch_record_of w row) else branch_record_of w row) (eq-eqb e.branch row.branch of)

pub teller_with_entry : (w : WorldLists) (e : Entry) (row : Teller) → e.teller ≡ row.teller → teller_record_of (written (write.Entry e) w) row ≡ teller_entered e.delta (teller_record_of w row)
teller_with_entry w e row of =
    (entry_moves w e).tellers row ∙ ap (λ b. if b then teller_entered e.delta (teller_record_of w row) else teller_record_of w row) (eq-eqb e.teller row.teller of)

pub account_with_entry : (w : WorldLists) (e : Entry) (row : Account) → e.account ≡ row.account → account_record_of (written (write.Entry e) w) row ≡ account_entered e.delta (account_record_of w row)
account_with_entry w e row of =
    (entry_moves w e).accounts row ∙ ap (λ b. if b then account_entered e.delta (account_record_of w row) else account_record_of w row) (eq-eqb e.account row.account of)

pub account_beside_entry : (w : WorldLists) (e : Entry) (row : Account) → e.account ≢ row.account → account_record_of (written (write.Entry e) w) row ≡ account_record_of w row
account_beside_entry w e row apart =
    (entry_moves w e).accounts row ∙ ap (λ b. if b then account_entered e.delta (account_record_of w row) else account_record_of w row) (ne_eqb e.account row.account apart)

-- an account that the next entry is at, where it stays within its limits
pub account_has_room : (w v : WorldLists) (row : Account) (added : ℤ) → Books v → Contains v.accounts row → account_record_of v row ≡ account_entered added (account_record_of w row)
    → (account_in_range (Some (account_record_of w row)) added ≡ true) × (account_is_full (Some (account_record_of w row)) ≡ false)
account_has_room w v row added books there is =
    let within = subst IsAccountWithin is ((limits_of v books).accounts row there) in
    (is_money ((account_record_of w row).balance +ℤ added) within.balance, number_is_left (account_record_of w row).turns 1 within.turns)

-- ---- what they come to with more lines

abbrev pub AreOf : ℕ → List CashLine → Type 0
AreOf branch lines = AllByRecursion (λ l. l.branch ≡ branch) lines

abbrev pub branch_with : List CashLine → BranchRecord → BranchRecord
branch_with [] b = b
branch_with (l ∷ lines) b = branch_with lines (branch_lined l b)

abbrev pub place_with : ℕ → List CashLine → ℤ → ℤ
place_with place [] cash = cash
place_with place (l ∷ lines) cash = place_with place lines (cash +ℤ (if l.place == place then l.amount else pos 0))

pub branch_with_lines : (w : WorldLists) (lines : List CashLine) (row : Branch) → AreOf row.branch lines → branch_record_of (lined lines w) row ≡ branch_with lines (branch_record_of w row)
branch_with_lines w [] row of = refl
branch_with_lines w (l ∷ lines) row of =
    branch_with_lines (written (write.Line l) w) lines row of.1
    ∙ ap (branch_with lines) ((line_moves w l).branches row ∙ ap (λ b. if b then branch_lined l (branch_record_of w row) else branch_record_of w row) (eq-eqb l.branch row.branch of.0))

pub place_with_lines : (w : WorldLists) (lines : List CashLine) (branch place : ℕ) → AreOf branch lines → place_cash branch place (lined lines w).lines ≡ place_with place lines (place_cash branch place w.lines)
place_with_lines w [] branch place of = refl
place_with_lines w (l ∷ lines) branch place of =
    place_with_lines (written (write.Line l) w) lines branch place of.1
    ∙ ap (place_with place lines) (share_moves l w.lines branch (λ x. x.place == place) ∙ ap (λ b. place_cash branch place w.lines +ℤ (if b && l.place == place then l.amount else pos 0)) (eq-eqb l.branch branch of.0))

-- of two amounts the first, or the second, or neither is added
pub first_alone : (z x y : ℤ) (f s : Bool) → f ≡ true → s ≡ false → (z +ℤ (if f then x else pos 0)) +ℤ (if s then y else pos 0) ≡ z +ℤ x
first_alone z x y true true is not_this = absurd cc
first_alone z x y true false is not_this = omega (arith, ints)
first_alone z x y false s is not_this = absurd cc

pub second_alone : (z x y : ℤ) (f s : Bool) → f ≡ false → s ≡ true → (z +ℤ (if f then x else pos 0)) +ℤ (if s then y else pos 0) ≡ z +ℤ y
second_alone z x y true s not_this is = absurd cc
second_alone z x y false true not_this is = omega (arith, ints)
second_alone z x y false false not_this is = absurd cc

-- ---- an entry with the line of its cash

-- with both the branch, the teller and the drawer stay within their limits
pub counter_has_room : (w : WorldLists) (e : Entry) (book : CashBook) (home : Branch) (t : Teller) → Contains w.branches home → Contains w.tellers t → e.branch ≡ home.branch → e.branch ≡ t.branch
    → e.teller ≡ t.teller → e.teller ≢ 0 → drawer_covers (Some (teller_record_of w t)) e.delta ≡ true → Books (lined (cash_of_entry book e ∷ []) (written (write.Entry e) w))
    → HasCounterRoom (teller_record_of w t) (branch_record_of w home) e.delta
counter_has_room w e book home t home_there there of_home of_branch of_teller drawer covers books =
    let l = cash_of_entry book e in
    let entered = written (write.Entry e) w in
    let limits = limits_of (lined (l ∷ []) entered) books in
    let b = branch_record_of w home in
    let is = branch_with_lines entered (l ∷ []) home (of_home, tt) ∙ ap (branch_lined l) (branch_with_entry w e home of_home) in
    let within = subst IsBranchWithin is (limits.branches home home_there) in
    let balance = subst IsCents (ap (λ r. r.balance) (teller_with_entry w e t of_teller)) (limits.tellers t there).balance in
    let cash = subst IsCash (place_with_lines entered (l ∷ []) t.branch t.teller (of_branch, tt)) (limits.tellers t there).cash in
    let with_delta = λ (z : ℤ) (c : Bool) (is : c ≡ true). ap (λ c. z +ℤ (if c then e.delta else pos 0)) is in
    record {
      covered = covers;
      teller = is_money _ balance;
      ledger = and_from _ _ (is_money _ within.history.balance_within) (is_money _ within.history.history_within);
      drawer = cash_as _ _ cash (with_delta (teller_record_of w t).cash (e.teller == t.teller) (eq-eqb e.teller t.teller of_teller));
      drawers = money_as _ _ within.cash.drawers_within (with_delta b.drawers (not (e.teller == 0)) (ap not (ne_eqb e.teller 0 drawer)));
      cash_entries = is_money _ within.cash.cash_entries_within;
      entries = number_is_left b.entries 1 within.history.entries_within;
      lines = number_is_left b.lines 1 within.cash.lines_within;
    }

-- ---- two entries at one branch and at two accounts

-- with both the accounts stay within their limits, and the branch has the numbers
pub record HaveLegsRoom (source target : AccountRecord) (branch : BranchRecord) (first second : ℤ) : Type 0 where
  pub source_in_range : account_in_range (Some source) first ≡ true
  pub target_in_range : account_in_range (Some target) second ≡ true
  pub source_turns : account_is_full (Some source) ≡ false
  pub target_turns : account_is_full (Some target) ≡ false
  pub entries : ledger_is_full (Some (ledger_of branch)) 2 ≡ false

pub legs_have_room : (w : WorldLists) (first second : Entry) (home : Branch) (source target : Account) → Contains w.branches home → Contains w.accounts source → Contains w.accounts target
    → first.branch ≡ home.branch → second.branch ≡ home.branch → first.account ≡ source.account → second.account ≡ target.account → first.account ≢ second.account
    → Books (written (write.Entry second) (written (write.Entry first) w))
    → HaveLegsRoom (account_record_of w source) (account_record_of w target) (branch_record_of w home) first.delta second.delta
legs_have_room w first second home source target home_there source_there target_there first_home second_home first_account second_account apart books =
    let entered = written (write.Entry first) w in
    let after = written (write.Entry second) entered in
    let at_source = account_has_room w after source first.delta books source_there
    (account_beside_entry entered second source (λ same. apart (first_account ∙ sym same)) ∙ account_with_entry w first source first_account) in
    let at_target = account_has_room w after target second.delta books target_there
    (account_with_entry entered second target second_account ∙ ap (account_entered second.delta) (account_beside_entry w first target (λ same. apart (same ∙ sym second_account)))) in
    let is = branch_with_entry entered second home second_home ∙ ap (branch_entered second.delta) (branch_with_entry w first home first_home) in
    let within = (subst IsBranchWithin is ((limits_of after books).branches home home_there)).history in
    record {
      source_in_range = at_source.0;
      target_in_range = at_target.0;
      source_turns = at_source.1;
      target_turns = at_target.1;
      entries = number_is_left (branch_record_of w home).entries 2 (omega (arith, within.entries_within));
    }
