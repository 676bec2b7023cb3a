-- What an entry moves, and the balance after it.
use Rattle.std.proofs.Common.{◌≡◌, ℕ, ◌+◌, ◌<◌, ◌≤◌, ℤ, pos, ◌+ℤ◌, List, map, Bool, true, false, refl, ap, arith, sym, ◌∙◌, ◌==◌, ◌&&◌, Contains, ◌⊎◌, inl, inr}
use Rattle.std.specs.Prelude.{if◌then◌else◌, nat_le}
use Rattle.std.proofs.lemmas.Bool.{and_left, and_right, cases_Bool, eq-eqb, eqb-true, le-leb, lt-leb, ne_eqb}
use Rattle.keyed_rows.specs.Ordered.{add_row}
use Rattle.keyed_rows.specs.Totals.{total}
use Rattle.bank_books.specs.Balances.{account_deltas, account_opening, branch_deltas, branch_opening, deltas_up_to, teller_deltas, teller_opening, turn_count}
use Rattle.bank_books.specs.Effects.{written}
use Rattle.bank_books.specs.Keys.{entry_key}
use Rattle.bank_books.specs.Records.{account_record_of, branch_record_of, entry_record_of, teller_record_of}
use Rattle.bank_books.specs.WorldLists.{WorldLists}
use Rattle.bank_books.specs.declared.records.AccountRecord.{AccountRecord}
use Rattle.bank_books.specs.declared.records.BranchRecord.{BranchRecord}
use Rattle.bank_books.specs.declared.row_write.RowWrite.TheVariants as write
use Rattle.bank_books.specs.declared.rows.Account.{Account}
use Rattle.bank_books.specs.declared.rows.Branch.{Branch}
use Rattle.bank_books.specs.declared.rows.Entry.{Entry}
use Rattle.bank_books.specs.declared.rows.Teller.{Teller}
use Rattle.book_laws.specs.Laws.{EntryMoves, EntryStandsLast}
use Rattle.book_laws.specs.Ledger.{IsOpenLedger}
use Rattle.book_laws.specs.Moves.{IsMovedAlone, account_entered, branch_entered, teller_entered}
use Rattle.book_laws.specs.Next.{IsNextEntry}
use Rattle.keyed_rows.proofs.Rows.{above, count_named, count_other, total_named, total_other, total_same}

-- ---- the numbers of one row

with_history : (b : BranchRecord) (balance balance' history history' : ℤ) (entries entries' : ℕ) → balance ≡ balance' → history ≡ history' → entries ≡ entries'
    → record b { balance = balance; history = history; entries = entries } ≡ record b { balance = balance'; history = history'; entries = entries' }
with_history b balance balance' history history' entries entries' p q r =
    ap (λ z. record b { balance = z; history = history; entries = entries }) p ∙ ap (λ z. record b { balance = balance'; history = z; entries = entries }) q
    ∙ ap (λ n. record b { balance = balance'; history = history'; entries = n }) r

with_turns : (a : AccountRecord) (balance balance' : ℤ) (turns turns' : ℕ) → balance ≡ balance' → turns ≡ turns'
    → record a { balance = balance; turns = turns } ≡ record a { balance = balance'; turns = turns' }
with_turns a balance balance' turns turns' p q = ap (λ z. record a { balance = z; turns = turns }) p ∙ ap (λ n. record a { balance = balance'; turns = n }) q

branch_moves : (w : WorldLists) (e : Entry) (row : Branch) (named : Bool) → (e.branch == row.branch) ≡ named
    → branch_record_of (written (write.Entry e) w) row ≡ (if named then branch_entered e.delta (branch_record_of w row) else branch_record_of w row)
branch_moves w e row true is =
    let more = total_named entry_key (λ x. x.branch == row.branch) (λ x. x.delta) e w.entries is in
    with_history (branch_record_of w row) _ _ _ _ _ _ (above row.opening (branch_deltas row.branch w.entries) (branch_deltas row.branch (add_row entry_key e w.entries)) e.delta more) more
    (count_named entry_key (λ x. x.branch == row.branch) e w.entries is)
branch_moves w e row false is =
    let same = total_other entry_key (λ x. x.branch == row.branch) (λ x. x.delta) e w.entries is in
    with_history (branch_record_of w row) _ _ _ _ _ _ (ap (λ d. row.opening +ℤ d) same) same (count_other entry_key (λ x. x.branch == row.branch) e w.entries is)

teller_moves : (w : WorldLists) (e : Entry) (row : Teller) (named : Bool) → (e.teller == row.teller) ≡ named
    → teller_record_of (written (write.Entry e) w) row ≡ (if named then teller_entered e.delta (teller_record_of w row) else teller_record_of w row)
teller_moves w e row true is =
    ap (λ z. record (teller_record_of w row) { balance = z })
    (above row.opening (teller_deltas row.teller w.entries) (teller_deltas row.teller (add_row entry_key e w.entries)) e.delta (total_named entry_key (λ x. x.teller == row.teller) (λ x. x.delta) e w.entries is))
teller_moves w e row false is =
    ap (λ d. record (teller_record_of w row) { balance = row.opening +ℤ d }) (total_other entry_key (λ x. x.teller == row.teller) (λ x. x.delta) e w.entries is)

account_moves : (w : WorldLists) (e : Entry) (row : Account) (named : Bool) → (e.account == row.account) ≡ named
    → account_record_of (written (write.Entry e) w) row ≡ (if named then account_entered e.delta (account_record_of w row) else account_record_of w row)
account_moves w e row true is =
    with_turns (account_record_of w row) _ _ _ _
    (above row.opening (account_deltas row.account w.entries) (account_deltas row.account (add_row entry_key e w.entries)) e.delta
    (total_named entry_key (λ x. x.account == row.account) (λ x. x.delta) e w.entries is)) (count_named entry_key (λ x. x.account == row.account) e w.entries is)
account_moves w e row false is =
    with_turns (account_record_of w row) _ _ _ _ (ap (λ d. row.opening +ℤ d) (total_other entry_key (λ x. x.account == row.account) (λ x. x.delta) e w.entries is))
    (count_other entry_key (λ x. x.account == row.account) e w.entries is)

-- ---- the balances by key

moves_alone : (opening : ℕ → ℤ) (of : Entry → ℕ) (e : Entry) (xs : List Entry) → IsMovedAlone (λ k. opening k +ℤ total (map (λ x. if of x == k then x.delta else pos 0) xs))
    (λ k. opening k +ℤ total (map (λ x. if of x == k then x.delta else pos 0) (add_row entry_key e xs))) (of e) e.delta
moves_alone opening of e xs = record {
  moved =
      above (opening (of e)) (total (map (λ x. if of x == of e then x.delta else pos 0) xs)) (total (map (λ x. if of x == of e then x.delta else pos 0) (add_row entry_key e xs))) e.delta
      (total_named entry_key (λ x. of x == of e) (λ x. x.delta) e xs (eq-eqb (of e) (of e) refl));
  kept = λ other apart. ap (λ d. opening other +ℤ d) (total_other entry_key (λ x. of x == other) (λ x. x.delta) e xs (ne_eqb (of e) other (λ same. apart (sym same))));
}

pub entry_moves : EntryMoves
entry_moves w e = record {
  branches = λ row. branch_moves w e row (e.branch == row.branch) refl;
  tellers = λ row. teller_moves w e row (e.teller == row.teller) refl;
  accounts = λ row. account_moves w e row (e.account == row.account) refl;
  branch_balances = moves_alone (λ k. branch_opening k w.branches) (λ x. x.branch) e w.entries;
  teller_balances = moves_alone (λ k. teller_opening k w.tellers) (λ x. x.teller) e w.entries;
  account_balances = moves_alone (λ k. account_opening k w.accounts) (λ x. x.account) e w.entries;
  cash = λ branch place. refl;
}

-- ---- the balances after entries

earlier_turn : (n m c : ℕ) → n ≤ c → m ≡ c + 1 → n < m
earlier_turn n m c below is = omega arith

up_to_turn : (n m c : ℕ) → n ≤ c → m ≡ c + 1 → n ≤ m
up_to_turn n m c below is = omega arith

-- those after earlier entries do not move
earlier : (w : WorldLists) (e : Entry) → IsNextEntry w e → IsOpenLedger w → (row : Entry) → Contains w.entries row
    → deltas_up_to row.account row.turn (add_row entry_key e w.entries) ≡ deltas_up_to row.account row.turn w.entries
earlier w e next ledger row there =
    total_other entry_key (λ x. x.account == row.account && nat_le x.turn row.turn) (λ x. x.delta) e w.entries (not_counted (cases_Bool (e.account == row.account)))
  where
    not_counted : ((e.account == row.account) ≡ true) ⊎ ((e.account == row.account) ≡ false) → (e.account == row.account && nat_le e.turn row.turn) ≡ false
    not_counted (inl named) =
        and_right (e.account == row.account) (nat_le e.turn row.turn) (lt-leb e.turn row.turn
        (earlier_turn row.turn e.turn (turn_count e.account w.entries) ((ledger.entries.turns e.account).high row there (sym (eqb-true e.account row.account named))) next.turn))
    not_counted (inr other) = and_left (e.account == row.account) (nat_le e.turn row.turn) other

-- up to the new entry they are all that its account has
all_before : (w : WorldLists) (e : Entry) → IsNextEntry w e → IsOpenLedger w → deltas_up_to e.account e.turn w.entries ≡ account_deltas e.account w.entries
all_before w e next ledger =
    total_same (λ x. if x.account == e.account && nat_le x.turn e.turn then x.delta else pos 0) (λ x. if x.account == e.account then x.delta else pos 0) w.entries
    (λ x there. ap (λ b. if b then x.delta else pos 0) (counted x there (x.account == e.account) refl))
  where
    counted : (x : Entry) → Contains w.entries x → (b : Bool) → (x.account == e.account) ≡ b → (b && nat_le x.turn e.turn) ≡ b
    counted x there true named = le-leb x.turn e.turn (up_to_turn x.turn e.turn (turn_count e.account w.entries) ((ledger.entries.turns e.account).high x there (eqb-true x.account e.account named)) next.turn)
    counted x there false other = refl

pub entry_stands_last : EntryStandsLast
entry_stands_last w e next ledger = record {
  new =
      let named : (e.account == e.account && nat_le e.turn e.turn) ≡ true =
      ap (λ b. b && nat_le e.turn e.turn) (eq-eqb e.account e.account refl) ∙ le-leb e.turn e.turn (omega arith) in
      above (account_opening e.account w.accounts) (account_deltas e.account w.entries) (deltas_up_to e.account e.turn (add_row entry_key e w.entries)) e.delta
      (total_named entry_key (λ x. x.account == e.account && nat_le x.turn e.turn) (λ x. x.delta) e w.entries named ∙ ap (λ z. z +ℤ e.delta) (all_before w e next ledger));
  earlier = λ row there. ap (λ d. record (entry_record_of w row) { balance_after = account_opening row.account w.accounts +ℤ d }) (earlier w e next ledger row there);
}
