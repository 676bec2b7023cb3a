-- A World with one more entry is kept.
use Rattle.std.proofs.Common.{◌≡◌, ℕ, ◌+◌, ◌<◌, ◌≤◌, ◌^◌, pos, ◌+ℤ◌, map, Bool, true, false, cond, refl, ap, arith, sym, ◌∙◌, subst, ◌==◌, ◌&&◌, Some, Contains}
use Rattle.std.specs.Prelude.{nat_le, if◌then◌else◌}
use Rattle.std.specs.Option.{option_map_or}
use Rattle.std.specs.List.{find}
use Rattle.std.proofs.lemmas.Bool.{and_parts, eq-eqb, eqb-true, false_from_ne_true}
use Rattle.std.proofs.lemmas.Bool.Decides.{nat_tests}
use Rattle.keyed_rows.specs.Ordered.{AreDistinct, HasRow, add_row}
use Rattle.bank_books.specs.Balances.{account_deltas, account_opening, deltas_up_to, entry_count, turn_count}
use Rattle.bank_books.specs.Effects.{written}
use Rattle.bank_books.specs.Keys.{account_key, entry_key}
use Rattle.bank_books.specs.Records.{account_record_of, branch_record_of, entry_record_of, teller_record_of}
use Rattle.bank_books.specs.WorldLists.{WorldLists}
use Rattle.bank_books.specs.declared.records.AccountRecord.{AccountRecord}
use Rattle.bank_books.specs.declared.records.BranchRecord.{BranchRecord}
use Rattle.bank_books.specs.declared.records.TellerRecord.{TellerRecord}
use Rattle.bank_books.specs.declared.row_write.RowWrite.TheVariants as write
use Rattle.bank_books.specs.declared.rows.Account.{Account}
use Rattle.bank_books.specs.declared.rows.Entry.{Entry}
use Rattle.book_laws.proofs.EntryMoved.{entry_moves}
use Rattle.keyed_rows.proofs.Rows.{above, each_added, find-found, map-map, total_named, total_other, total_same}
use Rattle.book_laws.specs.Moves.{account_entered, branch_entered, teller_entered}
use Rattle.book_kept.proofs.NextNumber.{AreCounted-add_row, next_is_free}
use Rattle.book_kept.proofs.RowLemmas.{IsOrdered-add_row, find-map, map-add_row, map_same, set_by_key, source}
use Rattle.book_kept.specs.Changes.{entry_sheets}
use Rattle.book_kept.specs.Keepable.{AreEntriesKeepable, IsKeepable}
use Rattle.book_kept.specs.Kept.{IsKept}
use Rattle.book_kept.specs.Named.{AreOfEntry}
use Rattle.book_kept.specs.Records.{entry_left, kept_teller, kept_teller_entered, kept_teller_of}
use Rattle.book_kept.specs.Sheets.{account_no, branch_no, entry_no, set_row, sheets_of, teller_no}
use Rattle.book_kept.specs.declared.entry.EntryRows.{EntryRows}
use Rattle.book_kept.specs.declared.records.KeptTeller.{KeptTeller}

-- ---- the balances after entries

later : (n m c : ℕ) → n ≡ c + 1 → m ≤ c → nat_le n m ≡ true → ⊥
later n m c next low is = absurd (grind (arith, nat_tests))

-- the balances after those that stood there stay
entry_stays : (w : WorldLists) (e x : Entry) → AreEntriesKeepable w.accounts w.entries → e.turn ≡ turn_count e.account w.entries + 1 → Contains w.entries x
    → entry_record_of (written (write.Entry e) w) x ≡ entry_record_of w x
entry_stays w e x can next there =
    let apart : (e.account == x.account && nat_le e.turn x.turn) ≡ false =
    false_from_ne_true (e.account == x.account && nat_le e.turn x.turn) (λ is.
    let parts = and_parts (e.account == x.account) (nat_le e.turn x.turn) is in
    later e.turn x.turn (turn_count e.account w.entries) next (subst (λ k. x.turn ≤ turn_count k w.entries) (sym (eqb-true e.account x.account parts.0)) (can.turns x there)) parts.1)
    in
    ap (λ z. record (entry_record_of w x) { balance_after = account_opening x.account w.accounts +ℤ z })
    (total_other entry_key (λ y. y.account == x.account && nat_le y.turn x.turn) (λ y. y.delta) e w.entries apart)

low_enough : (n m c : ℕ) → n ≡ c + 1 → m ≤ c → nat_le m n ≡ true
low_enough n m c next low = grind (arith, nat_tests)

self_low : (n : ℕ) → nat_le n n ≡ true
self_low n = grind (arith, nat_tests)

self_named : (n : ℕ) (b : Bool) → b ≡ true → ((n == n) && b) ≡ true
self_named n b is = ap (λ c. c && b) (eq-eqb n n refl) ∙ is

-- all entries of its account came before
all_up_to : (w : WorldLists) (e : Entry) → AreEntriesKeepable w.accounts w.entries → e.turn ≡ turn_count e.account w.entries + 1 → deltas_up_to e.account e.turn w.entries ≡ account_deltas e.account w.entries
all_up_to w e can next =
    total_same (λ y. if y.account == e.account && nat_le y.turn e.turn then y.delta else pos 0) (λ y. if y.account == e.account then y.delta else pos 0) w.entries (λ y there. go y there (y.account == e.account) refl)
  where
    go : (y : Entry) → Contains w.entries y → (b : Bool) → (y.account == e.account) ≡ b → cond (b && nat_le y.turn e.turn) y.delta (pos 0) ≡ cond b y.delta (pos 0)
    go y there true is =
        ap (λ c. cond c y.delta (pos 0)) (low_enough e.turn y.turn (turn_count e.account w.entries) next (subst (λ k. y.turn ≤ turn_count k w.entries) (eqb-true y.account e.account is) (can.turns y there)))
    go y there false is = refl

-- so the balance after it is its account's
entry_new : (w : WorldLists) (e : Entry) (x : Account) → AreEntriesKeepable w.accounts w.entries → e.turn ≡ turn_count e.account w.entries + 1 → find (λ r. r.account == e.account) w.accounts ≡ Some x → x.account ≡ e.account
    → entry_record_of (written (write.Entry e) w) e ≡ entry_left e (account_entered e.delta (account_record_of w x))
entry_new w e x can next found same =
    let before : deltas_up_to e.account e.turn w.entries ≡ account_deltas x.account w.entries = all_up_to w e can next ∙ ap (λ k. account_deltas k w.entries) (sym same) in
    let sum : deltas_up_to e.account e.turn (add_row entry_key e w.entries) ≡ account_deltas x.account w.entries +ℤ e.delta =
    total_named entry_key (λ y. y.account == e.account && nat_le y.turn e.turn) (λ y. y.delta) e w.entries (self_named e.account (nat_le e.turn e.turn) (self_low e.turn)) ∙ ap (λ z. z +ℤ e.delta) before in
    let opening : account_opening e.account w.accounts ≡ x.opening = ap (λ o. option_map_or (λ row. row.opening) o (pos 0)) found in
    let balance : account_opening e.account w.accounts +ℤ deltas_up_to e.account e.turn (add_row entry_key e w.entries) ≡ (x.opening +ℤ account_deltas x.account w.entries) +ℤ e.delta =
    ap (λ z. z +ℤ deltas_up_to e.account e.turn (add_row entry_key e w.entries)) opening ∙ above x.opening _ _ e.delta sum in
    ap (λ z. record { row = e; balance_after = z }) balance

-- ---- the World can be kept still

keeps : (w : WorldLists) (e : Entry) → IsKeepable w → e.number < 2 ^ 32 → e.turn ≡ turn_count e.account w.entries + 1 → e.number ≡ entry_count e.branch w.entries + 1
    → (x : Account) → Contains w.accounts x → x.account ≡ e.account → IsKeepable (written (write.Entry e) w)
keeps w e can small turn number x there same =
    let was = can.entries in
    record {
      branches = can.branches;
      tellers = can.tellers;
      accounts = can.accounts;
      entries = record {
        ordered = IsOrdered-add_row entry_key e w.entries was.ordered (next_is_free entry_key (λ y. y.branch) (λ y. y.number) e w.entries (λ y. refl) was.small small was.numbers number);
        named = each_added entry_key e w.entries (λ y. HasRow account_key w.accounts y.account) (x, (there, same)) was.named;
        turns = AreCounted-add_row entry_key (λ y. y.account) (λ y. y.turn) e w.entries was.turns turn;
        numbers = AreCounted-add_row entry_key (λ y. y.branch) (λ y. y.number) e w.entries was.numbers number;
        small = each_added entry_key e w.entries (λ y. y.number < 2 ^ 32) small was.small;
      };
      lines = can.lines;
      proofs = can.proofs;
      releases = can.releases;
      slips = can.slips;
      policy = can.policy;
    }

-- ---- all together

pub entry_keeps : (w : WorldLists) (e : Entry) (a : AccountRecord) (t : KeptTeller) (b : BranchRecord) (rows : EntryRows) → IsKeepable w → AreOfEntry (sheets_of w) e a t b → e.number < 2 ^ 32
    → rows.account ≡ account_entered e.delta a → rows.teller ≡ kept_teller_entered e.delta t → rows.branch ≡ branch_entered e.delta b → rows.entry ≡ entry_left e rows.account
    → e.turn ≡ rows.account.turns → e.number ≡ rows.branch.entries → IsKept w (write.Entry e) (entry_sheets rows)
entry_keeps w e a t b rows can of small account teller branch entry turn number =
    let ax = source (account_record_of w) _ a (sym (find-map (λ r. account_no r == e.account) (account_record_of w) w.accounts) ∙ of.account) in
    let bx = source (branch_record_of w) _ b (sym (find-map (λ r. branch_no r == e.branch) (branch_record_of w) w.branches) ∙ of.branch) in
    let there = find-found (λ r. r.account == e.account) w.accounts ax.0 ax.1.0 in
    let same : ax.0.account ≡ e.account = eqb-true ax.0.account e.account there.1 in
    let same_branch : bx.0.branch ≡ e.branch = eqb-true bx.0.branch e.branch (find-found (λ r. r.branch == e.branch) w.branches bx.0 bx.1.0).1 in
    let turn_is : e.turn ≡ turn_count e.account w.entries + 1 =
    turn ∙ ap (λ (r : AccountRecord). r.turns) account ∙ ap (λ (r : AccountRecord). r.turns + 1) (sym ax.1.1) ∙ ap (λ k. turn_count k w.entries + 1) same in
    let number_is : e.number ≡ entry_count e.branch w.entries + 1 =
    number ∙ ap (λ (r : BranchRecord). r.entries) branch ∙ ap (λ (r : BranchRecord). r.entries + 1) (sym bx.1.1) ∙ ap (λ k. entry_count k w.entries + 1) same_branch in
    let after = written (write.Entry e) w in
    let moves = entry_moves w e in
    let accounts : map (account_record_of after) w.accounts ≡ set_row account_no rows.account (map (account_record_of w) w.accounts) =
    set_by_key account_no (account_record_of w) (account_record_of after) (account_entered e.delta) e.account a rows.account w.accounts
    (subst AreDistinct (sym (map-map (account_record_of w) account_no w.accounts)) can.accounts.distinct) of.account (λ r. refl) account (λ x among. moves.accounts x) in
    let tellers : map (kept_teller_of after) w.tellers ≡ set_row teller_no rows.teller (map (kept_teller_of w) w.tellers) =
    set_by_key teller_no (kept_teller_of w) (kept_teller_of after) (kept_teller_entered e.delta) e.teller t rows.teller w.tellers
    (subst AreDistinct (sym (map-map (kept_teller_of w) teller_no w.tellers)) can.tellers.ordered.distinct) of.teller (λ r. refl) teller
    (λ x among. ap kept_teller (moves.tellers x) ∙ by (e.teller == x.teller) (teller_record_of w x)) in
    let branches : map (branch_record_of after) w.branches ≡ set_row branch_no rows.branch (map (branch_record_of w) w.branches) =
    set_by_key branch_no (branch_record_of w) (branch_record_of after) (branch_entered e.delta) e.branch b rows.branch w.branches
    (subst AreDistinct (sym (map-map (branch_record_of w) branch_no w.branches)) can.branches.distinct) of.branch (λ r. refl) branch (λ x among. moves.branches x) in
    let new : entry_record_of after e ≡ rows.entry = entry_new w e ax.0 can.entries turn_is ax.1.0 same ∙ ap (λ r. entry_left e (account_entered e.delta r)) ax.1.1 ∙ ap (entry_left e) (sym account) ∙ sym entry in
    let entries : map (entry_record_of after) (add_row entry_key e w.entries) ≡ add_row entry_no rows.entry (map (entry_record_of w) w.entries) =
    map-add_row entry_no (entry_record_of after) e w.entries ∙ ap (λ r. add_row entry_no r (map (entry_record_of after) w.entries)) new
    ∙ ap (add_row entry_no rows.entry) (map_same (entry_record_of after) (entry_record_of w) w.entries (λ x among. entry_stays w e x can.entries turn_is among)) in
    record {
      keepable = keeps w e can small turn_is number_is ax.0 there.0 same;
      sheets = λ i. record (sheets_of w) { branches = branches i; tellers = tellers i; accounts = accounts i; entries = entries i };
    }
  where
    by : (named : Bool) (r : TellerRecord) → kept_teller (if named then teller_entered e.delta r else r) ≡ (if named then kept_teller_entered e.delta (kept_teller r) else kept_teller r)
    by true r = refl
    by false r = refl
