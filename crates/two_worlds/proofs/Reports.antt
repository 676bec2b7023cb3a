-- Views determine what reports list: that of an account its statement, those of all accounts in a user's sets the
-- accounts that the user is shown, and those of a branch, its history and its vault the proof of that branch.
use Rattle.std.proofs.Common.{◌≡◌, ℕ, pos, ◌+ℤ◌, ◌≤◌, List, [], ◌∷◌, ◌++◌, map, take, length, get_or, All, Bool, true, false, refl, ap, ap₂, arith, sym, ◌∙◌, ◌==◌, ◌&&◌, Option, Some, None, Contains}
use Rattle.std.specs.Prelude.{if◌then◌else◌, nat_le, nat_lt, option_map}
use Rattle.std.specs.List.{concat, filter, find, range_with_len}
use Rattle.std.specs.Option.{option_map_or}
use Rattle.std.proofs.lemmas.Bool.{and_parts, eqb-true}
use Rattle.std.proofs.lemmas.List.{take-map}
use Rattle.std.proofs.lemmas.List.Elements.{Contains-get_or}
use Rattle.std.proofs.lemmas.List.Kept.{IsNonDecreasingBy-filter}
use Rattle.std.proofs.lemmas.List.Sums.{length-filter}
use Rattle.keyed_rows.specs.Totals.{total}
use Rattle.bank_policy.proofs.RowsTell.{from_filter, in_filter}
use Rattle.bank_policy.specs.HeldRows.{HeldTriple}
use Rattle.bank_terms.specs.Limits.{max_key}
use Rattle.bank_books.specs.Balances.{account_count, account_opening, account_row, branch_deltas, branch_row, deltas_up_to, entry_count}
use Rattle.bank_books.specs.Cash.{cash_entry_total, difference_total, drawer_total, line_count, place_cash}
use Rattle.bank_books.specs.Keys.{account_key, branch_key}
use Rattle.bank_books.specs.Records.{account_record_of, branch_record, branch_record_of, entry_record_of, teller_record_of}
use Rattle.bank_books.specs.WorldLists.{WorldLists}
use Rattle.bank_books.specs.declared.records.BranchRecord.{BranchRecord}
use Rattle.bank_books.specs.declared.records.EntryRecord.{EntryRecord}
use Rattle.bank_books.specs.declared.records.TellerRecord.{TellerRecord}
use Rattle.bank_books.specs.declared.rows.Account.{Account}
use Rattle.bank_books.specs.declared.rows.Branch.{Branch}
use Rattle.bank_books.specs.declared.rows.Entry.{Entry}
use Rattle.bank_books.specs.declared.rows.Teller.{Teller}
use Rattle.bank_meaning.proofs.LastWordRows.{same_rows}
use Rattle.bank_meaning.specs.Proof.{proof_text}
use Rattle.bank_meaning.specs.Sums.{PassesChecks}
use Rattle.keyed_rows.proofs.Rows.{Contains-head, Contains-map, Contains-tail, find-found, find_of_key, found_row, map-map}
use Rattle.certify.proofs.RemovedRows.{AreDistinct-filter}
use Rattle.report_lines.specs.Texts.{account_line, entry_line, teller_line, total_line}
use Rattle.reports.proofs.Listed.{accounts_list_shown, statement_lists_turns}
use Rattle.reports.proofs.Roster.{proof_lists_roster}
use Rattle.reports.specs.Laws.{totals}
use Rattle.reports.specs.Listing.{all_lines, heading, listed_lines, numbers_of, proof_of, total_of}
use Rattle.reports.specs.declared.listing.Listing.TheVariants as listing
use Rattle.world_reads.specs.BookReads.{accounts_triples, entry_at, is_account_after, is_account_of, is_entry_at, roster, shown, there}
use Rattle.counter_ops.specs.Touched.{account_item, branch_item, history_item, touched_by_books, vault_item}
use Rattle.two_worlds.specs.View.{RosterLine, View, roster_line_of, roster_of, view_of}
use Rattle.two_worlds.proofs.DrawerSum.{drawers_of}
use Rattle.two_worlds.proofs.SameRows.{same_account}
use Rattle.two_worlds.proofs.Grown.{find_passing, total_both, total_passing}
use Rattle.two_worlds.proofs.Within.{AreAlike}

-- ---- a statement

turned : (a b : Bool) → (a && b) ≡ (b && a)
turned true true = refl
turned true false = refl
turned false true = refl
turned false false = refl

abbrev entry_in : View → ℕ → ℕ → Option EntryRecord
entry_in s key turn = option_map (λ row. record {
  row = row;
  balance_after = option_map_or (λ a. a.opening) s.account (pos 0) +ℤ total (map (λ e. if nat_le e.turn row.turn then e.delta else pos 0) s.entries);
}) (find (is_entry_at key turn) s.entries)

entry_seen : (w : WorldLists) (key turn : ℕ) → entry_at w key turn ≡ entry_in (view_of w (account_item key)) key turn
entry_seen w key turn =
    ap (option_map (entry_record_of w))
    (sym (find_passing (is_entry_at key turn) (λ e. e.account == key) (λ e is. (and_parts (e.account == key) (e.turn == turn) is).0) w.entries))
    ∙ go (find (is_entry_at key turn) (filter (λ e. e.account == key) w.entries)) refl
  where
    go : (o : Option Entry) → find (is_entry_at key turn) (filter (λ e. e.account == key) w.entries) ≡ o
        → option_map (entry_record_of w) o ≡ option_map (λ row. record {
          row = row;
          balance_after = account_opening key w.accounts +ℤ total (map (λ e. if nat_le e.turn row.turn then e.delta else pos 0) (filter (λ e. e.account == key) w.entries));
        }) o
    go None is = refl
    go (Some row) is =
        let passes = (find-found (is_entry_at key turn) (filter (λ e. e.account == key) w.entries) row is).1 in
        let of = eqb-true row.account key (and_parts (row.account == key) (row.turn == turn) passes).0 in
        ap (λ k. Some (record { row = row; balance_after = account_opening k w.accounts +ℤ deltas_up_to k row.turn w.entries })) of
        ∙ ap (λ z. Some (record { row = row; balance_after = account_opening key w.accounts +ℤ z }))
        (ap (λ (p : Entry → Bool). total (map (λ e. if p e then e.delta else pos 0) w.entries)) (λ i e. turned (e.account == key) (nat_le e.turn row.turn) i)
        ∙ total_both (λ e. nat_le e.turn row.turn) (λ e. e.account == key) (λ e. e.delta) w.entries)

-- the lines of a statement
pub statement_alike : (w v : WorldLists) (account turn count : ℕ) → view_of w (account_item account) ≡ view_of v (account_item account)
    → listed_lines w (listing.Statement (record { account = account; turn = turn })) count ≡ listed_lines v (listing.Statement (record { account = account; turn = turn })) count
statement_alike w v account turn count same =
    statement_lists_turns w account turn count ∙ (λ i. map entry_line (there (map (λ at. one at i) (range_with_len turn count)))) ∙ sym (statement_lists_turns v account turn count)
  where
    one : (at : ℕ) → entry_at w account at ≡ entry_at v account at
    one at = entry_seen w account at ∙ ap (λ s. entry_in s account at) same ∙ sym (entry_seen v account at)

-- ---- the accounts that a user is shown

map_alike : {X Y : Type 0} (f g : X → Y) (xs : List X) → ((x : X) → Contains xs x → f x ≡ g x) → map f xs ≡ map g xs
map_alike f g [] same = refl
map_alike f g (x ∷ xs) same = ap₂ (λ y ys. y ∷ ys) (same x (Contains-head x xs)) (map_alike f g xs (λ z there. same z (Contains-tail x xs z there)))

-- an account that is shown in one World is shown in the other
still_shown : (w v : WorldLists) (held : List HeldTriple) (after : ℕ) → PassesChecks w → ((key : ℕ) → is_account_of held key ≡ true → view_of w (account_item key) ≡ view_of v (account_item key))
    → (a : Account) → Contains (filter (is_account_after held after) w.accounts) a → Contains (filter (is_account_after held after) v.accounts) a
still_shown w v held after bank same a there =
    let found = from_filter (is_account_after held after) w.accounts a there in
    let of = (and_parts (nat_lt after a.account) (is_account_of held a.account) found.1).1 in
    let here : account_row a.account w.accounts ≡ Some a = find_of_key account_key a.account w.accounts a bank.books.in_range.keys.accounts found.0 refl in
    let seen : account_row a.account v.accounts ≡ Some a = sym (ap (λ s. s.account) (same a.account of)) ∙ here in
    in_filter (is_account_after held after) v.accounts a (find-found (λ row. row.account == a.account) v.accounts a seen).0 found.1

one_row : {X : Type 0} (x y : X) → ◌≡◌ {A = Option X} (Some x) (Some y) → x ≡ y
one_row x y same = cc

-- and has the same numbers there
same_record : (w v : WorldLists) → PassesChecks w → PassesChecks v → (a : Account) → Contains w.accounts a → view_of w (account_item a.account) ≡ view_of v (account_item a.account)
    → account_record_of w a ≡ account_record_of v a
same_record w v bank bank' a there same =
    let here : account_row a.account w.accounts ≡ Some a = find_of_key account_key a.account w.accounts a bank.books.in_range.keys.accounts there refl in
    let seen : account_row a.account v.accounts ≡ Some a = sym (ap (λ s. s.account) same) ∙ here in
    one_row (account_record_of w a) (account_record_of v a)
    (sym (ap (option_map (account_record_of w)) here) ∙ same_account w v bank.books bank'.books a.account same ∙ ap (option_map (account_record_of v)) seen)

shown_alike : (w v : WorldLists) (user moment : ℕ) → PassesChecks w → PassesChecks v → accounts_triples w user moment ≡ accounts_triples v user moment
    → ((key : ℕ) → is_account_of (accounts_triples w user moment) key ≡ true → view_of w (account_item key) ≡ view_of v (account_item key))
    → (after count : ℕ) → shown w user after count moment ≡ shown v user after count moment
shown_alike w v user moment bank bank' held same after count =
    let p = is_account_after (accounts_triples w user moment) after in
    let rows = same_rows account_key (filter p w.accounts) (filter p v.accounts) (IsNonDecreasingBy-filter account_key p w.accounts bank.in_order.books.accounts)
    (IsNonDecreasingBy-filter account_key p v.accounts bank'.in_order.books.accounts) (AreDistinct-filter account_key p w.accounts bank.books.in_range.keys.accounts)
    (AreDistinct-filter account_key p v.accounts bank'.books.in_range.keys.accounts) (still_shown w v (accounts_triples w user moment) after bank same)
    (still_shown v w (accounts_triples w user moment) after bank' (λ key of. sym (same key of))) in
    let each = λ (a : Account) (there : Contains (filter p w.accounts) a).
    let found = from_filter p w.accounts a there in
    same_record w v bank bank' a found.0 (same a.account (and_parts (nat_lt after a.account) (is_account_of (accounts_triples w user moment) a.account) found.1).1) in
    sym (take-map (account_record_of w) count (filter p w.accounts))
    ∙ ap (take count) (map_alike (account_record_of w) (account_record_of v) (filter p w.accounts) each ∙ ap (map (account_record_of v)) rows)
    ∙ take-map (account_record_of v) count (filter p v.accounts)
    ∙ ap (λ hs. map (account_record_of v) (take count (filter (is_account_after hs after) v.accounts))) held

-- the lines of their list
pub accounts_alike : (w v : WorldLists) (user moment after count : ℕ) → PassesChecks w → PassesChecks v → accounts_triples w user moment ≡ accounts_triples v user moment
    → ((key : ℕ) → is_account_of (accounts_triples w user moment) key ≡ true → view_of w (account_item key) ≡ view_of v (account_item key))
    → listed_lines w (listing.Accounts (record { user = user; after = after; moment = moment })) count ≡ listed_lines v (listing.Accounts (record { user = user; after = after; moment = moment })) count
accounts_alike w v user moment after count bank bank' held same =
    accounts_list_shown w user after moment count bank.in_order.books.accounts bank.books.in_range.keys.accounts
    ∙ ap (map account_line) (shown_alike w v user moment bank bank' held same after count)
    ∙ sym (accounts_list_shown v user after moment count bank'.in_order.books.accounts bank'.books.in_range.keys.accounts)

-- ---- the books of a branch

abbrev branch_in : View → View → View → Option BranchRecord
branch_in s h v = option_map (λ row. record {
  row = row;
  balance = row.opening +ℤ total (map (λ e. e.delta) h.entries);
  vault = row.cash +ℤ total (map (λ l. l.amount) v.lines);
  entries = length h.entries;
  lines = s.lined;
  accounts = s.homed;
  history = total (map (λ e. e.delta) h.entries);
  drawers = total (map (λ r. r.cash) s.roster);
  cash_entries = s.cash_entries;
  differences = s.differences;
}) s.branch

branch_seen : (w : WorldLists) (key : ℕ) → PassesChecks w → branch_record w key ≡ branch_in (view_of w (branch_item key)) (view_of w (history_item key)) (view_of w (vault_item key))
branch_seen w key bank = go (branch_row key w.branches) refl
  where
    go : (o : Option Branch) → branch_row key w.branches ≡ o
        → option_map (branch_record_of w) o ≡ branch_in (record (view_of w (branch_item key)) { branch = o }) (view_of w (history_item key)) (view_of w (vault_item key))
    go None is = refl
    go (Some row) is =
        let of = (found_row branch_key key w.branches row is).1 in
        let sum = ap (λ k. branch_deltas k w.entries) of ∙ total_passing (λ e. e.branch == key) (λ e. e.delta) w.entries in
        let count = ap (λ k. entry_count k w.entries) of ∙ sym (length-filter (λ e. e.branch == key) w.entries) in
        let vault = ap (λ k. place_cash k 0 w.lines) of ∙ total_passing (λ l. l.branch == key && l.place == 0) (λ l. l.amount) w.lines in
        let drawers = ap (λ k. drawer_total k w.lines) of ∙ drawers_of w key bank.books in
        let lines = ap (λ k. line_count k w.lines) of in
        let homed = ap (λ k. account_count k w.accounts) of in
        let entries = ap (λ k. cash_entry_total k w.lines) of in
        let differences = ap (λ k. difference_total k w.lines) of in
        λ i. Some (record {
          row = row;
          balance = row.opening +ℤ sum i;
          vault = row.cash +ℤ vault i;
          entries = count i;
          lines = lines i;
          accounts = homed i;
          history = sum i;
          drawers = drawers i;
          cash_entries = entries i;
          differences = differences i;
        })

pub same_books : (w v : WorldLists) (branch : ℕ) → PassesChecks w → PassesChecks v → AreAlike (touched_by_books branch) w v → branch_record w branch ≡ branch_record v branch
same_books w v branch bank bank' same =
    branch_seen w branch bank
    ∙ (λ i. branch_in (same (branch_item branch) (0, omega arith, refl) i) (same (history_item branch) (1, omega arith, refl) i) (same (vault_item branch) (2, omega arith, refl) i))
    ∙ sym (branch_seen v branch bank')

-- ---- the proof of a branch

-- of a teller it has nothing but what stands in the roster
abbrev bare : RosterLine → TellerRecord
bare r = record { row = record { teller = r.teller; branch = 0; opening = pos 0 }; balance = r.balance; cash = r.cash; holder = r.holder }

line_is : (t : TellerRecord) → teller_line t ≡ teller_line (bare (roster_line_of t))
unfolding teller_line
line_is t = refl

-- the lines of a proof, by the roster
abbrev proof_lines : BranchRecord → List RosterLine → List (List ℕ)
proof_lines b rs = map (λ r. teller_line (bare r)) rs ++ map (λ t. total_line t (total_of (numbers_of b) (total (map (λ r. r.balance) rs)) t)) totals

are_keys : (w : WorldLists) → PassesChecks w → All (λ (t : Teller). (1 ≤ t.teller) × (t.teller ≤ max_key)) w.tellers
are_keys w bank k d lt =
    let t = get_or w.tellers k d in
    (bank.books.in_range.tellers (teller_record_of w t) (Contains-map (teller_record_of w) w.tellers t (Contains-get_or w.tellers k d lt))).key

proof_is : (w : WorldLists) (b : BranchRecord) → PassesChecks w → listed_lines w (proof_of b) all_lines ≡ proof_lines b (roster_of w b.row.branch)
proof_is w b bank =
    let rows = roster w b.row.branch in
    proof_lists_roster w b bank.in_order.books.tellers bank.books.in_range.keys.tellers (are_keys w bank)
    ∙ ap₂ (λ ls s. ls ++ map (λ t. total_line t (total_of (numbers_of b) s t)) totals)
    ((λ i. map (λ t. line_is t i) rows) ∙ sym (map-map roster_line_of (λ r. teller_line (bare r)) rows))
    (ap total (sym (map-map roster_line_of (λ (r : RosterLine). r.balance) rows)))

-- its text
pub proof_alike : (w v : WorldLists) (branch : ℕ) → PassesChecks w → PassesChecks v → AreAlike (touched_by_books branch) w v
    → proof_text w (branch_record w branch) ≡ proof_text v (branch_record v branch)
proof_alike w v branch bank bank' same = go (branch_record w branch) refl ∙ ap (proof_text v) (same_books w v branch bank bank' same)
  where
    here : (o : Option Branch) (b : BranchRecord) → branch_row branch w.branches ≡ o → option_map (branch_record_of w) o ≡ Some b → b.row.branch ≡ branch
    here None b at is = absurd cc
    here (Some row) b at is =
        let one : branch_record_of w row ≡ b = cc in
        sym (ap (λ (b : BranchRecord). b.row.branch) one) ∙ (found_row branch_key branch w.branches row at).1

    go : (o : Option BranchRecord) → branch_record w branch ≡ o → proof_text w o ≡ proof_text v o
    go None is = refl
    go (Some b) is =
        let of = here (branch_row branch w.branches) b refl is in
        let rosters : roster_of w b.row.branch ≡ roster_of v b.row.branch =
        ap (roster_of w) of ∙ ap (λ s. s.roster) (same (branch_item branch) (0, omega arith, refl)) ∙ sym (ap (roster_of v) of) in
        ap (λ ls. heading (proof_of b) (length ls) ++ concat ls) (proof_is w b bank ∙ ap (proof_lines b) rosters ∙ sym (proof_is v b bank'))
