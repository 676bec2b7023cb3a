-- What sums by group give a row is what the World gives it.
use Rattle.std.proofs.Common.{◌≡◌, ℕ, ℤ, pos, ◌+ℤ◌, List, [], ◌∷◌, length, map, Bool, true, false, cond, ◌==◌, ◌&&◌, Option, refl, ap, arith, ◌∙◌}
use Rattle.std.specs.Prelude.{filter, nat_le, not, if◌then◌else◌}
use Rattle.std.proofs.lemmas.Int.{ints}
use Rattle.std.proofs.lemmas.List.Sums.{length-filter}
use Rattle.keyed_rows.specs.Totals.{total}
use Rattle.bank_policy.specs.declared.rows.User.{User}
use Rattle.bank_books.specs.Cash.{holder_of, is_cash_entry, is_difference}
use Rattle.bank_books.specs.Records.{account_record_of, branch_record_of, entry_record_of, release_count_of, teller_record_of, release_count, slip_count}
use Rattle.book_sums.specs.Shares.{group_count}
use Rattle.book_sums.specs.Sums.{AreSumsOf, account_record_from, branch_record_from, entry_record_from, home_part, place_part, release_count_from, teller_part, teller_record_from, turn_part, user_part, slip_part}
use Rattle.bank_books.specs.WorldLists.{WorldLists}
use Rattle.bank_books.specs.declared.rows.Account.{Account}
use Rattle.bank_books.specs.declared.rows.Branch.{Branch}
use Rattle.bank_books.specs.declared.rows.CashLine.{CashLine}
use Rattle.bank_books.specs.declared.rows.Entry.{Entry}
use Rattle.bank_books.specs.declared.rows.Teller.{Teller}
use Rattle.book_sums.specs.declared.shares.Part.{Part}
use Rattle.book_sums.specs.declared.sums.Sums.{Sums}
use Rattle.bank_books.specs.Balances.{account_count, account_opening, branch_deltas}
use Rattle.book_sums.proofs.SameRecords.{account_same, branch_same, entry_same, teller_same}
use Rattle.book_sums.proofs.SharesLemmas.{count_of_rows, of_rows}

-- rows whose shares are nothing add nothing
total-filter : {X : Type 0} (p : X → Bool) (f : X → ℤ) (xs : List X) → ((x : X) → p x ≡ false → f x ≡ pos 0) → total (map f (filter p xs)) ≡ total (map f xs)
total-filter p f [] none = refl
total-filter {X} p f (x ∷ xs) none = go (p x) refl (total-filter p f xs none)
  where
    go : (b : Bool) → p x ≡ b → total (map f (filter p xs)) ≡ total (map f xs) → total (map f (cond b (x ∷ filter p xs) (filter p xs))) ≡ f x +ℤ total (map f xs)
    go true is rest = ap (λ z. f x +ℤ z) rest
    go false is rest = omega (arith, ints, rest, none x is)

-- so the sum over the rows of a group is that over all rows
of_group : {X : Type 0} (group : X → ℕ) (test : X → Bool) (amount : X → ℤ) (of : ℕ) (found rows : List X) → found ≡ filter (λ x. group x == of) rows →
    total (map (λ x. if group x == of && test x then amount x else pos 0) found) ≡ total (map (λ x. if group x == of && test x then amount x else pos 0) rows)
of_group {X} group test amount of found rows is =
    ap (λ xs. total (map share xs)) is ∙ total-filter (λ x. group x == of) share rows (λ x other. ap (λ b. if b && test x then amount x else pos 0) other)
  where
    share : X → ℤ
    share x = if group x == of && test x then amount x else pos 0

pub branch_from_rows : (w : WorldLists) (s : Sums) (entries : List Entry) (lines : List CashLine) (row : Branch) → AreSumsOf w s →
    entries ≡ filter (λ e. e.branch == row.branch) w.entries → lines ≡ filter (λ l. l.branch == row.branch) w.lines →
    branch_record_from s entries lines row ≡ branch_record_of w row
branch_from_rows w s entries lines row sums of_branch lines_of_branch =
    let history : branch_deltas row.branch entries ≡ branch_deltas row.branch w.entries =
    ap (λ es. branch_deltas row.branch es) of_branch ∙ total-filter (λ e. e.branch == row.branch) (λ e. if e.branch == row.branch then e.delta else pos 0) w.entries (λ e other. ap (λ b. if b then e.delta else pos 0) other) in
    let vault = of_rows (λ (p : Part). if p.group == row.branch && p.number == 0 then p.amount else pos 0) place_part w.lines s.by_place sums.by_place in
    let accounts = count_of_rows (λ (p : Part). p.group == row.branch) home_part w.accounts s.by_home sums.by_home in
    branch_same (branch_record_from s entries lines row) (branch_record_of w row) refl
    (record { balance = ap (λ z. row.opening +ℤ z) history; entries = ap length of_branch ∙ length-filter (λ e. e.branch == row.branch) w.entries; history = history; accounts = accounts })
    (record {
      vault = ap (λ z. row.cash +ℤ z) vault;
      lines = ap length lines_of_branch ∙ length-filter (λ l. l.branch == row.branch) w.lines;
      drawers = of_group (λ l. l.branch) (λ l. not (l.place == 0)) (λ l. l.amount) row.branch lines w.lines lines_of_branch;
      cash_entries = of_group (λ l. l.branch) (λ l. is_cash_entry l.form) (λ l. l.amount) row.branch lines w.lines lines_of_branch;
      differences = of_group (λ l. l.branch) (λ l. is_difference l.form) (λ l. l.amount) row.branch lines w.lines lines_of_branch;
    })

pub teller_from_sums : (w : WorldLists) (s : Sums) (row : Teller) (holder : Option ℕ) → holder ≡ holder_of w.lines row.teller → AreSumsOf w s → teller_record_from s row holder ≡ teller_record_of w row
teller_from_sums w s row holder held sums =
    let balance = of_rows (λ (p : Part). if p.group == row.teller then p.amount else pos 0) teller_part w.entries s.by_teller sums.by_teller in
    let cash = of_rows (λ (p : Part). if p.group == row.branch && p.number == row.teller then p.amount else pos 0) place_part w.lines s.by_place sums.by_place in
    teller_same (teller_record_from s row holder) (teller_record_of w row) refl (ap (λ z. row.opening +ℤ z) balance) (record { cash = cash; holder = held })

pub account_from_sums : (w : WorldLists) (s : Sums) (row : Account) → AreSumsOf w s → account_record_from s row ≡ account_record_of w row
account_from_sums w s row sums =
    let balance = of_rows (λ (p : Part). if p.group == row.account then p.amount else pos 0) turn_part w.entries s.by_turn sums.by_turn in
    let turns = count_of_rows (λ (p : Part). p.group == row.account) turn_part w.entries s.by_turn sums.by_turn in
    account_same (account_record_from s row) (account_record_of w row) refl (record { balance = ap (λ z. row.opening +ℤ z) balance; turns = turns })

pub entry_from_sums : (w : WorldLists) (s : Sums) (row : Entry) → AreSumsOf w s → entry_record_from w s row ≡ entry_record_of w row
entry_from_sums w s row sums =
    let deltas = of_rows (λ (p : Part). if p.group == row.account && nat_le p.number row.turn then p.amount else pos 0) turn_part w.entries s.by_turn sums.by_turn in
    entry_same (entry_record_from w s row) (entry_record_of w row) refl (ap (λ z. account_opening row.account w.accounts +ℤ z) deltas)

pub slips_from_sums : (w : WorldLists) (s : Sums) (user : ℕ) → AreSumsOf w s → group_count user s.slips_by_user ≡ slip_count user w.slips
slips_from_sums w s user sums = count_of_rows (λ (p : Part). p.group == user) slip_part w.slips s.slips_by_user sums.slips_by_user

pub releases_from_sums : (w : WorldLists) (s : Sums) (row : User) → AreSumsOf w s → release_count_from s row ≡ release_count_of w row
releases_from_sums w s row sums =
    ap (λ n. record { user = row.user; releases = n; slips = group_count row.user s.slips_by_user }) (count_of_rows (λ (p : Part). p.group == row.user) user_part w.releases s.by_user sums.by_user)
    ∙ ap (λ n. record { user = row.user; releases = release_count row.user w.releases; slips = n }) (slips_from_sums w s row.user sums)

pub homes_from_sums : (w : WorldLists) (s : Sums) (branch : ℕ) → AreSumsOf w s → group_count branch s.by_home ≡ account_count branch w.accounts
homes_from_sums w s branch sums = count_of_rows (λ (p : Part). p.group == branch) home_part w.accounts s.by_home sums.by_home
