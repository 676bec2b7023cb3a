-- The books are the ledger within its limits.
use Rattle.std.proofs.Common.{◌≡◌, ℕ, ◌^◌, ◌<◌, ◌≤◌, pos, ◌==◌, ◌&&◌, map, refl, ap, arith, subst, sym, ◌∙◌, Contains}
use Rattle.bank_terms.specs.Limits.{max_key, max_releases}
use Rattle.std.specs.Prelude.{if◌then◌else◌}
use Rattle.std.specs.List.{count_by}
use Rattle.keyed_rows.specs.Totals.{total}
use Rattle.bank_books.specs.Balances.{entry_count, turn_count}
use Rattle.bank_books.specs.Books.{Books}
use Rattle.bank_books.specs.Cash.{line_count}
use Rattle.bank_books.specs.Conditions.{home_of}
use Rattle.bank_books.specs.Keys.{entry_key, line_key, proof_key, release_key}
use Rattle.bank_books.specs.Range.{HasDistinctKeys, IsAccountInRange, IsBranchInRange, IsEntryInRange, IsInRange, IsTellerInRange}
use Rattle.bank_books.specs.Records.{account_record_of, branch_record_of, entry_record_of, kept_of, teller_record_of}
use Rattle.bank_books.specs.WorldLists.{WorldLists}
use Rattle.bank_books.specs.declared.rows.Branch.{Branch}
use Rattle.bank_books.specs.declared.rows.CashLine.{CashLine}
use Rattle.bank_books.specs.declared.rows.Entry.{Entry}
use Rattle.book_laws.specs.Laws.{BooksParts}
use Rattle.book_laws.specs.Ledger.{IsLedger, IsOpenLedger}
use Rattle.book_laws.specs.Limits.{AreWithinLimits}
use Rattle.book_laws.proofs.GivenRows.{given_by_entries, given_by_lines, rows_given}
use Rattle.book_laws.proofs.Numbered.{AreDistinct-numbered}
use Rattle.keyed_rows.proofs.Rows.{Contains-map, every_made, map-map}

-- ---- from the books

rows_of : (w : WorldLists) → Books w → IsOpenLedger w
rows_of w books =
    let old = books.in_range in
    record {
      branches = record {
        keys = old.keys.branches;
        each = λ row there.
            let was = old.branches (branch_record_of w row) (Contains-map (branch_record_of w) w.branches row there) in
            record { key = was.key; day = was.day; opening_cash = was.opening_cash; days = was.days; last_day = was.last_day };
      };
      tellers = record {
        keys = old.keys.tellers;
        each = λ row there.
            let was = old.tellers (teller_record_of w row) (Contains-map (teller_record_of w) w.tellers row there) in
            record { key = was.key; branch = was.branch; holder = was.holder };
      };
      accounts = record {
        keys = old.keys.accounts;
        each = λ row there.
            let was = old.accounts (account_record_of w row) (Contains-map (account_record_of w) w.accounts row there) in
            record { key = was.key; home = was.home; floor = was.floor; opening = was.opening };
      };
      entries = record {
        each = λ row there.
            let was = old.entries (entry_record_of w row) (Contains-map (entry_record_of w) w.entries row there) in
            record {
              branch = was.branch;
              account = was.account;
              teller = was.teller;
              moment = was.moment;
              day = was.day;
              user = was.user;
              partner = was.partner;
              undoes = was.undoes;
            };
        numbers = λ branch. (books.history_agrees branch).numbered.numbers;
        turns = λ account. (books.history_agrees (home_of w.accounts account)).numbered.turns account refl;
      };
      lines = record {
        each = λ row there.
            let was = old.lines row there in
            record { branch = was.branch; place = was.place; moment = was.moment; day = was.day; user = was.user };
        numbers = λ branch. (books.cash_agrees branch).numbers;
      };
      proofs = old.proofs;
      releases = old.releases;
      slips = old.slips;
      users = old.users;
      version = old.version;
      sums = record {
        of_tellers =
            ap total (sym (map-map (teller_record_of w) (λ t. t.balance) w.tellers)) ∙ books.totals_agree.tellers
            ∙ ap total (map-map (account_record_of w) (λ a. a.balance) w.accounts);
        of_branches =
            ap total (sym (map-map (branch_record_of w) (λ b. b.balance) w.branches)) ∙ books.totals_agree.branches
            ∙ ap total (map-map (account_record_of w) (λ a. a.balance) w.accounts);
        of_each_branch = λ row there.
            books.tellers_agree row.branch (branch_record_of w row) (Contains-map (branch_record_of w) w.branches row there) refl
            ∙ ap total (map-map (teller_record_of w) (λ t. if t.row.branch == row.branch then t.balance else pos 0) w.tellers);
      };
    }

ledger_of : (w : WorldLists) → Books w → IsLedger w
ledger_of w books = record {
  rows = rows_of w books;
  named = λ row there.
      let was = books.in_range.entries (entry_record_of w row) (Contains-map (entry_record_of w) w.entries row there) in
      record { partner = was.partner_there; undoes = was.undone_there };
  balanced = λ branch. (books.cash_agrees branch).equation;
}

limits_of : (w : WorldLists) → Books w → AreWithinLimits w
limits_of w books =
    let old = books.in_range in
    record {
      branches = λ row there.
          let was = old.branches (branch_record_of w row) (Contains-map (branch_record_of w) w.branches row there) in
          record {
            history = record { balance_within = was.balance; history_within = was.history; entries_within = was.entries };
            cash = record {
              vault_within = was.vault;
              drawers_within = was.drawers;
              cash_entries_within = was.cash_entries;
              differences_within = was.differences;
              lines_within = was.lines;
            };
            accounts = was.accounts;
          };
      tellers = λ row there.
          let was = old.tellers (teller_record_of w row) (Contains-map (teller_record_of w) w.tellers row there) in
          record { balance = was.balance; cash = was.cash };
      accounts = λ row there.
          let was = old.accounts (account_record_of w row) (Contains-map (account_record_of w) w.accounts row there) in
          record { balance = was.balance; above_floor = was.above_floor; turns = was.turns };
      entries = λ row there. (old.entries (entry_record_of w row) (Contains-map (entry_record_of w) w.entries row there)).balance_after;
    }

-- ---- to the books

up_to : (n c most : ℕ) → n ≤ c → c ≤ most → n ≤ most
up_to n c most below high = omega arith

fits : (n : ℕ) → n ≤ max_key → n < 2 ^ 32
fits n high = omega arith

day_fits : (n : ℕ) → n ≤ 999999 → n < 2 ^ 32
day_fits n high = omega arith

release_fits : (n : ℕ) → n ≤ max_releases → n < 2 ^ 32
release_fits n high = omega arith

-- the number of an entry, its turn and the number of a line are within the counts of their branch and their account
number_high : (w : WorldLists) → IsOpenLedger w → AreWithinLimits w → (e : Entry) → Contains w.entries e → e.number ≤ max_key
number_high w ledger limits e there =
    let branch = (ledger.entries.each e there).branch in
    up_to e.number (entry_count e.branch w.entries) max_key ((ledger.entries.numbers e.branch).high e there refl)
    (subst (λ k. entry_count k w.entries ≤ max_key) branch.1.1 (limits.branches branch.0 branch.1.0).history.entries_within)

turn_high : (w : WorldLists) → IsOpenLedger w → AreWithinLimits w → (e : Entry) → Contains w.entries e → e.turn ≤ max_key
turn_high w ledger limits e there =
    let account = (ledger.entries.each e there).account in
    up_to e.turn (turn_count e.account w.entries) max_key ((ledger.entries.turns e.account).high e there refl)
    (subst (λ k. turn_count k w.entries ≤ max_key) account.1.1 (limits.accounts account.0 account.1.0).turns)

line_high : (w : WorldLists) → IsOpenLedger w → AreWithinLimits w → (l : CashLine) → Contains w.lines l → l.number ≤ max_key
line_high w ledger limits l there =
    let branch = (ledger.lines.each l there).branch in
    up_to l.number (line_count l.branch w.lines) max_key ((ledger.lines.numbers l.branch).high l there refl)
    (subst (λ k. line_count k w.lines ≤ max_key) branch.1.1 (limits.branches branch.0 branch.1.0).cash.lines_within)

keys_of : (w : WorldLists) → IsOpenLedger w → AreWithinLimits w → HasDistinctKeys w
keys_of w ledger limits = record {
  branches = ledger.branches.keys;
  tellers = ledger.tellers.keys;
  accounts = ledger.accounts.keys;
  entries =
      AreDistinct-numbered entry_key (λ e. e.branch) (λ e. e.number) w.entries (λ e. refl) (λ e there. fits e.number (number_high w ledger limits e there))
      (λ e there. (ledger.entries.numbers e.branch).once e.number);
  lines =
      AreDistinct-numbered line_key (λ l. l.branch) (λ l. l.number) w.lines (λ l. refl) (λ l there. fits l.number (line_high w ledger limits l there))
      (λ l there. (ledger.lines.numbers l.branch).once l.number);
  proofs =
      AreDistinct-numbered proof_key (λ p. p.branch) (λ p. p.day) w.proofs (λ p. refl) (λ p there. day_fits p.day (ledger.proofs p there).day.1) (λ p there.
      let branch = (ledger.proofs p there).branch in
      subst (λ k. count_by (λ r. r.branch == k && r.day == p.day) w.proofs ≤ 1) branch.1.1 ((ledger.branches.each branch.0 branch.1.0).days.once p.day));
  releases =
      AreDistinct-numbered release_key (λ r. r.user) (λ r. r.number) w.releases (λ r. refl) (λ r there. release_fits r.number (ledger.releases r there).number.1)
      (λ r there. (ledger.releases r there).numbered.once r.number);
}

entry_in_range : (w : WorldLists) → IsLedger w → AreWithinLimits w → (row : Entry) → Contains w.entries row
    → IsEntryInRange w.branches w.tellers w.accounts w.entries w.policy.users (entry_record_of w row)
entry_in_range w ledger limits row there =
    let rows = ledger.rows in
    let was = rows.entries.each row there in
    record {
      branch = was.branch;
      number = ((rows.entries.numbers row.branch).low row there refl, number_high w rows limits row there);
      account = was.account;
      turn = ((rows.entries.turns row.account).low row there refl, turn_high w rows limits row there);
      teller = was.teller;
      moment = was.moment;
      day = was.day;
      user = was.user;
      partner = was.partner;
      partner_there = (ledger.named row there).partner;
      undoes = was.undoes;
      undone_there = (ledger.named row there).undoes;
      balance_after = limits.entries row there;
    }

branch_in_range : (w : WorldLists) → IsOpenLedger w → AreWithinLimits w → (row : Branch) → Contains w.branches row → IsBranchInRange w.accounts w.proofs (branch_record_of w row)
branch_in_range w ledger limits row there =
    let was = ledger.branches.each row there in
    let within = limits.branches row there in
    record {
      key = was.key;
      day = was.day;
      opening_cash = was.opening_cash;
      balance = within.history.balance_within;
      vault = within.cash.vault_within;
      history = within.history.history_within;
      drawers = within.cash.drawers_within;
      cash_entries = within.cash.cash_entries_within;
      differences = within.cash.differences_within;
      entries = within.history.entries_within;
      lines = within.cash.lines_within;
      accounts = within.accounts;
      homes = within.accounts;
      days = was.days;
      last_day = was.last_day;
    }

range_of : (w : WorldLists) → IsLedger w → AreWithinLimits w → IsInRange w (kept_of w)
range_of w ledger limits =
    let rows = ledger.rows in
    record {
      rows = rows_given w;
      keys = keys_of w rows limits;
      branches = every_made (branch_record_of w) (IsBranchInRange w.accounts w.proofs) w.branches (branch_in_range w rows limits);
      tellers = every_made (teller_record_of w) (IsTellerInRange w.branches) w.tellers (λ row there.
          let was = rows.tellers.each row there in
          let within = limits.tellers row there in
          record { key = was.key; branch = was.branch; balance = within.balance; cash = within.cash; holder = was.holder });
      accounts = every_made (account_record_of w) (IsAccountInRange w.branches) w.accounts (λ row there.
          let was = rows.accounts.each row there in
          let within = limits.accounts row there in
          record {
            key = was.key;
            home = was.home;
            floor = was.floor;
            opening = was.opening;
            balance = within.balance;
            above_floor = within.above_floor;
            turns = within.turns;
          });
      entries = every_made (entry_record_of w) (IsEntryInRange w.branches w.tellers w.accounts w.entries w.policy.users) w.entries (entry_in_range w ledger limits);
      lines = λ row there.
          let was = rows.lines.each row there in
          record {
            branch = was.branch;
            number = ((rows.lines.numbers row.branch).low row there refl, line_high w rows limits row there);
            place = was.place;
            moment = was.moment;
            day = was.day;
            user = was.user;
          };
      proofs = rows.proofs;
      releases = rows.releases;
      slips = rows.slips;
      users = rows.users;
      version = rows.version;
    }

books_of : (w : WorldLists) → IsLedger w → AreWithinLimits w → Books w
books_of w ledger limits =
    let sums = ledger.rows.sums in
    record {
      in_range = range_of w ledger limits;
      tellers_agree = λ branch.
          every_made (branch_record_of w) (λ b. b.row.branch ≡ branch → b.balance ≡ total (map (λ t. if t.row.branch == b.row.branch then t.balance else pos 0) (kept_of w).tellers)) w.branches
          (λ row there of.
          sums.of_each_branch row there ∙ ap total (sym (map-map (teller_record_of w) (λ t. if t.row.branch == row.branch then t.balance else pos 0) w.tellers)));
      history_agrees = λ branch. record {
        given = given_by_entries w branch;
        numbered = record { numbers = ledger.rows.entries.numbers branch; turns = λ account home. ledger.rows.entries.turns account };
      };
      cash_agrees = λ branch. record { given = given_by_lines w branch; numbers = ledger.rows.lines.numbers branch; equation = ledger.balanced branch };
      totals_agree = record {
        tellers =
            ap total (map-map (teller_record_of w) (λ t. t.balance) w.tellers) ∙ sums.of_tellers
            ∙ ap total (sym (map-map (account_record_of w) (λ a. a.balance) w.accounts));
        branches =
            ap total (map-map (branch_record_of w) (λ b. b.balance) w.branches) ∙ sums.of_branches
            ∙ ap total (sym (map-map (account_record_of w) (λ a. a.balance) w.accounts));
      };
    }

pub books_parts : BooksParts
books_parts w = (λ books. (ledger_of w books, limits_of w books), λ parts. books_of w parts.0 parts.1)
