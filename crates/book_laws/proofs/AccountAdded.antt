-- An account that is not there yet and opens with nothing: what it keeps, and what it moves.
use Rattle.std.proofs.Common.{◌≡◌, ℕ, ◌+◌, ◌≤◌, ℤ, pos, ◌+ℤ◌, Bool, true, false, refl, ap, arith, sym, ◌∙◌, subst, ◌==◌, Option, None, Some, Contains, ◌⊎◌, inl, inr}
use Rattle.bank_terms.specs.Limits.{max_accounts}
use Rattle.std.specs.Prelude.{◌≤ℤ◌, if◌then◌else◌}
use Rattle.std.specs.Option.{option_map_or}
use Rattle.std.proofs.lemmas.Bool.{cases_Bool, eqb-true, ne_eqb}
use Rattle.std.proofs.lemmas.Int.{ints}
use Rattle.keyed_rows.specs.Ordered.{add_row}
use Rattle.bank_books.specs.Balances.{account_count, account_deltas, account_opening, account_row, deltas_up_to, turn_count}
use Rattle.bank_books.specs.Effects.{written}
use Rattle.bank_books.specs.Keys.{account_key}
use Rattle.bank_books.specs.Records.{account_record_of, branch_record_of, entry_record_of}
use Rattle.bank_books.specs.WorldLists.{WorldLists}
use Rattle.bank_books.specs.declared.row_write.RowWrite.TheVariants as write
use Rattle.bank_books.specs.declared.rows.Account.{Account}
use Rattle.bank_books.specs.declared.rows.Branch.{Branch}
use Rattle.bank_books.specs.declared.rows.Entry.{Entry}
use Rattle.book_laws.specs.Laws.{AccountKeepsBooks, AccountKeepsLedger, AccountMoves}
use Rattle.book_laws.specs.Ledger.{IsAccountSound, IsOpenLedger, account_sum}
use Rattle.book_laws.specs.Limits.{AreWithinLimits, IsAccountWithin, IsBranchWithin}
use Rattle.book_laws.specs.Moves.{branch_homed}
use Rattle.book_laws.specs.Next.{IsNextAccount}
use Rattle.book_laws.proofs.BooksSplit.{books_parts}
use Rattle.book_laws.proofs.LimitsKept.{limits_moved}
use Rattle.keyed_rows.proofs.Rows.{AreDistinct-add_row, Contains-add_row_cases, Contains-add_row_new, HasRow-add_row, count_named, count_none, count_other, each_added, find-add_row, find_of_key, found_row, total_kept, total_none}

-- ---- what is in it

-- no entry names it, since entries name accounts that are there
unnamed : (w : WorldLists) (a : Account) → IsNextAccount w a → IsOpenLedger w → (e : Entry) → Contains w.entries e → (e.account == a.account) ≡ false
unnamed w a new ledger e there = ne_eqb e.account a.account (λ same.
    let account = (ledger.entries.each e there).account in
    new.free account.0 account.1.0 (account.1.1 ∙ same))

nothing : (a t : ℤ) → a ≡ pos 0 → t ≡ pos 0 → a +ℤ t ≡ pos 0
nothing a t opening deltas = omega (arith, ints)

no_balance : (w : WorldLists) (a : Account) → IsNextAccount w a → IsOpenLedger w → account_sum w.entries a ≡ pos 0
no_balance w a new ledger =
    nothing a.opening (account_deltas a.account w.entries) new.empty (total_none (λ e. e.account == a.account) (λ e. e.delta) w.entries (unnamed w a new ledger))

no_turns : (w : WorldLists) (a : Account) → IsNextAccount w a → IsOpenLedger w → turn_count a.account w.entries ≡ 0
no_turns w a new ledger = count_none (λ e. e.account == a.account) w.entries (unnamed w a new ledger)

-- ---- what it moves

opening_stays : (w : WorldLists) (a : Account) → IsNextAccount w a → IsOpenLedger w → (key : ℕ) → account_opening key (add_row account_key a w.accounts) ≡ account_opening key w.accounts
opening_stays w a new ledger key = go (cases_Bool (a.account == key)) (account_row key w.accounts) refl
  where
    go : ((a.account == key) ≡ true) ⊎ ((a.account == key) ≡ false) → (o : Option Account) → account_row key w.accounts ≡ o → account_opening key (add_row account_key a w.accounts) ≡ account_opening key w.accounts
    go (inr other) o is = ap (λ o. option_map_or (λ row. row.opening) o (pos 0)) (find-add_row account_key (λ row. row.account == key) a w.accounts other)
    go (inl named) None is =
        ap (λ o. option_map_or (λ row. row.opening) o (pos 0))
        (find_of_key account_key key (add_row account_key a w.accounts) a (AreDistinct-add_row account_key a w.accounts ledger.accounts.keys new.free) (Contains-add_row_new account_key a w.accounts)
        (eqb-true a.account key named))
        ∙ new.empty ∙ sym (ap (λ o. option_map_or (λ row. row.opening) o (pos 0)) is)
    go (inl named) (Some row) is =
        let there = found_row account_key key w.accounts row is in
        absurd (new.free row there.0 (there.1 ∙ sym (eqb-true a.account key named)))

homes_move : (w : WorldLists) (a : Account) (row : Branch) (named : Bool) → (a.home == row.branch) ≡ named
    → branch_record_of (written (write.Account a) w) row ≡ (if named then branch_homed (branch_record_of w row) else branch_record_of w row)
homes_move w a row true is = ap (λ n. record (branch_record_of w row) { accounts = n }) (count_named account_key (λ r. r.home == row.branch) a w.accounts is)
homes_move w a row false is = ap (λ n. record (branch_record_of w row) { accounts = n }) (count_other account_key (λ r. r.home == row.branch) a w.accounts is)

pub account_moves : AccountMoves
account_moves w a new ledger = record {
  branches = λ row. homes_move w a row (a.home == row.branch) refl;
  accounts = λ row. refl;
  entries = λ row. ap (λ z. record (entry_record_of w row) { balance_after = z +ℤ deltas_up_to row.account row.turn w.entries }) (opening_stays w a new ledger row.account);
  new =
      ap (λ z. record (account_record_of w a) { balance = z }) (no_balance w a new ledger)
      ∙ ap (λ n. record (account_record_of w a) { balance = pos 0; turns = n }) (no_turns w a new ledger);
  nothing = record {
    branch_balances = λ key. refl;
    teller_balances = λ key. refl;
    account_balances = λ key. ap (λ z. z +ℤ account_deltas key w.entries) (opening_stays w a new ledger key);
    cash = λ branch place. refl;
  };
}

-- ---- what it keeps

account_keeps_rows : (w : WorldLists) (a : Account) → IsNextAccount w a → IsOpenLedger w → IsOpenLedger (written (write.Account a) w)
account_keeps_rows w a new ledger =
    let sum_stays = total_kept account_key (account_sum w.entries) a w.accounts (no_balance w a new ledger) in
    record {
      branches = ledger.branches;
      tellers = ledger.tellers;
      accounts = record {
        keys = AreDistinct-add_row account_key a w.accounts ledger.accounts.keys new.free;
        each = each_added account_key a w.accounts (IsAccountSound w.branches) new.sound ledger.accounts.each;
      };
      entries = record {
        each = λ e there.
            let was = ledger.entries.each e there in
            record {
              branch = was.branch;
              account = HasRow-add_row account_key a w.accounts e.account was.account;
              teller = was.teller;
              moment = was.moment;
              day = was.day;
              user = was.user;
              partner = was.partner;
              undoes = was.undoes;
            };
        numbers = ledger.entries.numbers;
        turns = ledger.entries.turns;
      };
      lines = ledger.lines;
      proofs = ledger.proofs;
      releases = ledger.releases;
      slips = ledger.slips;
      users = ledger.users;
      version = ledger.version;
      sums = record {
        of_tellers = ledger.sums.of_tellers ∙ sym sum_stays;
        of_branches = ledger.sums.of_branches ∙ sym sum_stays;
        of_each_branch = ledger.sums.of_each_branch;
      };
    }

pub account_keeps_ledger : AccountKeepsLedger
account_keeps_ledger w a new ledger = record { rows = account_keeps_rows w a new ledger.rows; named = ledger.named; balanced = ledger.balanced }

-- ---- the limits

nothing_within : (a : Account) → a.floor ≤ℤ pos 0 → IsAccountWithin (record { row = a; balance = pos 0; turns = 0 })
nothing_within a floor = record { balance = (omega (arith, ints), omega (arith, ints)); above_floor = floor; turns = omega arith }

account_keeps_limits : (w : WorldLists) (a : Account) → IsNextAccount w a → account_count a.home w.accounts + 1 ≤ max_accounts → IsOpenLedger w → AreWithinLimits w → AreWithinLimits (written (write.Account a) w)
account_keeps_limits w a new room ledger limits = limits_moved w (written (write.Account a) w) limits (record {
  branches = λ row there. elim (cases_Bool (a.home == row.branch)) [
    | inl named ↦
        let was = limits.branches row there in
        inr (subst IsBranchWithin (sym (homes_move w a row true named)) (record {
          history = was.history;
          cash = was.cash;
          accounts = subst (λ k. account_count k w.accounts + 1 ≤ max_accounts) (eqb-true a.home row.branch named) room;
        }))
    | inr other ↦ inl (there, homes_move w a row false other)
  ];
  tellers = λ row there. inl (there, refl);
  accounts = λ row there. elim (Contains-add_row_cases account_key a w.accounts row there) [
    | inl is ↦ inr (subst (λ r. IsAccountWithin (account_record_of w r)) is (subst IsAccountWithin (sym (account_moves w a new ledger).new) (nothing_within a new.sound.floor.1)))
    | inr before ↦ inl (before, refl)
  ];
  entries = λ row there. inl (there, (account_moves w a new ledger).entries row);
})

pub account_keeps_books : AccountKeepsBooks
account_keeps_books w a new room books =
    let parts = (books_parts w).0 books in
    (books_parts (written (write.Account a) w)).1 (account_keeps_ledger w a new parts.0, account_keeps_limits w a new room parts.0.rows parts.1)
