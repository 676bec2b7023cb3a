-- An account that is opened at both banks leaves them alike.
use Rattle.std.proofs.Common.{◌≡◌, ◌==◌, ◌+◌, ◌+ℤ◌, ◌∙◌, ℕ, pos, Bool, true, false, cond, Option, Some, None, Contains, refl, ap, ap₂, arith, sym, subst}
use Rattle.std.specs.Prelude.{option_map}
use Rattle.std.proofs.lemmas.Bool.{eqb-true, ne_eqb}
use Rattle.keyed_rows.proofs.Rows.{count-add_row, count_none, find-add_row, found_row, total_none}
use Rattle.bank_books.specs.Balances.{account_deltas, account_row, branch_row, turn_count}
use Rattle.bank_books.specs.Effects.{written}
use Rattle.bank_books.specs.Keys.{account_key, branch_key}
use Rattle.bank_books.specs.Records.{account_record, account_record_of, branch_record, branch_record_of}
use Rattle.bank_books.specs.WorldLists.{WorldLists}
use Rattle.bank_books.specs.declared.row_write.RowWrite.TheVariants as write
use Rattle.bank_books.specs.declared.rows.Account.{Account}
use Rattle.bank_books.specs.declared.rows.Branch.{Branch}
use Rattle.bank_books.specs.declared.rows.Entry.{Entry}
use Rattle.year_laws.specs.GoesOn.{AreBoth, IsSameAccount, IsSameBranch, Turn}
use Rattle.year_laws.specs.StaysAlike.{AddsLast, StayAlike}
use Rattle.year_laws.proofs.NextRows.{account_adds}
use Rattle.year_laws.proofs.RowsAlike.{both_moved, carried, found_added}

-- ---- an account that is not there

not_opened : (o : Option Account) (row : Account) → o ≡ None → o ≡ Some row → ⊥
not_opened None row none some = absurd cc
not_opened (Some a) row none some = absurd cc

-- no entry is of it
pub none_of_it : (w : WorldLists) → AddsLast w → (key : ℕ) → account_row key w.accounts ≡ None → (e : Entry) → Contains w.entries e → (e.account == key) ≡ false
none_of_it w adds key none e there =
    let opened = adds.accounts e there in
    ne_eqb e.account key (λ same. not_opened (account_row e.account w.accounts) opened.0 (ap (λ k. account_row k w.accounts) same ∙ none) opened.1)

pub no_turns : (w : WorldLists) → AddsLast w → (key : ℕ) → account_row key w.accounts ≡ None → turn_count key w.entries ≡ 0
no_turns w adds key none = count_none (λ e. e.account == key) w.entries (none_of_it w adds key none)

no_deltas : (w : WorldLists) → AddsLast w → (key : ℕ) → account_row key w.accounts ≡ None → account_deltas key w.entries ≡ pos 0
no_deltas w adds key none = total_none (λ e. e.account == key) (λ e. e.delta) w.entries (none_of_it w adds key none)

none_at_all : (a b n : ℕ) → a ≡ 0 → b ≡ 0 → n ≡ 0 → a ≡ b + n
none_at_all a b n first second third = omega (arith, first, second, third)

-- ---- the two banks with it

module _ (t : Turn) (old new : WorldLists) (stay : StayAlike t old new) (a : Account) (old_free : account_row a.account old.accounts ≡ None) (new_free : account_row a.account new.accounts ≡ None) where
  abbrev old_after : WorldLists
  old_after = written (write.Account a) old

  abbrev new_after : WorldLists
  new_after = written (write.Account a) new

  opened_alike : IsSameAccount (t.turns a.account) (account_record_of old a) (account_record_of new a)
  opened_alike = record {
    home = refl;
    floor = refl;
    balance = ap (λ z. a.opening +ℤ z) (no_deltas old stay.old_adds a.account old_free ∙ sym (no_deltas new stay.new_adds a.account new_free));
    turns = none_at_all _ _ _ (no_turns old stay.old_adds a.account old_free) (no_turns new stay.new_adds a.account new_free) (stay.turns a.account old_free);
  }

  accounts : (key : ℕ) → AreBoth (IsSameAccount (t.turns key)) (account_record old_after key) (account_record new_after key)
  accounts key = go (a.account == key) refl
    where
      go : (c : Bool) → (a.account == key) ≡ c → AreBoth (IsSameAccount (t.turns key)) (account_record old_after key) (account_record new_after key)
      go true is =
          let at : a.account ≡ key = eqb-true a.account key is in
          carried (AreBoth (IsSameAccount (t.turns key))) _ _ _ _
          (ap (option_map (account_record_of old)) (found_added account_key (λ r. r.account == key) a old.accounts is (ap (λ k. account_row k old.accounts) (sym at) ∙ old_free)))
          (ap (option_map (account_record_of new)) (found_added account_key (λ r. r.account == key) a new.accounts is (ap (λ k. account_row k new.accounts) (sym at) ∙ new_free)))
          (subst (λ k. IsSameAccount (t.turns k) (account_record_of old a) (account_record_of new a)) at opened_alike)
      go false is =
          carried (AreBoth (IsSameAccount (t.turns key))) _ _ _ _
          (ap (option_map (account_record_of old)) (find-add_row account_key (λ r. r.account == key) a old.accounts is))
          (ap (option_map (account_record_of new)) (find-add_row account_key (λ r. r.account == key) a new.accounts is)) (stay.alike.accounts key)

  homes_after : (x y : Branch) → x.branch ≡ y.branch → (branch_record_of old x).accounts ≡ (branch_record_of new y).accounts → (branch_record_of old_after x).accounts ≡ (branch_record_of new_after y).accounts
  homes_after x y at same =
      count-add_row account_key (λ r. r.home == x.branch) a old.accounts
      ∙ ap₂ (λ n k. n + cond (a.home == k) 1 0) same at
      ∙ sym (count-add_row account_key (λ r. r.home == y.branch) a new.accounts)

  branches : (key : ℕ) → AreBoth (IsSameBranch (t.entries key)) (branch_record old_after key) (branch_record new_after key)
  branches key =
      both_moved (IsSameBranch (t.entries key)) (branch_record_of old) (branch_record_of old_after) (branch_record_of new) (branch_record_of new_after) (branch_row key old.branches) (branch_row key new.branches)
      (stay.alike.branches key) (λ x y x_is y_is same. record {
        day = same.day;
        balance = same.balance;
        vault = same.vault;
        entries = same.entries;
        accounts =
            homes_after x y ((found_row branch_key key old.branches x x_is).1 ∙ sym (found_row branch_key key new.branches y y_is).1) same.accounts;
      })

  turns : (key : ℕ) → account_row key old_after.accounts ≡ None → t.turns key ≡ 0
  turns key none = go (a.account == key) refl
    where
      go : (c : Bool) → (a.account == key) ≡ c → t.turns key ≡ 0
      go true is = stay.turns key (ap (λ k. account_row k old.accounts) (sym (eqb-true a.account key is)) ∙ old_free)
      go false is = stay.turns key (sym (find-add_row account_key (λ r. r.account == key) a old.accounts is) ∙ none)

  -- An account that is at neither of them yet.
  pub account_stays : StayAlike t old_after new_after
  account_stays = record {
    alike = record {
      accounts = accounts;
      tellers = stay.alike.tellers;
      branches = branches;
      rosters = stay.alike.rosters;
      entries = stay.alike.entries;
      undone = stay.alike.undone;
      users = stay.alike.users;
    };
    old_adds = account_adds old a stay.old_adds old_free;
    new_adds = account_adds new a stay.new_adds new_free;
    turns = turns;
    given = stay.given;
    releases = stay.releases;
  }
