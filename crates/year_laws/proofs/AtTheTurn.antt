-- When the year turns, the bank that goes on and the next year's are alike.
use Rattle.std.proofs.Common.{◌≡◌, ◌≢◌, ◌≤◌, ◌+◌, ◌==◌, ◌&&◌, ◌||◌, ◌∙◌, inl, inr, ℕ, Bool, true, false, not, cond, List, [], ◌∷◌, map, Option, Some, None, refl, ap, ap₂, sym, subst, arith, Contains}
use Rattle.std.specs.Prelude.{option_map}
use Rattle.std.specs.List.{filter, list_any}
use Rattle.std.proofs.lemmas.Bool.{and_parts, eqb-true}
use Rattle.keyed_rows.proofs.DistinctKeys.{key_parts}
use Rattle.keyed_rows.proofs.Rows.{Contains-head, Contains-map, Contains-tail, find-found}
use Rattle.bank_books.specs.Balances.{account_row, branch_row, entry_count, teller_row, turn_count}
use Rattle.bank_books.specs.Books.{Books}
use Rattle.bank_books.specs.Records.{account_record, account_record_of, branch_record, branch_record_of, entry_record_of, teller_record, teller_record_of}
use Rattle.bank_books.specs.WorldLists.{WorldLists}
use Rattle.bank_books.specs.declared.rows.Account.{Account}
use Rattle.bank_books.specs.declared.rows.Branch.{Branch}
use Rattle.bank_books.specs.declared.rows.Entry.{Entry}
use Rattle.bank_books.specs.declared.rows.Teller.{Teller}
use Rattle.world_reads.specs.BookReads.{entry, is_entry, is_teller_of, roster, undoes_entry, undone}
use Rattle.year_forward.specs.Closed.{IsClosed, IsDrawerClosed}
use Rattle.year_forward.specs.Forward.{carried_account_record, carried_branch_record, carried_teller, carried_teller_record, forward}
use Rattle.year_forward.proofs.CarriedRows.{plus_zero}
use Rattle.year_forward.proofs.Standing.{records_begin_afresh}
use Rattle.year_laws.specs.GoesOn.{AreBoth, AreEach, IsSameAccount, IsSameBranch, IsSameTeller}
use Rattle.year_laws.specs.JudgedAlike.{YearTurns}

none_before : (n : ℕ) → n ≡ 0 + n
none_before n = omega arith

module _ (w : WorldLists) (books : Books w) (closed : IsClosed w) where
  accounts : (key : ℕ) → AreBoth (IsSameAccount (turn_count key w.entries)) (account_record w key) (account_record (forward w) key)
  accounts key = subst (AreBoth (IsSameAccount (turn_count key w.entries)) (account_record w key)) (sym ((records_begin_afresh w).accounts key)) (go (account_row key w.accounts) refl)
    where
      go : (o : Option Account) → account_row key w.accounts ≡ o → AreBoth (IsSameAccount (turn_count key w.entries)) (option_map (account_record_of w) o) (option_map carried_account_record (option_map (account_record_of w) o))
      go None is = tt
      go (Some a) is =
          let key_is = eqb-true a.account key (find-found (λ row. row.account == key) w.accounts a is).1 in
          record { home = refl; floor = refl; balance = refl; turns = ap (λ k. turn_count k w.entries) key_is ∙ none_before (turn_count key w.entries) }

  drawer_closed : (t : Teller) → Contains w.tellers t → IsDrawerClosed w t
  drawer_closed t there = (closed t.branch).drawers t there refl

  tellers : (key : ℕ) → AreBoth IsSameTeller (teller_record w key) (teller_record (forward w) key)
  tellers key = subst (AreBoth IsSameTeller (teller_record w key)) (sym ((records_begin_afresh w).tellers key)) (go (teller_row key w.tellers) refl)
    where
      go : (o : Option Teller) → teller_row key w.tellers ≡ o → AreBoth IsSameTeller (option_map (teller_record_of w) o) (option_map carried_teller_record (option_map (teller_record_of w) o))
      go None is = tt
      go (Some t) is =
          let drawer = drawer_closed t (find-found (λ row. row.teller == key) w.tellers t is).0 in
          record { teller = refl; branch = refl; balance = refl; cash = drawer.empty; holder = drawer.free }

  branches : (key : ℕ) → AreBoth (IsSameBranch (entry_count key w.entries)) (branch_record w key) (branch_record (forward w) key)
  branches key = subst (AreBoth (IsSameBranch (entry_count key w.entries)) (branch_record w key)) (sym ((records_begin_afresh w).branches key)) (go (branch_row key w.branches) refl)
    where
      go : (o : Option Branch) → branch_row key w.branches ≡ o → AreBoth (IsSameBranch (entry_count key w.entries)) (option_map (branch_record_of w) o) (option_map carried_branch_record (option_map (branch_record_of w) o))
      go None is = tt
      go (Some b) is =
          let key_is = eqb-true b.branch key (find-found (λ row. row.branch == key) w.branches b is).1 in
          record { day = refl; balance = refl; vault = refl; entries = ap (λ k. entry_count k w.entries) key_is ∙ none_before (entry_count key w.entries); accounts = refl }

  rosters : (branch : ℕ) → AreEach IsSameTeller (roster w branch) (roster (forward w) branch)
  rosters branch = go w.tellers (λ t there. drawer_closed t there)
    where
      chosen : (b : Bool) (t : Teller) (olds news : List Teller) → IsDrawerClosed w t → AreEach IsSameTeller (map (teller_record_of w) olds) (map (teller_record_of (forward w)) news)
          → AreEach IsSameTeller (map (teller_record_of w) (cond b (t ∷ olds) olds)) (map (teller_record_of (forward w)) (cond b (carried_teller w t ∷ news) news))
      chosen true t olds news drawer rest =
          (record { teller = refl; branch = refl; balance = sym (plus_zero (teller_record_of w t).balance); cash = drawer.empty; holder = drawer.free }, rest)
      chosen false t olds news drawer rest = rest

      go : (ts : List Teller) → ((t : Teller) → Contains ts t → IsDrawerClosed w t)
          → AreEach IsSameTeller (map (teller_record_of w) (filter (is_teller_of branch) ts)) (map (teller_record_of (forward w)) (filter (is_teller_of branch) (map (carried_teller w) ts)))
      go [] each = tt
      go (t ∷ ts) each =
          chosen (is_teller_of branch t) t (filter (is_teller_of branch) ts) (filter (is_teller_of branch) (map (carried_teller w) ts)) (each t (Contains-head t ts))
          (go ts (λ u there. each u (Contains-tail t ts u there)))

  -- ---- entries, which are numbered up to their count

  below : (e : Entry) → Contains w.entries e → (branch : ℕ) → e.branch ≡ branch → e.number ≤ entry_count branch w.entries
  below e there branch of = (books.history_agrees branch).numbered.numbers.high e there of

  past : (e : Entry) → Contains w.entries e → (branch number : ℕ) → number ≢ 0 → e.branch ≡ branch → e.number ≡ number + entry_count branch w.entries → ⊥
  past e there branch number some of is = some (let high = below e there branch of in omega (arith, high, is))

  entries : (branch number : ℕ) → number ≢ 0 → entry w branch (number + entry_count branch w.entries) ≡ None
  entries branch number some = go (entry w branch (number + entry_count branch w.entries)) refl
    where
      go : (o : Option Entry) → entry w branch (number + entry_count branch w.entries) ≡ o → o ≡ None
      go None is = refl
      go (Some e) is =
          let found = find-found (is_entry branch (number + entry_count branch w.entries)) w.entries e is in
          let parts = and_parts (e.branch == branch) (e.number == number + entry_count branch w.entries) found.1 in
          absurd (past e found.0 branch number some (eqb-true e.branch branch parts.0) (eqb-true e.number (number + entry_count branch w.entries) parts.1))

  -- what an entry undoes is one that is there
  undoes_none : (branch number : ℕ) → number ≢ 0 → (e : Entry) → Contains w.entries e → undoes_entry branch (number + entry_count branch w.entries) e ≡ false
  undoes_none branch number some e there = go (undoes_entry branch (number + entry_count branch w.entries) e) refl
    where
      go : (b : Bool) → undoes_entry branch (number + entry_count branch w.entries) e ≡ b → b ≡ false
      go false is = refl
      go true is =
          let parts = and_parts (e.branch == branch) (e.undoes == number + entry_count branch w.entries) is in
          let of = eqb-true e.branch branch parts.0 in
          let undoes = eqb-true e.undoes (number + entry_count branch w.entries) parts.1 in
          let range = books.in_range.entries (entry_record_of w e) (Contains-map (entry_record_of w) w.entries e there) in
          absurd (elim range.undone_there [
            | inl zero ↦ some (omega (arith, zero, undoes))
            | inr row ↦
                let other = books.in_range.entries (entry_record_of w row.0) (Contains-map (entry_record_of w) w.entries row.0 row.1.0) in
                let same = key_parts row.0.branch row.0.number e.branch e.undoes (omega (arith, other.number)) (omega (arith, range.undoes)) row.1.1 in
                past row.0 row.1.0 branch number some (same.0 ∙ of) (same.1 ∙ undoes)
          ])

  none_undone : (branch number : ℕ) → number ≢ 0 → list_any (undoes_entry branch (number + entry_count branch w.entries)) w.entries ≡ false
  none_undone branch number some = go w.entries (λ e there. undoes_none branch number some e there)
    where
      go : (es : List Entry) → ((e : Entry) → Contains es e → undoes_entry branch (number + entry_count branch w.entries) e ≡ false) → list_any (undoes_entry branch (number + entry_count branch w.entries)) es ≡ false
      go [] each = refl
      go (e ∷ es) each = ap₂ (λ p q. p || q) (each e (Contains-head e es)) (go es (λ u there. each u (Contains-tail e es u there)))

  nothing_after : (a b : Bool) → b ≡ false → (a && b) ≡ false
  nothing_after true b is = is
  nothing_after false b is = refl

  undone_same : (branch number : ℕ) → number ≢ 0 → undone w branch (number + entry_count branch w.entries) ≡ undone (forward w) branch number
  undone_same branch number some =
      nothing_after (not (number + entry_count branch w.entries == 0)) _ (none_undone branch number some)
      ∙ sym (nothing_after (not (number == 0)) false refl)

pub year_turns : YearTurns
year_turns w books closed = record {
  accounts = accounts w books closed;
  tellers = tellers w books closed;
  branches = branches w books closed;
  rosters = rosters w books closed;
  entries = entries w books closed;
  undone = undone_same w books closed;
  users = λ key. refl;
}
