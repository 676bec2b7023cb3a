-- The laws of a day that is closed.
use Rattle.bank_meaning.proofs.RepliedRows.{close_day_replied}
use Rattle.bank_meaning.proofs.AskedRows.{is_home}
use Rattle.bank_books.specs.declared.rows.Branch.{Branch}
use Rattle.bank_books.specs.declared.signature.Signature.{Signature}
use Rattle.bank_books.specs.Balances.{branch_deltas}
use Rattle.std.specs.Option.{option_map_or}
use Rattle.std.proofs.Common.{pos, ap}
use Rattle.bank_books.specs.Balances.{account_balance, branch_balance, entry_count, teller_balance}
use Rattle.bank_books.specs.Books.{Books}
use Rattle.bank_books.specs.Cash.{cash_entry_total, holder_of, place_cash, vault_opening}
use Rattle.bank_books.specs.Keys.{proof_key, branch_key}
use Rattle.bank_books.specs.Records.{branch_record, teller_record_of, branch_record_of}
use Rattle.bank_books.specs.WorldLists.{WorldLists}
use Rattle.bank_books.specs.declared.row_write.RowWrite.TheVariants as write
use Rattle.bank_books.specs.declared.rows.Proof.{Proof}
use Rattle.bank_meaning.proofs.AmountParts.{no_amount, placed}
use Rattle.bank_meaning.proofs.BookChanges.{by_row}
use Rattle.bank_meaning.proofs.IsForm.{AreWritten, IsForm}
use Rattle.bank_meaning.proofs.JudgedParts.{NoneDenies, branch_of_ledger, no_holder}
use Rattle.bank_meaning.proofs.KeptOrder.{in_order_all_written}
use Rattle.bank_meaning.proofs.NoMoves.{none_within}
use Rattle.bank_meaning.proofs.Steps.{IsStep, none_more, passes, plus_zero}
use Rattle.bank_meaning.specs.CloseDay.{IsCloseDayJudged, IsProofOf}
use Rattle.bank_meaning.specs.Moves.{moves_nothing}
use Rattle.bank_meaning.specs.Sums.{PassesChecks}
use Rattle.bank_meaning.specs.declared.who.Who.{Who}
use Rattle.bank_policy.proofs.RowsTell.{in_filter, from_filter}
use Rattle.bank_terms.specs.declared.rule.Rule.TheVariants as rule
use Rattle.book_laws.proofs.DayProved.{branch_still, proof_and_day_move_nothing}
use Rattle.book_laws.proofs.Kept.{kept_beside, kept_same}
use Rattle.book_laws.specs.Moves.{with_proof}
use Rattle.certify.proofs.SomeRows.{none_passes, all_of}
use Rattle.counter_ops.specs.declared.close_day.CloseDay.{CloseDay}
use Rattle.counter_ops.specs.declared.op.Op.TheVariants as op
use Rattle.drawers.proofs.AllowedClose as close_allowed
use Rattle.drawers.specs.CloseDay.{close_day_changes, close_day_effect, closing_rows, day_proof, first_against_close_day}
use Rattle.keyed_rows.proofs.Rows.{Contains-map, Contains-map_source, found_row}
use Rattle.rule_tests.specs.BranchParts.{ledger_of}
use Rattle.rule_tests.specs.declared.ledger.Ledger.{Ledger}
use Rattle.std.proofs.Common.{Bool, None, Option, Some, [], arith, false, refl, subst, sym, true, ℕ, ℤ, ◌+ℤ◌, ◌+◌, ◌∙◌, ◌∷◌, ◌≡◌, ◌≢◌, ◌≤◌, ap, int_lt, not, pos, ◌==◌}
use Rattle.std.proofs.lemmas.Bool.{eq-eqb, or_parts, and_from, eqb-true, le-leb, not_from_true}
use Rattle.std.proofs.lemmas.Int.{ints}
use Rattle.std.specs.List.{filter, list_any}
use Rattle.std.specs.Prelude.{is_none, is_some, option_map, unsigned_abs, if◌then◌else◌, nat_le}
use Rattle.world_reads.specs.BookReads.{is_teller_of, roster}
use Rattle.bank_books.specs.declared.rows.Branch.{Branch}
use Rattle.bank_books.specs.Range.{IsDay}
use Rattle.book_laws.proofs.BooksSplit.{books_parts}
use Rattle.money.specs.Range.{is_cents}
use Rattle.bank_meaning.proofs.PassingParts.{is_money, limits_of, money_of_cash, none_by, is_at_least, room_is_left}
use Rattle.std.proofs.lemmas.List.Folds.{list_any_none}
use Rattle.bank_terms.specs.Limits.{max_day, max_key}
use Rattle.bank_books.specs.Effects.{on_day}

same_opening : (before after rest : ℤ) → after +ℤ rest ≡ before +ℤ rest → after ≡ before
same_opening before after rest same = omega (arith, ints)

proves : (w : WorldLists) (p : Proof) → PassesChecks w → Books (with_proof p w) → IsStep w (with_proof p w) moves_nothing
proves w p checks books =
    let nothing = proof_and_day_move_nothing w p in
    record {
      checks = passes w (with_proof p w) checks (in_order_all_written (write.Proof p ∷ write.Day (record { branch = p.branch; day = p.day + 1 }) ∷ []) w checks.in_order) refl books;
      branches = λ key. nothing.branch_balances key ∙ plus_zero (branch_balance w key);
      tellers = λ key. nothing.teller_balances key ∙ plus_zero (teller_balance w key);
      accounts = λ key. nothing.account_balances key ∙ plus_zero (account_balance w key);
      history = λ branch. none_more (entry_count branch w.entries);
      cash_entries = λ branch. plus_zero (cash_entry_total branch w.lines);
      stay = λ branch there. branch_still w p branch there;
      vaults = λ branch. same_opening (vault_opening branch w.branches) (vault_opening branch (with_proof p w).branches) (place_cash branch 0 w.lines) (nothing.cash branch 0);
      added = record { entries = kept_same w.entries; lines = kept_same w.lines; proofs = kept_beside proof_key p w.proofs };
    }

closes : (w : WorldLists) (form : CloseDay) → PassesChecks w → first_against_close_day (closing_rows w form) ≡ None → IsStep w (close_day_effect w form) moves_nothing
closes w form checks is =
    let there = close_allowed.is_there w form (close_allowed.is_allowed (closing_rows w form) is) in
    let effect = close_allowed.effect_is w form there in
    subst (λ after. IsStep w after moves_nothing) (sym effect)
    (proves w (close_allowed.proof_of w form there) checks (subst Books effect (close_allowed.close_day_keeps_books w form checks.books is)))

close_day_lines : (w : WorldLists) (form : CloseDay) (branch place : ℕ) → unsigned_abs (placed branch place (close_day_changes (closing_rows w form) form)) ≤ 0
close_day_lines w form branch place = go (closing_rows w form).ledger (closing_rows w form).vault
  where
    go : (l : Option Ledger) (v : Option ℤ) → unsigned_abs (placed branch place (close_day_changes (record (closing_rows w form) { ledger = l; vault = v }) form)) ≤ 0
    go (Some l) (Some v) = no_amount 0
    go (Some l) None = no_amount 0
    go None v = no_amount 0

is_false : (b : Bool) → b ≢ true → b ≡ false
is_false false is = refl
is_false true is = absurd (is refl)

not_next : (day : ℕ) → day ≢ day + 1
not_next day same = omega arith

close_day_asked : (by : Signature) (w : WorldLists) (form : CloseDay) → IsCloseDayJudged w form
    → AreWritten (op.CloseDay form) by w (close_day_changes (closing_rows w form) form)
close_day_asked by w form judged =
    let branch : Branch = judged.branch.0 in
    let home = is_home w form.branch branch judged.branch.1 in
    let found = sym judged.branch.1 in
    let proof : IsProofOf w form (day_proof (ledger_of (branch_record_of w branch)) (branch_record_of w branch).vault form) = record {
      branch = refl;
      entries = ap (λ key. entry_count key w.entries) home.key;
      balance =
          ap (λ key. branch.opening +ℤ branch_deltas key w.entries) home.key
          ∙ ap (λ (o : Option Branch). option_map_or (λ r. r.opening) o (pos 0) +ℤ branch_deltas form.branch w.entries) found;
      cash =
          ap (λ key. branch.cash +ℤ place_cash key 0 w.lines) home.key
          ∙ ap (λ (o : Option Branch). option_map_or (λ r. r.cash) o (pos 0) +ℤ place_cash form.branch 0 w.lines) found;
    } in
    subst (AreWritten (op.CloseDay form) by w) (sym (close_allowed.changes_are w form (record { branch = branch; branch_is = judged.branch.1 }))) (record {
      asked = (day_proof (ledger_of (branch_record_of w branch)) (branch_record_of w branch).vault form, branch.day + 1, refl, proof, ap (option_map (λ d. d + 1)) home.day);
      bear = (home.day, (tt, tt));
      days = (refl, (branch, judged.branch.1, not_next branch.day));
    })

close_day_judged : (w : WorldLists) (who : Who) (moment : ℕ) (form : CloseDay) → NoneDenies w who moment (op.CloseDay form) → IsCloseDayJudged w form
close_day_judged w who moment form none =
    let ledger = option_map ledger_of (branch_record w form.branch) in
    let vault = option_map (λ b. b.vault) (branch_record w form.branch) in
    let known = or_parts (is_none ledger) (is_none vault) (none rule.Unknown) in
    record {
      branch = branch_of_ledger w form.branch known.0;
      drawers = λ t there of.
          no_holder (holder_of w.lines t.teller)
          (is_false (is_some (holder_of w.lines t.teller))
          (none_passes (λ r. is_some r.holder) (roster w form.branch) (none rule.Day) (teller_record_of w t)
          (Contains-map (teller_record_of w) (filter (is_teller_of form.branch) w.tellers) t (in_filter (is_teller_of form.branch) w.tellers t there (eq-eqb t.branch form.branch of)))));
    }

-- nobody holds a drawer of the branch
none_held : (w : WorldLists) (form : CloseDay) → IsCloseDayJudged w form → list_any (λ t. is_some t.holder) (roster w form.branch) ≡ false
none_held w form judged =
    list_any_none (λ t. is_some t.holder) (roster w form.branch) (all_of (λ t. is_some t.holder ≡ false) (roster w form.branch) (λ t there.
    let teller = Contains-map_source (teller_record_of w) (filter (is_teller_of form.branch) w.tellers) t there in
    let kept = from_filter (is_teller_of form.branch) w.tellers teller.0 teller.1.0 in
    subst (λ t. is_some t.holder ≡ false) teller.1.1 (ap is_some (judged.drawers teller.0 kept.0 (eqb-true teller.0.branch form.branch kept.1)))))

-- the branch has a next day
has_next_day : (w : WorldLists) (form : CloseDay) (there : close_allowed.IsThere w form) → Books (close_day_effect w form) → there.branch.day + 1 ≤ max_day
has_next_day w form there books =
    let row = there.branch in
    let next = λ (b : Branch). if b.branch == form.branch then on_day (row.day + 1) b else b in
    let found = found_row branch_key form.branch w.branches row there.branch_is in
    let after = ((books_parts (with_proof (close_allowed.proof_of w form there) w)).0 (subst Books (close_allowed.effect_is w form there) books)).0.rows.branches in
    let day = (after.each (next row) (Contains-map next w.branches row found.0)).day in
    (subst (λ b. IsDay (if b then on_day (row.day + 1) row else row).day) (eq-eqb row.branch form.branch found.1) day).1

close_day_passes : (w : WorldLists) (form : CloseDay) → PassesChecks w → IsCloseDayJudged w form → Books (close_day_effect w form) → first_against_close_day (closing_rows w form) ≡ None
close_day_passes w form checks judged books =
    let there : close_allowed.IsThere w form = record { branch = judged.branch.0; branch_is = judged.branch.1 } in
    let b = branch_record_of w there.branch in
    let within = (limits_of w checks.books).branches there.branch (found_row branch_key form.branch w.branches there.branch there.branch_is).0 in
    let ledger = and_from (is_cents b.balance) (nat_le b.entries max_key) (is_money b.balance within.history.balance_within) (le-leb b.entries max_key within.history.entries_within) in
    let vault = and_from (is_cents b.vault) (not (int_lt b.vault (pos 0))) (is_money b.vault (money_of_cash b.vault within.cash.vault_within)) (is_at_least b.vault (pos 0) within.cash.vault_within.0) in
    subst (λ o. first_against_close_day (close_allowed.rows_of w form o) ≡ None) (sym there.branch_is)
    (none_by _ rule.Range _ (not_from_true _ (and_from _ _ ledger vault))
    (none_by _ rule.Day _ (none_held w form judged) (none_by (nat_le max_day there.branch.day) rule.Full None (room_is_left max_day there.branch.day (has_next_day w form there books)) refl)))

pub close_day_is_form : (form : CloseDay) → IsForm (op.CloseDay form)
close_day_is_form form = record {
  said = λ by w. refl;
  books_alone = λ rows by. by_row _ rows.ledger (λ ledger. by_row _ rows.vault (λ vault. record { each = (refl, (refl, tt)) }));
  no_slips = λ s by w. refl;
  asks = λ is. absurd cc;
  in_json = λ is rows by. refl;
  reports_ask = λ is. absurd cc;
  no_commands = λ rows by. refl;
  steps = λ by w checks proper signed none. closes w form checks none;
  judged = λ w who moment none. close_day_judged w who moment form none;
  denies_no_more = λ by w checks proper judged books. close_day_passes w form checks judged books;
  moves = none_within _;
  cash = λ is by w branch place. close_day_lines w form branch place;
  asked = λ by w judged. close_day_asked by w form judged;
  replied = λ by w checks proper judged step. close_day_replied w form judged;
}
