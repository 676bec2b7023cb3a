-- The laws of a transfer.
use Rattle.bank_meaning.proofs.RepliedEntries.{transfer_replied}
use Rattle.bank_meaning.specs.AskedRows.{entry_says}
use Rattle.bank_meaning.proofs.AskedRows.{account_found, is_home, partnered}
use Rattle.bank_books.specs.Books.{Books}
use Rattle.bank_books.specs.Effects.{applied, written}
use Rattle.bank_books.specs.Records.{account_record, account_record_of, branch_record, branch_record_of, teller_record}
use Rattle.bank_books.specs.WorldLists.{WorldLists}
use Rattle.bank_books.specs.declared.records.AccountRecord.{AccountRecord}
use Rattle.bank_books.specs.declared.row_write.RowWrite.TheVariants as write
use Rattle.bank_books.specs.declared.rows.Branch.{Branch}
use Rattle.bank_books.specs.declared.rows.Entry.{Entry}
use Rattle.bank_books.specs.declared.signature.Signature.{Signature}
use Rattle.bank_meaning.proofs.AmountParts.{no_amount, out_in, placed}
use Rattle.bank_meaning.proofs.BookChanges.{by_row}
use Rattle.bank_meaning.proofs.IsForm.{AreWritten, IsForm}
use Rattle.bank_meaning.proofs.JudgedParts.{NoneDenies, branch_of_ledger, holds_drawer, keeps_floor}
use Rattle.bank_meaning.proofs.Shares.{legs_cancel, legs_count, two_alone}
use Rattle.bank_meaning.proofs.Steps.{IsStep, IsSumOf, plan_step}
use Rattle.bank_meaning.specs.Transfer.{IsTransferJudged}
use Rattle.bank_meaning.specs.Operations.{moves_of}
use Rattle.bank_meaning.specs.PolicyRules.{asker}
use Rattle.bank_meaning.specs.Sums.{PassesChecks}
use Rattle.bank_meaning.specs.declared.who.Who.{Who}
use Rattle.bank_terms.specs.declared.rule.Rule.TheVariants as rule
use Rattle.counter_ops.specs.Transfer.{IsTransfer}
use Rattle.counter_ops.specs.declared.op.Op.TheVariants as op
use Rattle.counter_ops.specs.declared.transfer.Transfer.{Transfer}
use Rattle.postings.proofs.AllowedTransfer as transfer_allowed
use Rattle.postings.specs.Transfer.{given, first_against_transfer, first_leg, second_leg, taken, transfer_changes, transfer_effect, transfer_rows}
use Rattle.rule_tests.specs.BranchParts.{ledger_of}
use Rattle.rule_tests.specs.Rules.{account_keeps_floor}
use Rattle.rule_tests.specs.Signed.{IsSigned}
use Rattle.rule_tests.specs.declared.ledger.Ledger.{Ledger}
use Rattle.std.proofs.Common.{None, Option, Some, [], ap, neg_ℤ, pos, refl, subst, sym, ℕ, ◌==◌, ◌||◌, ◌∷◌, ◌≡◌, ◌≤◌}
use Rattle.std.proofs.lemmas.Bool.{and_parts, not-false, or_parts, and_from, not_from_true, or_from}
use Rattle.std.specs.Prelude.{if◌then◌else◌, is_none, neg_ℤ, option_map, unsigned_abs}
use Rattle.bank_books.specs.Keys.{account_key, branch_key}
use Rattle.keyed_rows.proofs.Rows.{found_row}
use Rattle.bank_meaning.proofs.PassingParts.{holds_it, is_above_floor, is_of_branch, legs_have_room, none_by}

transfer_sums : (source target : AccountRecord) (ledger : Ledger) (transfer : Transfer) (by : Signature)
    → IsSumOf (write.Entry (first_leg source ledger transfer by) ∷ write.Entry (second_leg target ledger transfer by) ∷ []) (moves_of (op.Transfer transfer))
transfer_sums source target ledger transfer by = record {
  branches = λ key. legs_cancel (transfer.branch == key) (pos transfer.amount);
  tellers = λ key. legs_cancel (transfer.teller == key) (pos transfer.amount);
  accounts = λ key. two_alone (if transfer.source == key then taken transfer else pos 0) (if transfer.target == key then pos transfer.amount else pos 0);
  entries = λ key. legs_count (transfer.branch == key);
  cash_entries = λ key. refl;
}

transfers : (w : WorldLists) (transfer : Transfer) (by : Signature) → PassesChecks w → IsTransfer transfer → IsSigned w by → first_against_transfer (transfer_rows w transfer) transfer by ≡ None
    → IsStep w (transfer_effect w transfer by) (moves_of (op.Transfer transfer))
transfers w transfer by checks proper signed is =
    let there = transfer_allowed.are_there w transfer by (transfer_allowed.is_allowed (transfer_rows w transfer) transfer by is) in
    let effect = ap (λ changes. applied changes w) (transfer_allowed.changes_are w transfer there by) in
    subst (λ after. IsStep w after (moves_of (op.Transfer transfer))) (sym effect)
    (plan_step w _ (moves_of (op.Transfer transfer)) checks (tt, (tt, tt))
    (transfer_sums (account_record_of w there.source) (account_record_of w there.target) (ledger_of (branch_record_of w there.branch)) transfer by)
    (subst Books effect (transfer_allowed.transfer_keeps_books w transfer by checks.books signed proper is)))

transfer_lines : (w : WorldLists) (t : Transfer) (by : Signature) (branch place : ℕ) → unsigned_abs (placed branch place (transfer_changes (transfer_rows w t) t by)) ≤ t.amount
transfer_lines w t by branch place = go (transfer_rows w t).source (transfer_rows w t).target (transfer_rows w t).ledger
  where
    go : (a o : Option AccountRecord) (l : Option Ledger) → unsigned_abs (placed branch place (transfer_changes (record (transfer_rows w t) { source = a; target = o; ledger = l }) t by)) ≤ t.amount
    go (Some a) (Some o) (Some l) = no_amount t.amount
    go (Some a) (Some o) None = no_amount t.amount
    go (Some a) None l = no_amount t.amount
    go None o l = no_amount t.amount

transfer_asked : (by : Signature) (w : WorldLists) (transfer : Transfer) → IsTransferJudged w by.user transfer
    → AreWritten (op.Transfer transfer) by w (transfer_changes (transfer_rows w transfer) transfer by)
transfer_asked by w transfer judged =
    let branch : Branch = judged.branch.0 in
    let home = is_home w transfer.branch branch judged.branch.1 in
    let there : transfer_allowed.AreThere w transfer = record {
      source = judged.source.row;
      source_is = judged.source.there;
      target = judged.target.row;
      target_is = judged.target.there;
      teller = judged.drawer.row;
      teller_is = judged.drawer.there;
      branch = branch;
      branch_is = judged.branch.1;
    } in
    let ledger : Ledger = ledger_of (branch_record_of w branch) in
    let first : Entry = first_leg (account_record_of w judged.source.row) ledger transfer by in
    let second : Entry = second_leg (account_record_of w judged.target.row) ledger transfer by in
    subst (AreWritten (op.Transfer transfer) by w) (sym (transfer_allowed.changes_are w transfer there by)) (record {
      asked = (
        first,
        second,
        refl,
        partnered w (entry_says first) 1 2 branch.branch transfer.branch judged.source.row.account transfer.source home.key (account_found w transfer.source judged.source.row judged.source.there),
        partnered w (entry_says second) 2 1 branch.branch transfer.branch judged.target.row.account transfer.target home.key (account_found w transfer.target judged.target.row judged.target.there),
      );
      bear = ((refl, refl, home.day), ((refl, refl, home.day), tt));
      days = tt;
    })

transfer_judged : (w : WorldLists) (who : Who) (moment : ℕ) (transfer : Transfer) → NoneDenies w who moment (op.Transfer transfer) → IsTransferJudged w (asker who) transfer
transfer_judged w who moment transfer none =
    let source = account_record w transfer.source in
    let target = account_record w transfer.target in
    let teller = teller_record w transfer.teller in
    let ledger = option_map ledger_of (branch_record w transfer.branch) in
    let first = or_parts (is_none source || is_none target || is_none teller) (is_none ledger) (none rule.Unknown) in
    let second = or_parts (is_none source || is_none target) (is_none teller) first.0 in
    let third = or_parts (is_none source) (is_none target) second.0 in
    let floors = and_parts (account_keeps_floor source (neg_ℤ (pos transfer.amount))) (account_keeps_floor target (pos transfer.amount)) (not-false _ (none rule.Floor)) in
    record {
      branch = branch_of_ledger w transfer.branch first.1;
      drawer = holds_drawer w (asker who) transfer.teller transfer.branch second.1 (none rule.Branch) (none rule.Drawer);
      source = keeps_floor w transfer.source (neg_ℤ (pos transfer.amount)) third.0 floors.0;
      target = keeps_floor w transfer.target (pos transfer.amount) third.1 floors.1;
    }

transfer_passes : (w : WorldLists) (transfer : Transfer) (by : Signature) → PassesChecks w → IsTransfer transfer → IsTransferJudged w by.user transfer → Books (transfer_effect w transfer by)
    → first_against_transfer (transfer_rows w transfer) transfer by ≡ None
transfer_passes w transfer by checks proper judged books =
    let d = judged.drawer in
    let home : Branch = judged.branch.0 in
    let there : transfer_allowed.AreThere w transfer = record {
      source = judged.source.row;
      source_is = judged.source.there;
      target = judged.target.row;
      target_is = judged.target.there;
      teller = d.row;
      teller_is = d.there;
      branch = home;
      branch_is = judged.branch.1;
    } in
    let first = transfer_allowed.first_of w transfer there by in
    let second = transfer_allowed.second_of w transfer there by in
    let after : Books (written (write.Entry second) (written (write.Entry first) w)) = subst Books (ap (λ changes. applied changes w) (transfer_allowed.changes_are w transfer there by)) books in
    let of_home = found_row branch_key transfer.branch w.branches home judged.branch.1 in
    let of_source = found_row account_key transfer.source w.accounts judged.source.row judged.source.there in
    let of_target = found_row account_key transfer.target w.accounts judged.target.row judged.target.there in
    let room = legs_have_room w first second home judged.source.row judged.target.row of_home.0 of_source.0 of_target.0 (sym of_home.1) (sym of_home.1) (sym of_source.1) (sym of_target.1) proper.two_accounts after in
    subst (λ rows. first_against_transfer rows transfer by ≡ None) (sym (transfer_allowed.rows_are w transfer there))
    (none_by _ rule.Branch _ (not_from_true _ (is_of_branch w transfer.teller transfer.branch (Some by.user) d))
    (none_by _ rule.Drawer _ (not_from_true _ (holds_it w by.user transfer.teller transfer.branch d))
    (none_by _ rule.Floor _ (not_from_true _ (and_from _ _ (is_above_floor w transfer.source (taken transfer) judged.source) (is_above_floor w transfer.target (given transfer) judged.target)))
    (none_by _ rule.Range _ (not_from_true _ (and_from _ _ room.source_in_range room.target_in_range))
    (none_by _ rule.Full None (or_from _ _ (or_from _ _ room.entries room.source_turns) room.target_turns) refl)))))

pub transfer_is_form : (form : Transfer) → IsForm (op.Transfer form)
transfer_is_form form = record {
  said = λ by w. refl;
  books_alone = λ rows by. by_row _ rows.source (λ source. by_row _ rows.target (λ target. by_row _ rows.ledger (λ ledger. record { each = (refl, (refl, tt)) })));
  no_slips = λ s by w. refl;
  asks = λ is. absurd cc;
  in_json = λ is rows by. refl;
  reports_ask = λ is. absurd cc;
  no_commands = λ rows by. refl;
  steps = λ by w checks proper signed none. transfers w form by checks proper signed none;
  judged = λ w who moment none. transfer_judged w who moment form none;
  denies_no_more = λ by w checks proper judged books. transfer_passes w form by checks proper judged books;
  moves = record {
    branches = λ key. no_amount form.amount;
    tellers = λ key. no_amount form.amount;
    accounts = λ key. out_in (form.source == key) (form.target == key) (pos form.amount);
  };
  cash = λ is by w branch place. transfer_lines w form by branch place;
  asked = λ by w judged. transfer_asked by w form judged;
  replied = λ by w checks proper judged step. transfer_replied by w form proper judged step;
}
