-- The laws of a correction.
use Rattle.bank_books.specs.Cash.{line_count}
use Rattle.bank_meaning.proofs.RepliedEntries.{correct_replied}
use Rattle.bank_meaning.specs.AskedRows.{entry_says, line_says}
use Rattle.bank_meaning.proofs.AskedRows.{account_found, is_home, numbered, partnered}
use Rattle.bank_meaning.specs.Correct.{AreUndoing, undoing_says}
use Rattle.bank_books.specs.Balances.{entry_count}
use Rattle.bank_books.specs.declared.rows.CashLine.{CashLine}
use Rattle.std.proofs.Common.{ap₂}
use Rattle.bank_books.specs.Books.{Books}
use Rattle.bank_books.specs.Effects.{applied, written}
use Rattle.bank_books.specs.Records.{account_record, account_record_of, branch_record, branch_record_of, entry_record_of}
use Rattle.bank_books.specs.WorldLists.{WorldLists}
use Rattle.bank_books.specs.declared.records.AccountRecord.{AccountRecord}
use Rattle.bank_books.specs.declared.row_write.RowWrite.TheVariants as write
use Rattle.bank_books.specs.declared.rows.Entry.{Entry}
use Rattle.bank_books.specs.declared.rows.EntryForm.TheVariants as entry_form
use Rattle.bank_books.specs.declared.rows.EntryForm.{EntryForm}
use Rattle.bank_books.specs.declared.signature.Signature.{Signature}
use Rattle.bank_meaning.proofs.AmountParts.{abs_of_neg, if_added, no_amount, one_line, out_in, placed}
use Rattle.bank_meaning.proofs.BookChanges.{AreOfBooks, by_row}
use Rattle.bank_meaning.proofs.IsForm.{AreWritten, IsForm}
use Rattle.bank_meaning.proofs.JudgedParts.{NoneDenies, branch_of_ledger, drawer_covered, holds_drawer, keeps_floor}
use Rattle.bank_meaning.proofs.Shares.{cash_alone, legs_cancel, legs_count, one_alone, one_counts, two_alone}
use Rattle.bank_meaning.proofs.Steps.{IsStep, IsSumOf, passes, plan_step}
use Rattle.bank_meaning.specs.Correct.{IsCorrectJudged, IsNamed, IsNotUndone}
use Rattle.bank_meaning.specs.JudgedRows.{KeepsFloor}
use Rattle.bank_meaning.specs.Operations.{moves_of}
use Rattle.bank_meaning.specs.PolicyRules.{asker}
use Rattle.bank_meaning.specs.Sums.{PassesChecks}
use Rattle.bank_meaning.specs.declared.who.Who.{Who}
use Rattle.bank_terms.specs.declared.rule.Rule.TheVariants as rule
use Rattle.certify.proofs.SomeRows.{none_passes, all_of}
use Rattle.counter_ops.specs.Correct.{IsCorrect}
use Rattle.counter_ops.specs.declared.correct.Correct.{Correct}
use Rattle.counter_ops.specs.declared.op.Op.TheVariants as op
use Rattle.keyed_rows.proofs.Rows.{find-found, Contains-map, found_row}
use Rattle.postings.proofs.AllowedCorrect as correct_allowed
use Rattle.postings.proofs.CorrectBooks.{correct_keeps_books}
use Rattle.postings.specs.Correct.{correct_changes, correct_effect, correct_rows, first_against_correct, is_correctable, is_of_post, other_is_as_named, partner_of, undoing, undoing_entry, undoing_leg, undoing_legs, undoing_line, undoing_other, undoing_post, entry_named, has_entry}
use Rattle.postings.specs.declared.correct.CorrectRows.{CorrectRows}
use Rattle.rule_tests.specs.BranchParts.{cash_book_of, ledger_of}
use Rattle.rule_tests.specs.Rules.{account_keeps_floor, drawer_covers, cash_book_is_full, ledger_is_full}
use Rattle.rule_tests.specs.Signed.{IsSigned}
use Rattle.rule_tests.specs.declared.cash_book.CashBook.{CashBook}
use Rattle.rule_tests.specs.declared.ledger.Ledger.{Ledger}
use Rattle.std.proofs.Common.{Bool, Contains, None, Option, Some, [], ap, arith, false, inl, inr, neg_ℤ, not, pos, refl, subst, sym, true, ℕ, ℤ, ◌&&◌, ◌+ℤ◌, ◌+◌, ◌==◌, ◌||◌, ◌∙◌, ◌∷◌, ◌≡◌, ◌≢◌, ◌≤◌}
use Rattle.std.proofs.lemmas.Bool.Decides.{Decides-int_eq}
use Rattle.std.proofs.lemmas.Bool.{and_parts, cases_Bool, eq-eqb, eqb-false, eqb-true, false≢true, ne_eqb, not-false, not-true, or_parts, and_from, and_left, and_right, false_from_ne_true, not_from_true, or_from, or_left, or_right}
use Rattle.std.proofs.lemmas.Int.{ints}
use Rattle.std.specs.List.{list_any}
use Rattle.std.specs.Option.{option_map_or}
use Rattle.std.specs.Ordering.{int_eq}
use Rattle.std.specs.Prelude.{if◌then◌else◌, is_none, neg_ℤ, option_and_then, option_map, unsigned_abs}
use Rattle.world_reads.specs.BookReads.{entry, is_entry, undoes_entry, undone}
use Rattle.row_members.specs.Ranges.{IsKey}
use Rattle.bank_meaning.proofs.PassingParts.{account_has_room, account_with_entry, counter_has_room, covers_it, holds_it, is_above_floor, is_no_vault, is_of_branch, key_of_drawer, legs_have_room, none_by}
use Rattle.bank_books.specs.Keys.{account_key, branch_key}
use Rattle.postings.proofs.CashedEntry.{cash_of_entry}
use Rattle.book_laws.specs.Next.{lined}
use Rattle.std.proofs.lemmas.List.Folds.{list_any_none}

if_of_post : (o b : Bool) (z : ℤ) → o ≡ true → (if b then z else pos 0) ≡ (if o && b then z else pos 0)
if_of_post o b z is = ap (λ p. if p && b then z else pos 0) (sym is)

none_of_transfer : (o b : Bool) (z : ℤ) → o ≡ false → pos 0 ≡ (if o && b then z else pos 0)
none_of_transfer o b z is = ap (λ p. if p && b then z else pos 0) (sym is)

no_other : (o b : Bool) (y z : ℤ) → o ≡ true → y ≡ y +ℤ (if not o && b then z else pos 0)
no_other o b y z is = plain y ∙ ap (λ p. y +ℤ (if not p && b then z else pos 0)) (sym is)
  where
    plain : (v : ℤ) → v ≡ v +ℤ pos 0
    plain v = omega (arith, ints)

with_other : (o b : Bool) (y z : ℤ) → o ≡ false → y +ℤ (if b then z else pos 0) ≡ y +ℤ (if not o && b then z else pos 0)
with_other o b y z is = ap (λ p. y +ℤ (if not p && b then z else pos 0)) (sym is)

-- n entries of a post, and m of a transfer
counts_one : (o b : Bool) (n m none : ℕ) → o ≡ true → (if b then n else none) ≡ (if b then (if o then n else m) else none)
counts_one o b n m none is = ap (λ p. if b then (if p then n else m) else none) (sym is)

counts_two : (o b : Bool) (n m none : ℕ) → o ≡ false → (if b then m else none) ≡ (if b then (if o then n else m) else none)
counts_two o b n m none is = ap (λ p. if b then (if p then n else m) else none) (sym is)

undone_post_sums : (account : AccountRecord) (ledger : Ledger) (book : CashBook) (correct : Correct) (by : Signature) → is_of_post correct ≡ true
    → IsSumOf (write.Entry (undoing_entry account ledger correct by) ∷ write.Line (undoing_line book correct by) ∷ []) (moves_of (op.Correct correct))
undone_post_sums account ledger book correct by is = record {
  branches = λ key. one_alone (if correct.branch == key then undoing correct else pos 0) ∙ if_of_post (is_of_post correct) (correct.branch == key) (undoing correct) is;
  tellers = λ key. one_alone (if correct.teller == key then undoing correct else pos 0) ∙ if_of_post (is_of_post correct) (correct.teller == key) (undoing correct) is;
  accounts = λ key.
      one_alone (if correct.account == key then undoing correct else pos 0)
      ∙ no_other (is_of_post correct) (correct.other == key) (if correct.account == key then undoing correct else pos 0) correct.delta is;
  entries = λ key. one_counts (correct.branch == key) ∙ counts_one (is_of_post correct) (correct.branch == key) 1 2 0 is;
  cash_entries = λ key. cash_alone (correct.branch == key) (undoing correct) ∙ if_of_post (is_of_post correct) (correct.branch == key) (undoing correct) is;
}

undone_transfer_sums : (account other : AccountRecord) (ledger : Ledger) (number : ℕ) (correct : Correct) (by : Signature) → is_of_post correct ≡ false
    → IsSumOf (write.Entry (undoing_leg account ledger correct by) ∷ write.Entry (undoing_other other ledger number correct by) ∷ []) (moves_of (op.Correct correct))
undone_transfer_sums account other ledger number correct by is = record {
  branches = λ key. legs_cancel (correct.branch == key) correct.delta ∙ none_of_transfer (is_of_post correct) (correct.branch == key) (undoing correct) is;
  tellers = λ key. legs_cancel (correct.teller == key) correct.delta ∙ none_of_transfer (is_of_post correct) (correct.teller == key) (undoing correct) is;
  accounts = λ key.
      two_alone (if correct.account == key then undoing correct else pos 0) (if correct.other == key then correct.delta else pos 0)
      ∙ with_other (is_of_post correct) (correct.other == key) (if correct.account == key then undoing correct else pos 0) correct.delta is;
  entries = λ key. legs_count (correct.branch == key) ∙ counts_two (is_of_post correct) (correct.branch == key) 1 2 0 is;
  cash_entries = λ key. none_of_transfer (is_of_post correct) (correct.branch == key) (undoing correct) is;
}

-- of a post, or of a transfer
corrects : (w : WorldLists) (correct : Correct) (by : Signature) → PassesChecks w → IsCorrect correct → IsSigned w by → first_against_correct (correct_rows w correct) correct by ≡ None
    → IsStep w (correct_effect w correct by) (moves_of (op.Correct correct))
corrects w correct by checks proper signed is =
    let allowed = correct_allowed.is_allowed (correct_rows w correct) correct by is in
    let there = correct_allowed.are_there w correct by allowed in
    let account = account_record_of w there.account in
    let branch = branch_record_of w there.branch in
    let books = correct_keeps_books w correct by checks.books signed proper is in
    elim (cases_Bool (is_of_post correct)) [
      | inl post ↦
          let effect = ap (λ changes. applied changes w) (correct_allowed.changes_of_post w correct there by post) in
          subst (λ after. IsStep w after (moves_of (op.Correct correct))) (sym effect)
          (plan_step w _ (moves_of (op.Correct correct)) checks (tt, (tt, tt)) (undone_post_sums account (ledger_of branch) (cash_book_of branch) correct by post) (subst Books effect books))
      | inr legs ↦
          let also = correct_allowed.other_is_there w correct by allowed legs in
          let effect = ap (λ changes. applied changes w) (correct_allowed.changes_of_legs w correct there also by legs) in
          subst (λ after. IsStep w after (moves_of (op.Correct correct))) (sym effect)
          (plan_step w _ (moves_of (op.Correct correct)) checks (tt, (tt, tt))
          (undone_transfer_sums account (account_record_of w also.other) (ledger_of branch) there.entry.partner correct by legs) (subst Books effect books))
    ]

undone_post_lines : (w : WorldLists) (c : Correct) (by : Signature) (branch place : ℕ) → unsigned_abs (placed branch place (undoing_post (correct_rows w c) c by)) ≤ unsigned_abs c.delta
undone_post_lines w c by branch place = go (correct_rows w c).account (correct_rows w c).ledger (correct_rows w c).cash_book
  where
    go : (a : Option AccountRecord) (l : Option Ledger) (k : Option CashBook)
        → unsigned_abs (placed branch place (undoing_post (record (correct_rows w c) { account = a; ledger = l; cash_book = k }) c by)) ≤ unsigned_abs c.delta
    go (Some a) (Some l) (Some k) = one_line (c.branch == branch && c.teller == place) (undoing c) (unsigned_abs c.delta) (abs_of_neg c.delta)
    go (Some a) (Some l) None = no_amount (unsigned_abs c.delta)
    go (Some a) None k = no_amount (unsigned_abs c.delta)
    go None l k = no_amount (unsigned_abs c.delta)

undone_leg_lines : (w : WorldLists) (c : Correct) (by : Signature) (branch place : ℕ) → unsigned_abs (placed branch place (undoing_legs (correct_rows w c) c by)) ≤ unsigned_abs c.delta
undone_leg_lines w c by branch place = go (correct_rows w c).account (correct_rows w c).other (correct_rows w c).ledger (correct_rows w c).entry
  where
    go : (a o : Option AccountRecord) (l : Option Ledger) (e : Option Entry)
        → unsigned_abs (placed branch place (undoing_legs (record (correct_rows w c) { account = a; other = o; ledger = l; entry = e }) c by)) ≤ unsigned_abs c.delta
    go (Some a) (Some o) (Some l) (Some e) = no_amount (unsigned_abs c.delta)
    go (Some a) (Some o) (Some l) None = no_amount (unsigned_abs c.delta)
    go (Some a) (Some o) None e = no_amount (unsigned_abs c.delta)
    go (Some a) None l e = no_amount (unsigned_abs c.delta)
    go None o l e = no_amount (unsigned_abs c.delta)

correct_lines : (w : WorldLists) (c : Correct) (by : Signature) (branch place : ℕ) → unsigned_abs (placed branch place (correct_changes (correct_rows w c) c by)) ≤ unsigned_abs c.delta
correct_lines w c by branch place = go (is_of_post c)
  where
    go : (b : Bool) → unsigned_abs (placed branch place (if b then undoing_post (correct_rows w c) c by else undoing_legs (correct_rows w c) c by)) ≤ unsigned_abs c.delta
    go true = undone_post_lines w c by branch place
    go false = undone_leg_lines w c by branch place

there_since : {X : Type 0} (test : X → Bool) (o : Option X) → option_map_or test o false ≡ true → (x : X) × ((o ≡ Some x) × (test x ≡ true))
there_since test None passes = absurd cc
there_since test (Some x) passes = (x, (refl, passes))

is_no_correction : (form : EntryForm) (leg : Option Entry) (c : Correct) → other_is_as_named form leg c ≡ true → form ≢ entry_form.Correction
is_no_correction entry_form.Post leg c is same = absurd cc
is_no_correction entry_form.TransferLeg leg c is same = absurd cc
is_no_correction entry_form.Correction leg c is same = absurd cc

of_post_form : (form : EntryForm) (leg : Option Entry) (c : Correct) → other_is_as_named form leg c ≡ true → c.other ≡ 0 → form ≡ entry_form.Post
of_post_form entry_form.Post leg c is none = refl
of_post_form entry_form.TransferLeg leg c is none =
    absurd (false≢true (sym (not-true (is_of_post c) (and_parts (not (is_of_post c)) (option_map_or (λ p. p.account == c.other) leg false) is).0) ∙ eq-eqb c.other 0 none))
of_post_form entry_form.Correction leg c is none = absurd cc

of_transfer_form : (form : EntryForm) (leg : Option Entry) (c : Correct) → other_is_as_named form leg c ≡ true → c.other ≢ 0 → form ≡ entry_form.TransferLeg
of_transfer_form entry_form.Post leg c is some = absurd (some (eqb-true c.other 0 is))
of_transfer_form entry_form.TransferLeg leg c is some = refl
of_transfer_form entry_form.Correction leg c is some = absurd cc

other_leg_of : (form : EntryForm) (leg : Option Entry) (c : Correct) → other_is_as_named form leg c ≡ true → c.other ≢ 0 → (e : Entry) × ((leg ≡ Some e) × (e.account ≡ c.other))
other_leg_of entry_form.Post leg c is some = absurd (some (eqb-true c.other 0 is))
other_leg_of entry_form.TransferLeg leg c is some =
    let found = there_since (λ p. p.account == c.other) leg (and_parts (not (is_of_post c)) (option_map_or (λ p. p.account == c.other) leg false) is).1 in
    (found.0, (found.1.0, eqb-true found.0.account c.other found.1.1))
other_leg_of entry_form.Correction leg c is some = absurd cc

-- the leg that an entry names
leg_there : (w : WorldLists) (branch : ℕ) (e leg : Entry) → (if e.partner == 0 then None else entry w e.branch e.partner) ≡ Some leg → e.branch ≡ branch → entry w branch e.partner ≡ Some leg
leg_there w branch e leg is of = go (e.partner == 0) is
  where
    go : (b : Bool) → (if b then None else entry w e.branch e.partner) ≡ Some leg → entry w branch e.partner ≡ Some leg
    go true is = absurd cc
    go false is = ap (λ k. entry w k e.partner) (sym of) ∙ is

both_true : (a b : Bool) → a ≡ true → b ≡ true → (a && b) ≡ true
both_true true b is also = also
both_true false b is also = absurd cc

not_undone_twice : (w : WorldLists) (branch number : ℕ) (e : Entry) → undone w branch number ≡ false → number ≢ 0 → Contains w.entries e → e.branch ≡ branch → e.undoes ≢ number
not_undone_twice w branch number e never some there of undoes =
    let none : list_any (undoes_entry branch number) w.entries ≡ false = subst (λ b. (not b && list_any (undoes_entry branch number) w.entries) ≡ false) (ne_eqb number 0 some) never in
    none_passes (undoes_entry branch number) w.entries none e there (both_true (e.branch == branch) (e.undoes == number) (eq-eqb e.branch branch of) (eq-eqb e.undoes number undoes))

-- the entry that is named, with what the test on entries says of it
pub record IsCorrectable (w : WorldLists) (c : Correct) (e : Entry) : Type 0 where
  pub there : entry w c.branch c.entry ≡ Some e
  pub of_branch : e.branch ≡ c.branch
  pub not_undone : undone w c.branch c.entry ≡ false
  pub account : e.account ≡ c.account
  pub delta : e.delta ≡ c.delta
  pub form : other_is_as_named e.form (partner_of w e) c ≡ true
  pub today : option_map_or (λ ledger. e.day == ledger.day) (option_map ledger_of (branch_record w c.branch)) true ≡ true

correctable : (w : WorldLists) (c : Correct) → (not (undone w c.branch c.entry) && option_map_or (λ e. is_correctable e (correct_rows w c) c) (entry w c.branch c.entry) false) ≡ true
    → (e : Entry) × IsCorrectable w c e
correctable w c is =
    let parts = and_parts (not (undone w c.branch c.entry)) (option_map_or (λ e. is_correctable e (correct_rows w c) c) (entry w c.branch c.entry) false) is in
    let found = there_since (λ e. is_correctable e (correct_rows w c) c) (entry w c.branch c.entry) parts.1 in
    let e : Entry = found.0 in
    let today = and_parts _ _ found.1.1 in
    let form = and_parts _ _ today.0 in
    let delta = and_parts (e.account == c.account) (int_eq e.delta c.delta) form.0 in
    let at = and_parts (e.branch == c.branch) (e.number == c.entry) (find-found (is_entry c.branch c.entry) w.entries e found.1.0).1 in (
      e,
      record {
        there = found.1.0;
        of_branch = eqb-true e.branch c.branch at.0;
        not_undone = not-true (undone w c.branch c.entry) parts.0;
        account = eqb-true e.account c.account delta.0;
        delta = (Decides-int_eq e.delta c.delta).0 delta.1;
        form = subst (λ o. other_is_as_named e.form (option_and_then (partner_of w) o) c ≡ true) found.1.0 form.1;
        today = today.1;
      },
    )

is_named : (w : WorldLists) (c : Correct) (e : Entry) → IsCorrectable w c e → IsNamed w c e
is_named w c e is = record {
  account = is.account;
  delta = is.delta;
  of_post = of_post_form e.form (partner_of w e) c is.form;
  of_transfer = of_transfer_form e.form (partner_of w e) c is.form;
  other_leg = λ some.
      let leg = other_leg_of e.form (partner_of w e) c is.form some in
      (leg.0, (leg_there w c.branch e leg.0 leg.1.0 is.of_branch, leg.1.1));
}

-- what is asked of the other account, where one is named
other_floor_of : (w : WorldLists) (c : Correct) → (not (is_of_post c) && is_none (if is_of_post c then None else account_record w c.other)) ≡ false
    → account_keeps_floor (if is_of_post c then None else account_record w c.other) c.delta ≡ true → c.other ≢ 0 → KeepsFloor w c.other c.delta
other_floor_of w c known keeps some =
    let of = ne_eqb c.other 0 some in
    keeps_floor w c.other c.delta
    (subst (λ b. (not b && is_none (if b then None else account_record w c.other)) ≡ false) of known)
    (subst (λ b. account_keeps_floor (if b then None else account_record w c.other) c.delta ≡ true) of keeps)

correct_asked : (by : Signature) (w : WorldLists) (c : Correct) → IsCorrectJudged w by.user c
    → AreWritten (op.Correct c) by w (correct_changes (correct_rows w c) c by)
correct_asked by w c judged =
    let named = judged.named in
    let home = is_home w c.branch judged.branch judged.branch_there in
    let account : AccountRecord = account_record_of w judged.floor.row in
    let ledger : Ledger = ledger_of (branch_record_of w judged.branch) in
    let of = account_found w c.account judged.floor.row judged.floor.there in
    let there : correct_allowed.AreThere w c = record {
      account = judged.floor.row;
      account_is = judged.floor.there;
      teller = judged.drawer.row;
      teller_is = judged.drawer.there;
      branch = judged.branch;
      branch_is = judged.branch_there;
      entry = judged.row;
      entry_is = judged.there;
    } in
    elim (cases_Bool (is_of_post c)) [
      | inl post ↦
          let of_form = sym (named.of_post (eqb-true c.other 0 post)) in
          let e : Entry = undoing_entry account ledger c by in
          let l : CashLine = undoing_line (cash_book_of (branch_record_of w judged.branch)) c by in
          let entered = numbered w (entry_says e) 1 judged.branch.branch c.branch judged.floor.row.account c.account home.key of
          ∙ ap₂ (λ a d. undoing_says w c a (neg_ℤ d) (entry_count c.branch w.entries + 1) 0 c.entry) (sym named.account) (sym named.delta) in
          let paid = ap₂ (λ k d. record (line_says l) { number = line_count k w.lines + 1; amount = neg_ℤ d }) home.key (sym named.delta) in
          subst (AreWritten (op.Correct c) by w) (sym (correct_allowed.changes_of_post w c there by post)) (record {
            asked = (judged.row, judged.there, subst (λ f. AreUndoing w c judged.row f (write.Entry e ∷ write.Line l ∷ [])) of_form (e, l, refl, entered, paid));
            bear = ((refl, refl, home.day), ((refl, refl, home.day), tt));
            days = tt;
          })
      | inr legs ↦
          let some = eqb-false c.other 0 legs in
          let of_form = sym (named.of_transfer some) in
          let other = judged.other_floor some in
          let also : correct_allowed.OtherIsThere w c = record { other = other.row; other_is = other.there } in
          let leg = named.other_leg some in
          let e : Entry = undoing_leg account ledger c by in
          let o : Entry = undoing_other (account_record_of w other.row) ledger judged.row.partner c by in
          let n = entry_count c.branch w.entries in
          let entered = partnered w (entry_says e) 1 2 judged.branch.branch c.branch judged.floor.row.account c.account home.key of
          ∙ ap₂ (λ a d. undoing_says w c a (neg_ℤ d) (n + 1) (n + 2) c.entry) (sym named.account) (sym named.delta) in
          let also_entered = partnered w (entry_says o) 2 1 judged.branch.branch c.branch other.row.account c.other home.key (account_found w c.other other.row other.there)
          ∙ ap₂ (λ a d. undoing_says w c a d (n + 2) (n + 1) judged.row.partner) (sym leg.1.1) (sym named.delta) in
          subst (AreWritten (op.Correct c) by w) (sym (correct_allowed.changes_of_legs w c there also by legs)) (record {
            asked = (judged.row, judged.there, subst (λ f. AreUndoing w c judged.row f (write.Entry e ∷ write.Entry o ∷ [])) of_form (e, o, leg.0, refl, entered, leg.1.0, also_entered));
            bear = ((refl, refl, home.day), ((refl, refl, home.day), tt));
            days = tt;
          })
    ]

correct_judged : (w : WorldLists) (who : Who) (moment : ℕ) (c : Correct) → NoneDenies w who moment (op.Correct c) → IsCorrectJudged w (asker who) c
correct_judged w who moment c none =
    let rows : CorrectRows = correct_rows w c in
    let other_test : Bool = not (is_of_post c) && is_none rows.other in
    let first = or_parts (is_none rows.account || other_test || is_none rows.teller || is_none rows.ledger) (is_none rows.cash_book) (none rule.Unknown) in
    let second = or_parts (is_none rows.account || other_test || is_none rows.teller) (is_none rows.ledger) first.0 in
    let third = or_parts (is_none rows.account || other_test) (is_none rows.teller) second.0 in
    let accounts = or_parts (is_none rows.account) other_test third.0 in
    let drawer = holds_drawer w (asker who) c.teller c.branch third.1 (none rule.Branch) (none rule.Drawer) in
    let branch = branch_of_ledger w c.branch second.1 in
    let found = correctable w c (not-false _ (none rule.Entry)) in
    let e : Entry = found.0 in
    let floors = and_parts (account_keeps_floor rows.account (neg_ℤ c.delta)) (account_keeps_floor rows.other c.delta) (not-false _ (none rule.Floor)) in
    let maker : (e.user == asker who) ≡ false = subst (λ o. option_map_or (λ (r : Entry). r.user == asker who) o false ≡ false) found.1.there (none rule.SecondPerson) in
    let day : (e.day == branch.0.day) ≡ true =
    subst (λ o. option_map_or (λ ledger. e.day == ledger.day) (option_map ledger_of (option_map (branch_record_of w) o)) true ≡ true) branch.1 found.1.today in
    record {
      drawer = drawer;
      row = e;
      there = found.1.there;
      by_another = eqb-false e.user (asker who) maker;
      branch = branch.0;
      branch_there = branch.1;
      today = eqb-true e.day branch.0.day day;
      not_undone = record {
        form = is_no_correction e.form (partner_of w e) c found.1.form;
        once = λ some other there of. not_undone_twice w c.branch c.entry other found.1.not_undone some there of;
      };
      named = is_named w c e found.1;
      floor = keeps_floor w c.account (neg_ℤ c.delta) accounts.0 floors.0;
      other_floor = other_floor_of w c accounts.1 floors.1;
      cash = λ none_named.
          drawer_covered w (asker who) c.teller c.branch (neg_ℤ c.delta) drawer
          (subst (λ b. (not b || drawer_covers rows.teller (neg_ℤ c.delta)) ≡ true) (eq-eqb c.other 0 none_named) (not-false _ (none rule.Cash)));
    }

alone : (rows : CorrectRows) (form : Correct) (by : Signature) (b : Bool) → AreOfBooks (if b then undoing_post rows form by else undoing_legs rows form by)
alone rows form by true = by_row _ rows.account (λ account. by_row _ rows.ledger (λ ledger. by_row _ rows.cash_book (λ cash_book. record { each = (refl, (refl, tt)) })))
alone rows form by false = by_row _ rows.account (λ account. by_row _ rows.other (λ other. by_row _ rows.ledger (λ ledger. by_row _ rows.entry (λ entry. record { each = (refl, (refl, tt)) }))))

-- ---- where it is as the rules ask, they let it pass

not_undone : (w : WorldLists) (branch number : ℕ) (e : Entry) → number ≢ 0 → IsNotUndone w branch number e → undone w branch number ≡ false
not_undone w branch number e some judged =
    and_right _ _ (list_any_none (undoes_entry branch number) w.entries (all_of (λ x. undoes_entry branch number x ≡ false) w.entries (λ x there.
    false_from_ne_true (undoes_entry branch number x) (λ is.
    let parts = and_parts (x.branch == branch) (x.undoes == number) is in
    judged.once some x there (eqb-true x.branch branch parts.0) (eqb-true x.undoes number parts.1)))))

-- an entry that is found is of the branch
branch_of_entry : (w : WorldLists) (branch number : ℕ) (e : Entry) → entry w branch number ≡ Some e → e.branch ≡ branch
branch_of_entry w branch number e is = eqb-true e.branch branch (and_parts (e.branch == branch) (e.number == number) (find-found (is_entry branch number) w.entries e is).1).0

-- and of books that hold each bears a number
number_of_entry : (w : WorldLists) (branch number : ℕ) (e : Entry) → Books w → entry w branch number ≡ Some e → number ≢ 0
number_of_entry w branch number e books is none =
    let found = find-found (is_entry branch number) w.entries e is in
    let key : IsKey e.number = (books.in_range.entries (entry_record_of w e) (Contains-map (entry_record_of w) w.entries e found.0)).number in
    not_zero e.number key (eqb-true e.number number (and_parts (e.branch == branch) (e.number == number) found.1).1 ∙ none)
  where
    not_zero : (n : ℕ) → IsKey n → n ≢ 0
    not_zero n key none = omega (arith, key.0)

-- the other leg is the partner
partner_found : (w : WorldLists) (c : Correct) (e leg : Entry) → Books w → entry_named w c ≡ Some e → entry w c.branch e.partner ≡ Some leg → partner_of w e ≡ Some leg
partner_found w c e leg books named is =
    ap (λ b. if b then None else entry w e.branch e.partner) (ne_eqb e.partner 0 (number_of_entry w c.branch e.partner leg books is))
    ∙ ap (λ k. entry w k e.partner) (branch_of_entry w c.branch c.entry e named)
    ∙ is

other_named : (w : WorldLists) (c : Correct) (e : Entry) → Books w → entry_named w c ≡ Some e → IsNamed w c e → other_is_as_named e.form (partner_of w e) c ≡ true
other_named w c e books found named = elim (cases_Bool (is_of_post c)) [
  | inl post ↦ ap (λ f. other_is_as_named f (partner_of w e) c) (named.of_post (eqb-true c.other 0 post)) ∙ post
  | inr legs ↦
      let some = eqb-false c.other 0 legs in
      let leg = named.other_leg some in
      ap (λ f. other_is_as_named f (partner_of w e) c) (named.of_transfer some)
      ∙ and_from _ _ (ap not legs)
      (ap (λ o. option_map_or (λ p. p.account == c.other) o false) (partner_found w c e leg.0 books found leg.1.0) ∙ eq-eqb leg.0.account c.other leg.1.1)
]

abbrev there_of : (w : WorldLists) (user : ℕ) (c : Correct) → IsCorrectJudged w user c → correct_allowed.AreThere w c
there_of w user c judged = record {
  account = judged.floor.row;
  account_is = judged.floor.there;
  teller = judged.drawer.row;
  teller_is = judged.drawer.there;
  branch = judged.branch;
  branch_is = judged.branch_there;
  entry = judged.row;
  entry_is = judged.there;
}

entry_passes : (w : WorldLists) (user : ℕ) (c : Correct) (rows : CorrectRows) (judged : IsCorrectJudged w user c) → Books w → IsCorrect c → rows.is_undone ≡ undone w c.branch c.entry → rows.entry ≡ Some judged.row
    → rows.partner ≡ partner_of w judged.row → option_map_or (λ l. judged.row.day == l.day) rows.ledger true ≡ true → has_entry rows c ≡ true
entry_passes w user c rows judged books proper undone_is entry_is partner_is today =
    let e = judged.row in
    let named = and_from (e.account == c.account) (int_eq e.delta c.delta) (eq-eqb e.account c.account judged.named.account) ((Decides-int_eq e.delta c.delta).1 judged.named.delta) in
    let other = ap (λ p. other_is_as_named e.form p c) partner_is ∙ other_named w c e books judged.there judged.named in
    let once = ap not (undone_is ∙ not_undone w c.branch c.entry e (some_entry c.entry proper.entry) judged.not_undone) in
    and_from _ _ once (ap (λ o. option_map_or (λ e. is_correctable e rows c) o false) entry_is ∙ and_from _ _ (and_from _ _ named other) today)
  where
    some_entry : (n : ℕ) → IsKey n → n ≢ 0
    some_entry n key none = omega (arith, key.0)

post_undone_passes : (w : WorldLists) (c : Correct) (by : Signature) → PassesChecks w → IsCorrect c → IsCorrectJudged w by.user c → Books (correct_effect w c by) → is_of_post c ≡ true
    → first_against_correct (correct_rows w c) c by ≡ None
post_undone_passes w c by checks proper judged books post =
    let d = judged.drawer in
    let there = there_of w by.user c judged in
    let zero = eqb-true c.other 0 post in
    let e = correct_allowed.entry_of w c there by in
    let book = cash_book_of (branch_record_of w judged.branch) in
    let after : Books (lined (cash_of_entry book e ∷ []) (written (write.Entry e) w)) = subst Books (ap (λ changes. applied changes w) (correct_allowed.changes_of_post w c there by post)) books in
    let of_home = found_row branch_key c.branch w.branches judged.branch judged.branch_there in
    let of_drawer = key_of_drawer w c.teller c.branch (Some by.user) d in
    let of_account = found_row account_key c.account w.accounts judged.floor.row judged.floor.there in
    let counter = counter_has_room w e book judged.branch d.row of_home.0 of_drawer.0 (sym of_home.1) (sym d.of_branch) (sym of_drawer.1)
    (is_no_vault w c.teller c.branch (Some by.user) checks.books d) (covers_it w c.teller c.branch (Some by.user) (undoing c) d (judged.cash zero)) after in
    let account = account_has_room w (lined (cash_of_entry book e ∷ []) (written (write.Entry e) w)) judged.floor.row (undoing c) after of_account.0 (account_with_entry w e judged.floor.row (sym of_account.1)) in
    let range = and_from _ _ (and_from _ _ (and_from _ _ (and_from _ _ counter.teller counter.ledger) counter.drawer) counter.drawers) counter.cash_entries in
    let numbers = λ (rows : CorrectRows). ap (λ b. if b then (ledger_is_full rows.ledger 1 || cash_book_is_full rows.cash_book 1) else ledger_is_full rows.ledger 2) post in
    subst (λ rows. first_against_correct rows c by ≡ None) (sym (correct_allowed.rows_are_of_post w c there post))
    (none_by _ rule.Unknown _ (or_from _ _ (or_from _ _ (or_from _ _ (and_left (not (is_of_post c)) true (ap not post)) refl) refl) refl)
    (none_by _ rule.Branch _ (not_from_true _ (is_of_branch w c.teller c.branch (Some by.user) d))
    (none_by _ rule.Drawer _ (not_from_true _ (holds_it w by.user c.teller c.branch d))
    (none_by _ rule.SecondPerson _ (ne_eqb judged.row.user by.user judged.by_another)
    (none_by _ rule.Entry _ (not_from_true _ (entry_passes w by.user c (correct_allowed.rows_of_post w c there) judged checks.books proper refl refl refl (eq-eqb judged.row.day judged.branch.day judged.today)))
    (none_by _ rule.Floor _ (not_from_true _ (and_from _ _ (is_above_floor w c.account (undoing c) judged.floor) refl))
    (none_by _ rule.Cash _ (not_from_true _ (or_right (not (is_of_post c)) _ counter.covered))
    (none_by _ rule.Range _ (not_from_true _ (and_from _ _ (and_from _ _ account.0 refl) (or_right (not (is_of_post c)) _ range)))
    (none_by _ rule.Full None (or_from _ _ (or_from _ _ account.1 refl) (numbers (correct_allowed.rows_of_post w c there) ∙ or_from _ _ counter.entries counter.lines)) refl)))))))))

legs_undone_pass : (w : WorldLists) (c : Correct) (by : Signature) → PassesChecks w → IsCorrect c → IsCorrectJudged w by.user c → Books (correct_effect w c by) → is_of_post c ≡ false
    → first_against_correct (correct_rows w c) c by ≡ None
legs_undone_pass w c by checks proper judged books legs =
    let d = judged.drawer in
    let there = there_of w by.user c judged in
    let other = judged.other_floor (eqb-false c.other 0 legs) in
    let also : correct_allowed.OtherIsThere w c = record { other = other.row; other_is = other.there } in
    let first = correct_allowed.first_of w c there by in
    let second = correct_allowed.second_of w c there also by in
    let after : Books (written (write.Entry second) (written (write.Entry first) w)) = subst Books (ap (λ changes. applied changes w) (correct_allowed.changes_of_legs w c there also by legs)) books in
    let of_home = found_row branch_key c.branch w.branches judged.branch judged.branch_there in
    let of_account = found_row account_key c.account w.accounts judged.floor.row judged.floor.there in
    let of_other = found_row account_key c.other w.accounts other.row other.there in
    let room = legs_have_room w first second judged.branch judged.floor.row other.row of_home.0 of_account.0 of_other.0 (sym of_home.1) (sym of_home.1) (sym of_account.1) (sym of_other.1) proper.two_accounts after in
    let numbers = λ (rows : CorrectRows). ap (λ b. if b then (ledger_is_full rows.ledger 1 || cash_book_is_full rows.cash_book 1) else ledger_is_full rows.ledger 2) legs in
    subst (λ rows. first_against_correct rows c by ≡ None) (sym (correct_allowed.rows_are_of_legs w c there also legs))
    (none_by _ rule.Unknown _ (or_from _ _ (or_from _ _ (or_from _ _ (and_right (not (is_of_post c)) false refl) refl) refl) refl)
    (none_by _ rule.Branch _ (not_from_true _ (is_of_branch w c.teller c.branch (Some by.user) d))
    (none_by _ rule.Drawer _ (not_from_true _ (holds_it w by.user c.teller c.branch d))
    (none_by _ rule.SecondPerson _ (ne_eqb judged.row.user by.user judged.by_another)
    (none_by _ rule.Entry _ (not_from_true _ (entry_passes w by.user c (correct_allowed.rows_of_legs w c there also) judged checks.books proper refl refl refl (eq-eqb judged.row.day judged.branch.day judged.today)))
    (none_by _ rule.Floor _ (not_from_true _ (and_from _ _ (is_above_floor w c.account (undoing c) judged.floor) (is_above_floor w c.other c.delta other)))
    (none_by _ rule.Cash _ (not_from_true _ (or_left (not (is_of_post c)) _ (ap not legs)))
    (none_by _ rule.Range _ (not_from_true _ (and_from _ _ (and_from _ _ room.source_in_range room.target_in_range) (or_left (not (is_of_post c)) _ (ap not legs))))
    (none_by _ rule.Full None (or_from _ _ (or_from _ _ room.source_turns room.target_turns) (numbers (correct_allowed.rows_of_legs w c there also) ∙ room.entries)) refl)))))))))

correct_passes : (w : WorldLists) (c : Correct) (by : Signature) → PassesChecks w → IsCorrect c → IsCorrectJudged w by.user c → Books (correct_effect w c by)
    → first_against_correct (correct_rows w c) c by ≡ None
correct_passes w c by checks proper judged books = elim (cases_Bool (is_of_post c)) [
  | inl post ↦ post_undone_passes w c by checks proper judged books post
  | inr legs ↦ legs_undone_pass w c by checks proper judged books legs
]

pub correct_is_form : (form : Correct) → IsForm (op.Correct form)
correct_is_form form = record {
  said = λ by w. refl;
  books_alone = λ rows by. alone rows form by (is_of_post form);
  no_slips = λ s by w. refl;
  asks = λ is. absurd cc;
  in_json = λ is rows by. refl;
  reports_ask = λ is. absurd cc;
  no_commands = λ rows by. refl;
  steps = λ by w checks proper signed none. corrects w form by checks proper signed none;
  judged = λ w who moment none. correct_judged w who moment form none;
  denies_no_more = λ by w checks proper judged books. correct_passes w form by checks proper judged books;
  moves = record {
    branches = λ key. if_added (is_of_post form && form.branch == key) (undoing form) (unsigned_abs form.delta) (abs_of_neg form.delta);
    tellers = λ key. if_added (is_of_post form && form.teller == key) (undoing form) (unsigned_abs form.delta) (abs_of_neg form.delta);
    accounts = λ key. out_in (form.account == key) (not (is_of_post form) && form.other == key) form.delta;
  };
  cash = λ is by w branch place. correct_lines w form by branch place;
  asked = λ by w judged. correct_asked by w form judged;
  replied = λ by w checks proper judged step. correct_replied by w form judged step proper;
}
