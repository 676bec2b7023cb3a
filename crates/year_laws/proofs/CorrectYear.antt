-- A correction at the bank that goes on and at the next year's.
use Rattle.std.proofs.Common.{Bool, None, Option, Some, [], ap, ap₂, arith, false, int_eq, not, refl, sym, true, ℕ, ◌&&◌, ◌+ℤ◌, ◌+◌, ◌==◌, ◌||◌, ◌∙◌, ◌≡◌, ◌≢◌}
use Rattle.std.specs.Option.{option_map_or}
use Rattle.std.specs.Prelude.{if◌then◌else◌, option_and_then, option_map}
use Rattle.std.proofs.lemmas.Bool.{eqb-true, ne_eqb}
use Rattle.bank_books.specs.Records.{account_record, branch_record, teller_record}
use Rattle.bank_books.specs.WorldLists.{WorldLists}
use Rattle.bank_books.specs.declared.records.AccountRecord.{AccountRecord}
use Rattle.bank_books.specs.declared.records.BranchRecord.{BranchRecord}
use Rattle.bank_books.specs.declared.rows.Entry.{Entry}
use Rattle.bank_books.specs.declared.rows.EntryForm.{EntryForm}
use Rattle.bank_books.specs.declared.rows.EntryForm.TheVariants as entry_form
use Rattle.bank_books.specs.declared.signature.Signature.{Signature}
use Rattle.counter_ops.specs.declared.correct.Correct.{Correct}
use Rattle.counter_ops.specs.declared.op.Op.TheVariants as op
use Rattle.rule_tests.specs.BranchParts.{ledger_of}
use Rattle.world_reads.specs.BookReads.{entry}
use Rattle.postings.specs.Correct.{correct_rows, correct_tests, corrected_of, entry_named, has_entry, is_by_maker, is_correctable, is_of_post, other_is_as_named, partner_of, post_undone, transfer_undone, undoing}
use Rattle.postings.specs.declared.correct.Corrected.TheVariants as corrected
use Rattle.bank_meaning.specs.Correct.{corrected_text}
use Rattle.bank_meaning.specs.Meaning.{json}
use Rattle.bank_meaning.specs.Operations.{meaning_of}
use Rattle.year_laws.specs.GoesOn.{AreBoth, GoesOn, IsSameAccount, IsSameBranch, Turn, correct_at_old, entry_at_old, number_at_old, op_at_old}
use Rattle.year_laws.specs.RepliedAlike.{IsRepliedAlike, corrected_at_old}
use Rattle.year_laws.proofs.AlikeRows.{chosen_same, covers_same, keeps_floor_same, none_same}
use Rattle.year_laws.proofs.CorrectionsAlike.{correct_stays}
use Rattle.year_laws.proofs.IsYearForm.{IsYearForm}
use Rattle.year_laws.proofs.NextNumbers.{next, second}
use Rattle.year_laws.proofs.TestParts.{AreTestsAlike, anew, both, either, floors, held_by, no_account, no_book, no_ledger, no_teller, of_branch}

-- ---- what is replied, by the records that it is made of

module _ (t : Turn) (n m : ℕ) where
  -- by whether it is of a post
  correct_left : (k : Correct) (of_post : Bool) (a b x y : Option AccountRecord) (c d : Option BranchRecord) → AreBoth (IsSameAccount n) a b → AreBoth (IsSameAccount m) x y
      → AreBoth (IsSameBranch (t.entries k.branch)) c d
      → option_and_then (λ account. option_and_then (λ ledger. if of_post then Some (post_undone (correct_at_old t k) account ledger) else option_map (λ other. transfer_undone (correct_at_old t k) account other ledger) x) (option_map ledger_of c)) a
      ≡ option_map (corrected_at_old t) (option_and_then (λ account. option_and_then (λ ledger. if of_post then Some (post_undone k account ledger) else option_map (λ other. transfer_undone k account other ledger) y) (option_map ledger_of d)) b)
  correct_left k of_post None None x y c d same too also = refl
  correct_left k of_post (Some a) (Some b) x y None None same too also = refl
  correct_left k true (Some a) (Some b) x y (Some c) (Some d) same too also =
      ap₂ (λ z e. Some (corrected.OfPost (record { balance = z +ℤ undoing k; branch = k.branch; entry = e }))) same.balance (next c.entries d.entries (t.entries k.branch) also.entries)
  correct_left k false (Some a) (Some b) None None (Some c) (Some d) same too also = refl
  correct_left k false (Some a) (Some b) (Some x) (Some y) (Some c) (Some d) same too also =
      let first = next c.entries d.entries (t.entries k.branch) also.entries in
      let after = second c.entries d.entries (t.entries k.branch) also.entries in
      let source = same.balance in
      let target = too.balance in
      λ i. Some (corrected.OfTransfer (record { branch = k.branch; first = first i; second = after i; source = source i +ℤ undoing k; target = target i +ℤ k.delta }))
  correct_left k of_post None (Some b) x y c d same too also = absurd same
  correct_left k of_post (Some a) None x y c d same too also = absurd same
  correct_left k of_post (Some a) (Some b) x y None (Some d) same too also = absurd also
  correct_left k of_post (Some a) (Some b) x y (Some c) None same too also = absurd also
  correct_left k false (Some a) (Some b) None (Some y) (Some c) (Some d) same too also = absurd too
  correct_left k false (Some a) (Some b) (Some x) None (Some c) (Some d) same too also = absurd too

-- ---- at both banks

module _ (t : Turn) (old new : WorldLists) (on : GoesOn t old new) where
  number_of_none : (branch number : ℕ) → number ≢ 0 → number_at_old t branch number ≡ number + t.entries branch
  number_of_none branch number some = ap (λ c. if c then 0 else number + t.entries branch) (ne_eqb number 0 some)

  partner_found : (e : Entry) (c : Bool) → (e.partner == 0) ≡ c → partner_of old (entry_at_old t e) ≡ option_map (entry_at_old t) (partner_of new e)
  partner_found e true is =
      let zero : e.partner ≡ 0 = eqb-true e.partner 0 is in
      rw zero refl
  partner_found e false is =
      let some : e.partner ≢ 0 = λ z. (let clash : (e.partner == 0) ≡ true = ap (λ n. n == 0) z in cc) in
      let moved = number_of_none e.branch e.partner some in
      let apart : ((e.partner + t.entries e.branch) == 0) ≡ false = ne_eqb (e.partner + t.entries e.branch) 0 (λ z. some (omega arith)) in
      ap (λ n. if n == 0 then None else entry old e.branch n) moved
      ∙ ap (λ b. if b then None else entry old e.branch (e.partner + t.entries e.branch)) apart
      ∙ on.entries e.branch e.partner some
      ∙ sym (ap (λ b. option_map (entry_at_old t) (if b then None else entry new e.branch e.partner)) is)

  partner_alike : (o : Option Entry) → option_and_then (partner_of old) (option_map (entry_at_old t) o) ≡ option_map (entry_at_old t) (option_and_then (partner_of new) o)
  partner_alike None = refl
  partner_alike (Some e) = partner_found e (e.partner == 0) refl

  other_named : (f : EntryForm) (o : Option Entry) (c : Correct) → other_is_as_named f (option_map (entry_at_old t) o) (correct_at_old t c) ≡ other_is_as_named f o c
  other_named entry_form.Post o c = refl
  other_named entry_form.TransferLeg None c = refl
  other_named entry_form.TransferLeg (Some e) c = refl
  other_named entry_form.Correction o c = refl

  ledger_day : (branch day : ℕ) → option_map_or (λ l. day == l.day) (option_map ledger_of (branch_record old branch)) true ≡ option_map_or (λ l. day == l.day) (option_map ledger_of (branch_record new branch)) true
  ledger_day branch day = go (branch_record old branch) (branch_record new branch) (on.branches branch)
    where
      go : (a b : Option BranchRecord) → AreBoth (IsSameBranch (t.entries branch)) a b → option_map_or (λ l. day == l.day) (option_map ledger_of a) true ≡ option_map_or (λ l. day == l.day) (option_map ledger_of b) true
      go None None same = refl
      go (Some a) (Some b) same = ap (λ d. day == d) same.day
      go None (Some b) same = absurd same
      go (Some a) None same = absurd same

  module _ (c : Correct) (names : c.entry ≢ 0) where
    abbrev moved : Correct
    moved = correct_at_old t c

    entry_alike : entry_named old moved ≡ option_map (entry_at_old t) (entry_named new c)
    entry_alike = on.entries c.branch c.entry names

    partners : (correct_rows old moved).partner ≡ option_map (entry_at_old t) (correct_rows new c).partner
    partners = ap (option_and_then (partner_of old)) entry_alike ∙ partner_alike (entry_named new c)

    by_maker : (user : ℕ) → is_by_maker (correct_rows old moved) user ≡ is_by_maker (correct_rows new c) user
    by_maker user = ap (λ o. option_map_or (λ e. e.user == user) o false) entry_alike ∙ go (entry_named new c)
      where
        go : (o : Option Entry) → option_map_or (λ e. e.user == user) (option_map (entry_at_old t) o) false ≡ option_map_or (λ e. e.user == user) o false
        go None = refl
        go (Some e) = refl

    correctable : (e : Entry) → is_correctable (entry_at_old t e) (correct_rows old moved) moved ≡ is_correctable e (correct_rows new c) c
    correctable e =
        ap₂ (λ p q. e.account == c.account && int_eq e.delta c.delta && p && q)
        (ap (λ o. other_is_as_named e.form o moved) partners ∙ other_named e.form (correct_rows new c).partner c)
        (ledger_day c.branch e.day)

    has_alike : has_entry (correct_rows old moved) moved ≡ has_entry (correct_rows new c) c
    has_alike =
        ap₂ (λ p q. not p && q) (on.undone c.branch c.entry names)
        (ap (λ o. option_map_or (λ e. is_correctable e (correct_rows old moved) moved) o false) entry_alike ∙ go (entry_named new c))
      where
        go : (o : Option Entry) → option_map_or (λ e. is_correctable e (correct_rows old moved) moved) (option_map (entry_at_old t) o) false ≡ option_map_or (λ e. is_correctable e (correct_rows new c) c) o false
        go None = refl
        go (Some e) = correctable e

    others : AreBoth (IsSameAccount (t.turns c.other)) (correct_rows old moved).other (correct_rows new c).other
    others = chosen_same (IsSameAccount (t.turns c.other)) (is_of_post c) (account_record old c.other) (account_record new c.other) (on.accounts c.other)

    correct_alike : (by : Signature) → AreTestsAlike (correct_tests (correct_rows old moved) moved by) (correct_tests (correct_rows new c) c by)
    correct_alike by = (
      refl,
      (λ z. either (either (either (either (no_account on c.account) (ap (λ p. not (is_of_post c) && p) (none_same (IsSameAccount (t.turns c.other)) _ _ others)))
          (no_teller on c.teller)) (no_ledger on c.branch)) (no_book on c.branch)),
      (
        refl,
        (λ z. ap not (of_branch on c.teller c.branch)),
        (
          refl,
          (λ z. ap not (held_by on c.teller by.user)),
          (
            refl,
            (λ z. by_maker by.user),
            (
              refl,
              (λ z. ap not has_alike),
              (
                refl,
                (λ z. ap not (both (floors on c.account (undoing c)) (keeps_floor_same (t.turns c.other) _ _ others c.delta))),
                (
                  refl,
                  (λ z. ap (λ p. not (not (is_of_post c) || p)) (covers_same (teller_record old c.teller) (teller_record new c.teller) (on.tellers c.teller) (undoing c))),
                  (
                    refl,
                    (λ z. anew _ _ z),
                    (
                      refl,
                      (λ z. anew _ _ z),
                      tt,
                    ),
                  ),
                ),
              ),
            ),
          ),
        ),
      ),
    )

  correct_replied : (k : Correct) (by : Signature) → IsRepliedAlike t (op.Correct k) (meaning_of (op_at_old t (op.Correct k)) by old).reply (meaning_of (op.Correct k) by new).reply
  correct_replied k by = (
    corrected_of (correct_rows new k) k,
    ap (λ o. json (option_map_or corrected_text o [])) (correct_left t (t.turns k.account) (t.turns k.other) k (is_of_post k)
        (account_record old k.account) (account_record new k.account) (correct_rows old (correct_at_old t k)).other (correct_rows new k).other
        (branch_record old k.branch) (branch_record new k.branch) (on.accounts k.account)
        (chosen_same (IsSameAccount (t.turns k.other)) (is_of_post k) (account_record old k.other) (account_record new k.other) (on.accounts k.other)) (on.branches k.branch)),
    refl,
  )

pub correct_in_years : (form : Correct) → IsYearForm (op.Correct form)
correct_in_years form = record {
  tests = λ t old new on names by. correct_alike t old new on form names by;
  replies = λ t old new on names by. correct_replied t old new on form by;
  kept = λ t a b replied. (replied.0, ap (λ r. json r.bytes) replied.1, ap (λ r. json r.bytes) replied.2);
  stays = λ t old new stay names by old_none new_none. correct_stays t old new stay form names by old_none new_none;
}
