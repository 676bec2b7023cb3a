-- A day that is closed at the bank that goes on and at the next year's.
use Rattle.std.proofs.Common.{None, Option, Some, [], ap, refl, ℕ, ◌≡◌}
use Rattle.std.specs.Option.{option_map_or}
use Rattle.std.specs.Prelude.{is_none, is_some, option_and_then, option_map}
use Rattle.bank_books.specs.Records.{branch_record}
use Rattle.bank_books.specs.WorldLists.{WorldLists}
use Rattle.bank_books.specs.declared.records.BranchRecord.{BranchRecord}
use Rattle.bank_books.specs.declared.signature.Signature.{Signature}
use Rattle.counter_ops.specs.declared.close_day.CloseDay.{CloseDay}
use Rattle.counter_ops.specs.declared.op.Op.TheVariants as op
use Rattle.rule_tests.specs.BranchParts.{ledger_of}
use Rattle.world_reads.specs.BookReads.{roster}
use Rattle.drawers.specs.CloseDay.{close_day_effect, close_day_tests, closed, closed_of, closing_rows, first_against_close_day}
use Rattle.drawers.proofs.AllowedClose as close
use Rattle.bank_meaning.specs.CloseDay.{closed_text}
use Rattle.bank_meaning.specs.Meaning.{json}
use Rattle.bank_meaning.specs.Operations.{meaning_of}
use Rattle.year_laws.specs.GoesOn.{AreBoth, GoesOn, IsSameBranch, IsSameTeller, Turn, op_at_old}
use Rattle.year_laws.specs.RepliedAlike.{IsRepliedAlike, closed_at_old}
use Rattle.year_laws.specs.StaysAlike.{StayAlike}
use Rattle.year_laws.proofs.AlikeRows.{any_same}
use Rattle.year_laws.proofs.DaysAlike.{day_stays}
use Rattle.year_laws.proofs.FoundAlike.{same_branch}
use Rattle.year_laws.proofs.IsYearForm.{IsYearForm}
use Rattle.year_laws.proofs.RowsAlike.{carried}
use Rattle.year_laws.proofs.TestParts.{AreTestsAlike, anew, either, no_ledger, vaults}

-- ---- what is replied, by the records that it is made of

module _ (t : Turn) (branch : ℕ) where
  closing_left : (a b : Option BranchRecord) → AreBoth (IsSameBranch (t.entries branch)) a b
      → option_and_then (λ ledger. option_map (λ vault. closed ledger vault) (option_map (λ x. x.vault) a)) (option_map ledger_of a)
      ≡ option_map (closed_at_old t branch) (option_and_then (λ ledger. option_map (λ vault. closed ledger vault) (option_map (λ x. x.vault) b)) (option_map ledger_of b))
  closing_left None None same = refl
  closing_left (Some a) (Some b) same =
      let balance = same.balance in
      let cash = same.vault in
      let day = same.day in
      let entries = same.entries in
      λ i. Some (record { balance = balance i; cash = cash i; closed = day i; entries = entries i })
  closing_left None (Some b) same = absurd same
  closing_left (Some a) None same = absurd same

-- ---- at both banks

module _ (t : Turn) (old new : WorldLists) (on : GoesOn t old new) where
  closing_alike : (c : CloseDay) → AreTestsAlike (close_day_tests (closing_rows old c)) (close_day_tests (closing_rows new c))
  closing_alike c = (
    refl,
    (λ z. either (no_ledger on c.branch) (ap is_none (vaults on c.branch))),
    (
      refl,
      (λ z. anew _ _ z),
      (
        refl,
        (λ z. any_same IsSameTeller (λ x. is_some x.holder) (λ x y s. ap is_some s.holder) (roster old c.branch) (roster new c.branch) (on.rosters c.branch)),
        (
          refl,
          (λ z. anew _ _ z),
          tt,
        ),
      ),
    ),
  )

  close_day_replied : (form : CloseDay) (by : Signature) → IsRepliedAlike t (op.CloseDay form) (meaning_of (op_at_old t (op.CloseDay form)) by old).reply (meaning_of (op.CloseDay form) by new).reply
  close_day_replied form by = (
    closed_of (closing_rows new form),
    ap (λ o. json (option_map_or closed_text o [])) (closing_left t form.branch (branch_record old form.branch) (branch_record new form.branch) (on.branches form.branch)),
    refl,
  )

module _ (t : Turn) (old new : WorldLists) (stay : StayAlike t old new) where
  closes_alike : (form : CloseDay) → first_against_close_day (closing_rows old form) ≡ None → first_against_close_day (closing_rows new form) ≡ None
      → StayAlike t (close_day_effect old form) (close_day_effect new form)
  closes_alike form old_none new_none =
      let o = close.is_there old form (close.is_allowed (closing_rows old form) old_none) in
      let n = close.is_there new form (close.is_allowed (closing_rows new form) new_none) in
      let branch = same_branch t old new stay.alike form.branch o.branch n.branch o.branch_is n.branch_is in
      carried (StayAlike t) _ _ _ _ (close.effect_is old form o) (close.effect_is new form n)
      (day_stays t old new stay (close.proof_of old form o) (close.proof_of new form n) refl branch.day)

pub close_day_in_years : (form : CloseDay) → IsYearForm (op.CloseDay form)
close_day_in_years form = record {
  tests = λ t old new on names by. closing_alike t old new on form;
  replies = λ t old new on names by. close_day_replied t old new on form by;
  kept = λ t a b replied. (replied.0, ap (λ r. json r.bytes) replied.1, ap (λ r. json r.bytes) replied.2);
  stays = λ t old new stay names by old_none new_none. closes_alike t old new stay form old_none new_none;
}
