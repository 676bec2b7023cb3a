-- A release that is given: what it looks at in two Worlds, and what it changes.
use Rattle.std.proofs.Common.{List, None, Option, Some, ap, cond, false, not, refl, sym, ℕ, ◌+◌, ◌==◌, ◌∙◌, ◌≡◌}
use Rattle.std.proofs.lemmas.Bool.{and_parts, eqb-true, false_from_ne_true}
use Rattle.bank_terms.specs.declared.item.Cdi.{Cdi}
use Rattle.bank_books.specs.Books.{Books}
use Rattle.bank_books.specs.WorldLists.{WorldLists}
use Rattle.bank_books.specs.declared.signature.Signature.{Signature}
use Rattle.book_laws.proofs.LastRow.{or_else}
use Rattle.counter_ops.specs.Releasable.{branch_of}
use Rattle.counter_ops.specs.Touched.{branch_item, touched, touched_by_releasable}
use Rattle.counter_ops.specs.declared.op.Op.TheVariants as op
use Rattle.counter_ops.specs.declared.release.Release.{Release}
use Rattle.world_reads.specs.BookReads.{is_release}
use Rattle.bank_meaning.specs.Release.{given_release, release_changes, release_rows}
use Rattle.two_worlds.specs.Agree.{releases_given}
use Rattle.two_worlds.specs.Laws.{IsNotGiven}
use Rattle.two_worlds.proofs.Grown.{or_none}
use Rattle.two_worlds.proofs.IsLocalForm.{IsLocalForm}
use Rattle.two_worlds.proofs.Places.{branch_touched}
use Rattle.two_worlds.proofs.PlanParts.{IsCarried, nothing_carried}
use Rattle.two_worlds.proofs.SameRows.{same_day}
use Rattle.two_worlds.proofs.Within.{AreAlike}

-- ---- what it looks at

module _ (w v : WorldLists) (books : Books w) (books' : Books v) where
  rows_same : (form : Release) → AreAlike (touched_by_releasable form.operation) w v → (release_rows w form).given ≡ (release_rows v form).given → release_rows w form ≡ release_rows v form
  rows_same form same given =
      let today = same_day w v books books' (branch_of form.operation) (same (branch_item (branch_of form.operation)) (branch_touched form.operation)) in
      λ i. record { given = given i; today = today i }

-- ---- what it changes

-- the release that is given is the next of its user
gives : (items : List Cdi) (w : WorldLists) (form : Release) (by : Signature) → IsCarried items w.tellers (IsNotGiven w (op.Release form)) (release_changes (release_rows w form) form by)
gives items w form by = go (releases_given w form.beneficiary) refl (release_rows w form).today
  where
    apart : (given today : ℕ) → releases_given w form.beneficiary ≡ Some given → (user number : ℕ) → IsNotGiven w (op.Release form) user number
        → is_release user number (given_release given today form by) ≡ false
    apart given today is user number not = false_from_ne_true (is_release user number (given_release given today form by)) (λ passes.
        let parts = and_parts (form.beneficiary == user) (given + 1 == number) passes in
        let of = eqb-true form.beneficiary user parts.0 in
        not (sym of) given (ap (releases_given w) (sym of) ∙ is) (sym (eqb-true (given + 1) number parts.1)))

    go : (given : Option ℕ) → releases_given w form.beneficiary ≡ given → (today : Option ℕ)
        → IsCarried items w.tellers (IsNotGiven w (op.Release form)) (release_changes (record { given = given; today = today }) form by)
    go None is today = nothing_carried items w.tellers (IsNotGiven w (op.Release form))
    go (Some given) is None = nothing_carried items w.tellers (IsNotGiven w (op.Release form))
    go (Some given) is (Some today) = record {
      within = (tt, tt);
      releases = λ user number not o.
          ap (λ b. or_else o (cond b (Some (given_release given today form by)) None)) (apart given today is user number not) ∙ or_none o;
    }

pub release_is_local : (form : Release) → IsLocalForm (op.Release form)
release_is_local form = record {
  rows_same = λ by w v bank bank' same held agree. rows_same w v bank.books bank'.books form same agree;
  carried = λ by w distinct proper none. gives (touched (op.Release form)) w form by;
}
