-- The least branch that some row keeps open, by rows and by the numbers that are kept of tellers.
use Rattle.std.proofs.Common.{◌≡◌, ◌≢◌, ℕ, pos, ◌==◌, Bool, true, false, not, IsTrue, List, Option, Some, None, Contains, refl, ap, sym, ◌∙◌, subst}
use Rattle.std.proofs.lemmas.Bool.{eq-eqb, eqb-true, false≢true}
use Rattle.keyed_rows.proofs.Rows.{Contains-map, every_made}
use Rattle.bank_books.specs.Records.{kept_of, teller_record_of}
use Rattle.bank_books.specs.WorldLists.{WorldLists}
use Rattle.bank_books.specs.declared.records.TellerRecord.{TellerRecord}
use Rattle.bank_books.specs.declared.rows.CashLine.{CashLine}
use Rattle.bank_books.specs.declared.rows.Entry.{Entry}
use Rattle.bank_books.specs.declared.rows.Release.{Release}
use Rattle.book_check.specs.Least.{IsFirstFailing, lesser_of}
use Rattle.book_check.proofs.FirstFailing.{both, reworded}
use Rattle.year_forward.specs.Closed.{IsBranchClosed, present_day}

-- what rows of each kind ask of a branch
abbrev pub EntriesAsk : WorldLists → List Entry → ℕ → Type 0
EntriesAsk w rows branch = (e : Entry) → Contains rows e → e.branch ≡ branch → present_day w e.branch ≢ Some e.day

abbrev pub LinesAsk : WorldLists → List CashLine → ℕ → Type 0
LinesAsk w rows branch = (l : CashLine) → Contains rows l → l.branch ≡ branch → present_day w l.branch ≢ Some l.day

abbrev pub ReleasesAsk : WorldLists → List Release → ℕ → Type 0
ReleasesAsk w rows branch = (r : Release) → Contains rows r → r.branch ≡ branch → present_day w r.branch ≢ Some r.day

abbrev pub DrawersAsk : List TellerRecord → ℕ → Type 0
DrawersAsk rows branch = (t : TellerRecord) → Contains rows t → t.row.branch ≡ branch → (t.holder ≡ None) × (t.cash ≡ pos 0)

abbrev pub AllAsk : WorldLists → ℕ → Type 0
AllAsk w branch = (EntriesAsk w w.entries branch × LinesAsk w w.lines branch) × (ReleasesAsk w w.releases branch × DrawersAsk (kept_of w).tellers branch)

closed_by_rows : (w : WorldLists) (branch : ℕ) → AllAsk w branch → IsBranchClosed w branch
closed_by_rows w branch all = record {
  entries = λ e there of. subst (λ b. present_day w b ≢ Some e.day) of (all.0.0 e there of);
  lines = λ l there of. subst (λ b. present_day w b ≢ Some l.day) of (all.0.1 l there of);
  releases = λ r there of. subst (λ b. present_day w b ≢ Some r.day) of (all.1.0 r there of);
  drawers = λ t there of.
      let drawer = all.1.1 (teller_record_of w t) (Contains-map (teller_record_of w) w.tellers t there) of in
      record { free = drawer.0; empty = drawer.1 };
}

rows_by_closed : (w : WorldLists) (branch : ℕ) → IsBranchClosed w branch → AllAsk w branch
rows_by_closed w branch closed = (
  (λ e there of. subst (λ b. present_day w b ≢ Some e.day) (sym of) (closed.entries e there of), λ l there of. subst (λ b. present_day w b ≢ Some l.day) (sym of) (closed.lines l there of)),
  (
    λ r there of. subst (λ b. present_day w b ≢ Some r.day) (sym of) (closed.releases r there of),
    every_made (teller_record_of w) (λ t. t.row.branch ≡ branch → (t.holder ≡ None) × (t.cash ≡ pos 0)) w.tellers (λ t there of.
        let drawer = closed.drawers t there of in
        (drawer.free, drawer.empty)),
  ),
)

-- the least of the branches that rows of any kind keep open
pub first_of_all : (w : WorldLists) (entries lines releases drawers : Option ℕ)
    → IsFirstFailing (EntriesAsk w w.entries) entries → IsFirstFailing (LinesAsk w w.lines) lines
    → IsFirstFailing (ReleasesAsk w w.releases) releases → IsFirstFailing (DrawersAsk (kept_of w).tellers) drawers
    → IsFirstFailing (IsBranchClosed w) (lesser_of (lesser_of entries lines) (lesser_of releases drawers))
first_of_all w entries lines releases drawers of_entries of_lines of_releases of_drawers =
    let one = both (EntriesAsk w w.entries) (LinesAsk w w.lines) entries lines of_entries of_lines in
    let other = both (ReleasesAsk w w.releases) (DrawersAsk (kept_of w).tellers) releases drawers of_releases of_drawers in
    reworded (AllAsk w) (IsBranchClosed w) (lesser_of (lesser_of entries lines) (lesser_of releases drawers)) (closed_by_rows w) (rows_by_closed w)
    (both (λ b. EntriesAsk w w.entries b × LinesAsk w w.lines b) (λ b. ReleasesAsk w w.releases b × DrawersAsk (kept_of w).tellers b)
    (lesser_of entries lines) (lesser_of releases drawers) one other)

-- ---- the present day of a branch

-- a day against the present one
pub other_than : (today : Option ℕ) (there day : ℕ) → today ≡ Some there
    → (IsTrue (not (there == day)) → today ≢ Some day) × (today ≢ Some day → IsTrue (not (there == day)))
other_than today there day is = (
  λ differs same.
      let equal : there ≡ day = cc in
      false≢true (sym (ap not (eq-eqb there day equal)) ∙ differs),
  go (there == day) refl,
)
  where
    go : (b : Bool) → (there == day) ≡ b → today ≢ Some day → IsTrue (not b)
    go true equal other = absurd (other (is ∙ ap Some (eqb-true there day equal)))
    go false equal other = refl

-- and where the branch is not there
pub other_than_none : (today : Option ℕ) (day : ℕ) → today ≡ None → (IsTrue true → today ≢ Some day) × (today ≢ Some day → IsTrue true)
other_than_none today day is = (λ _ same. let clash : None ≡ Some day = sym is ∙ same in cc, λ _. refl)
