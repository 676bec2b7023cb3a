-- The day of a branch that is closed at both banks leaves them alike.
use Rattle.std.proofs.Common.{◌≡◌, ◌==◌, ◌+◌, ◌∙◌, ℕ, Bool, true, false, refl, ap, ap₂}
use Rattle.std.specs.Prelude.{option_map, if◌then◌else◌}
use Rattle.keyed_rows.proofs.MadeRows.{key-changed}
use Rattle.keyed_rows.proofs.Rows.{found_row}
use Rattle.bank_books.specs.Balances.{branch_row}
use Rattle.bank_books.specs.Effects.{on_day}
use Rattle.bank_books.specs.Keys.{branch_key}
use Rattle.bank_books.specs.Records.{branch_record, branch_record_of}
use Rattle.bank_books.specs.WorldLists.{WorldLists}
use Rattle.bank_books.specs.declared.rows.Branch.{Branch}
use Rattle.bank_books.specs.declared.rows.Proof.{Proof}
use Rattle.book_laws.specs.Moves.{with_proof}
use Rattle.year_laws.specs.GoesOn.{AreBoth, IsSameBranch, Turn}
use Rattle.year_laws.specs.StaysAlike.{AddsLast, StayAlike}
use Rattle.year_laws.proofs.RowsAlike.{both_moved, carried, found_made, made_twice}

-- the row of a branch, on its next day if it is that of the proof
abbrev with_day : Proof → Branch → Branch
with_day p row = if row.branch == p.branch then on_day (p.day + 1) row else row

branch_after : (w : WorldLists) (p : Proof) (key : ℕ) → branch_record (with_proof p w) key ≡ option_map (λ row. branch_record_of (with_proof p w) (with_day p row)) (branch_row key w.branches)
branch_after w p key =
    ap (option_map (branch_record_of (with_proof p w)))
    (found_made (λ row. row.branch == key) (with_day p) (λ row. ap (λ n. n == key) (key-changed branch_key (on_day (p.day + 1)) p.branch (λ r. refl) row)) w.branches)
    ∙ made_twice (branch_record_of (with_proof p w)) (with_day p) (branch_row key w.branches)

adds_still : (w : WorldLists) (p : Proof) → AddsLast w → AddsLast (with_proof p w)
adds_still w p adds = record { tellers = adds.tellers; accounts = adds.accounts; entries = adds.entries; lines = adds.lines; places = adds.places; order = adds.order; releases = adds.releases }

module _ (t : Turn) (old new : WorldLists) (stay : StayAlike t old new) (at_old p : Proof) (of : at_old.branch ≡ p.branch) (day : at_old.day ≡ p.day) where
  abbrev old_after : WorldLists
  old_after = with_proof at_old old

  abbrev new_after : WorldLists
  new_after = with_proof p new

  day_after : (n : ℕ) (c : Bool) (x y : Branch) → IsSameBranch n (branch_record_of old x) (branch_record_of new y)
      → IsSameBranch n (branch_record_of old_after (if c then on_day (at_old.day + 1) x else x)) (branch_record_of new_after (if c then on_day (p.day + 1) y else y))
  day_after n true x y same = record { day = ap (λ d. d + 1) day; balance = same.balance; vault = same.vault; entries = same.entries; accounts = same.accounts }
  day_after n false x y same = record { day = same.day; balance = same.balance; vault = same.vault; entries = same.entries; accounts = same.accounts }

  branches : (key : ℕ) → AreBoth (IsSameBranch (t.entries key)) (branch_record old_after key) (branch_record new_after key)
  branches key =
      carried (AreBoth (IsSameBranch (t.entries key))) _ _ _ _ (branch_after old at_old key) (branch_after new p key)
      (both_moved (IsSameBranch (t.entries key)) (branch_record_of old) (λ row. branch_record_of old_after (with_day at_old row)) (branch_record_of new) (λ row. branch_record_of new_after (with_day p row))
      (branch_row key old.branches) (branch_row key new.branches) (stay.alike.branches key) (λ x y x_is y_is same.
      carried (IsSameBranch (t.entries key)) _ _ _ _
      (ap (λ b. branch_record_of old_after (if b then on_day (at_old.day + 1) x else x)) (ap₂ (λ k j. k == j) (found_row branch_key key old.branches x x_is).1 of))
      (ap (λ b. branch_record_of new_after (if b then on_day (p.day + 1) y else y)) (ap (λ k. k == p.branch) (found_row branch_key key new.branches y y_is).1))
      (day_after (t.entries key) (key == p.branch) x y same)))

  -- Proofs of the same day of the same branch, and the next day after it.
  pub day_stays : StayAlike t old_after new_after
  day_stays = record {
    alike = record {
      accounts = stay.alike.accounts;
      tellers = stay.alike.tellers;
      branches = branches;
      rosters = stay.alike.rosters;
      entries = stay.alike.entries;
      undone = stay.alike.undone;
      users = stay.alike.users;
    };
    old_adds = adds_still old at_old stay.old_adds;
    new_adds = adds_still new p stay.new_adds;
    turns = stay.turns;
    given = stay.given;
    releases = stay.releases;
  }
