-- Cash that is moved: what it looks at in two Worlds, and what it changes.
use Rattle.std.proofs.Common.{Bool, Contains, List, None, false, inl, inr, map, refl, true, ℕ, ◌&&◌, ◌==◌, ◌||◌, ◌≡◌, ◌≢◌, ◌⊎◌}
use Rattle.std.specs.Prelude.{if◌then◌else◌, option_map}
use Rattle.std.proofs.lemmas.Bool.{and_parts, eqb-false, eqb-true, not-false}
use Rattle.keyed_rows.specs.Ordered.{AreDistinct}
use Rattle.bank_terms.specs.declared.item.Cdi.{Cdi}
use Rattle.bank_books.specs.Books.{Books}
use Rattle.bank_books.specs.Keys.{teller_key}
use Rattle.bank_books.specs.Records.{branch_record, teller_record}
use Rattle.bank_books.specs.WorldLists.{WorldLists}
use Rattle.bank_books.specs.declared.rows.Teller.{Teller}
use Rattle.bank_books.specs.declared.signature.Signature.{Signature}
use Rattle.counter_ops.specs.Touched.{branch_item, drawer_item, teller_item, touched_by_move_cash, touched_place, vault_item}
use Rattle.counter_ops.specs.declared.move_cash.MoveCash.{MoveCash}
use Rattle.counter_ops.specs.declared.op.Op.TheVariants as op
use Rattle.rule_tests.specs.Rules.{teller_is_of}
use Rattle.drawers.specs.MoveCash.{move_changes, move_rows, teller_at}
use Rattle.bank_meaning.specs.Operations.{meaning_of}
use Rattle.two_worlds.specs.Laws.{IsNotGiven}
use Rattle.two_worlds.proofs.IsLocalForm.{IsLocalForm}
use Rattle.two_worlds.proofs.Places.{branch_there, place_there, source_there, target_there, vault_there}
use Rattle.two_worlds.proofs.PlanParts.{IsCarried, branch_passes, by_row, of_its_branch}
use Rattle.two_worlds.proofs.SameRows.{same_book, same_teller, same_vault}
use Rattle.two_worlds.proofs.Within.{AreAlike, IsOfBranch}

-- ---- what it looks at

module _ (w v : WorldLists) (books : Books w) (books' : Books v) where
  place_same : (place : ℕ) (items : List Cdi) → AreAlike items w v → ((place == 0) ≡ false → Contains items (teller_item place) × Contains items (drawer_item place)) → teller_at w place ≡ teller_at v place
  place_same place items same there = go (place == 0) refl
    where
      go : (b : Bool) → (place == 0) ≡ b → (if b then None else teller_record w place) ≡ (if b then None else teller_record v place)
      go true is = refl
      go false is = same_teller w v books books' place (same (teller_item place) (there is).0) (same (drawer_item place) (there is).1)

  rows_same : (m : MoveCash) → AreAlike (touched_by_move_cash m) w v → move_rows w m ≡ move_rows v m
  rows_same m same =
      let source = place_same m.source (touched_by_move_cash m) same (λ is.
      let at = place_there m.source is in
      (source_there m (teller_item m.source) at.0, source_there m (drawer_item m.source) at.1)) in
      let target = place_same m.target (touched_by_move_cash m) same (λ is.
      let at = place_there m.target is in
      (target_there m (teller_item m.target) at.0, target_there m (drawer_item m.target) at.1)) in
      let book = same_book w v books books' m.branch (same (branch_item m.branch) (branch_there m)) in
      let vault = go (m.source == 0 || m.target == 0) refl in
      λ i. record { source = source i; target = target i; cash_book = book i; vault = vault i }
    where
      go : (b : Bool) → (m.source == 0 || m.target == 0) ≡ b → (if b then option_map (λ b. b.vault) (branch_record w m.branch) else None) ≡ (if b then option_map (λ b. b.vault) (branch_record v m.branch) else None)
      go true is = same_vault w v books books' m.branch (same (vault_item m.branch) (vault_there m is))
      go false is = refl

-- ---- what it changes

-- a place of moved cash
abbrev IsPlace : MoveCash → List Teller → ℕ → Type 0
IsPlace m tellers place =
    ((place ≡ 0) × Contains (touched_by_move_cash m) (vault_item m.branch))
    ⊎ ((place ≢ 0) × Contains (touched_by_move_cash m) (drawer_item place) × IsOfBranch tellers place m.branch)

place_is : (w : WorldLists) (m : MoveCash) (place : ℕ) → AreDistinct (map teller_key w.tellers) → ((place == 0) ≡ true → (m.source == 0 || m.target == 0) ≡ true)
    → ((item : Cdi) → Contains (touched_place place) item → Contains (touched_by_move_cash m) item) → teller_is_of (teller_at w place) m.branch ≡ true → IsPlace m w.tellers place
place_is w m place distinct vault among of = go (place == 0) refl of
  where
    go : (b : Bool) → (place == 0) ≡ b → teller_is_of (if b then None else teller_record w place) m.branch ≡ true → IsPlace m w.tellers place
    go true is of = inl (eqb-true place 0 is, vault_there m (vault is))
    go false is of = inr (eqb-false place 0 is, among (drawer_item place) (place_there place is).1, of_its_branch w place m.branch distinct of)

or_first : (a b : Bool) → a ≡ true → (a || b) ≡ true
or_first true b is = refl
or_first false b is = absurd cc

or_second : (a b : Bool) → b ≡ true → (a || b) ≡ true
or_second true b is = refl
or_second false b is = is

moves : (w : WorldLists) (other : ℕ → ℕ → Type 0) (m : MoveCash) (by : Signature) → AreDistinct (map teller_key w.tellers) → (teller_is_of (teller_at w m.source) m.branch && teller_is_of (teller_at w m.target) m.branch) ≡ true
    → IsCarried (touched_by_move_cash m) w.tellers other (move_changes (move_rows w m) m by)
moves w other m by distinct of =
    let both = and_parts _ _ of in
    by_row (touched_by_move_cash m) w.tellers other _ (move_rows w m).cash_book (λ book. record {
      releases = λ user number is o. refl;
      within = (
        record { branch = branch_there m; place = place_is w m m.source distinct (or_first (m.source == 0) (m.target == 0)) (source_there m) both.0 },
        (record { branch = branch_there m; place = place_is w m m.target distinct (or_second (m.source == 0) (m.target == 0)) (target_there m) both.1 }, tt),
      );
    })

pub move_cash_is_local : (form : MoveCash) → IsLocalForm (op.MoveCash form)
move_cash_is_local form = record {
  rows_same = λ by w v bank bank' same held agree. rows_same w v bank.books bank'.books form same;
  carried = λ by w distinct proper none. moves w (IsNotGiven w (op.MoveCash form)) form by distinct (not-false _ (branch_passes (meaning_of (op.MoveCash form) by w) none));
}
