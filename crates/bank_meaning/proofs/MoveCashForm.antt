-- The laws of cash that is moved.
use Rattle.bank_books.specs.declared.rows.CashLine.{CashLine}
use Rattle.bank_meaning.specs.AskedRows.{line_says}
use Rattle.bank_meaning.proofs.RepliedCash.{move_replied}
use Rattle.bank_books.specs.Balances.{teller_row, branch_row}
use Rattle.bank_books.specs.Books.{Books}
use Rattle.bank_books.specs.Cash.{holder_of, place_cash, vault_opening}
use Rattle.bank_books.specs.Effects.{applied}
use Rattle.bank_books.specs.Records.{branch_record, teller_record, teller_record_of, branch_record_of}
use Rattle.bank_books.specs.WorldLists.{WorldLists}
use Rattle.bank_meaning.proofs.AskedRows.{is_home, placed_next}
use Rattle.bank_books.specs.declared.row_write.RowWrite.TheVariants as write
use Rattle.bank_books.specs.declared.rows.Branch.{Branch}
use Rattle.bank_books.specs.declared.signature.Signature.{Signature}
use Rattle.bank_meaning.proofs.AmountParts.{no_amount, placed, two_lines}
use Rattle.bank_meaning.proofs.BookChanges.{by_row}
use Rattle.bank_meaning.proofs.IsForm.{AreWritten, IsForm}
use Rattle.bank_meaning.proofs.JudgedParts.{NoneDenies, a_teller, at_row, branch_of_book, drawer_covered, has_drawer, holds_drawer, vault_covered}
use Rattle.bank_meaning.proofs.NoMoves.{none_within}
use Rattle.bank_meaning.proofs.Shares.{two_none}
use Rattle.bank_meaning.proofs.Steps.{IsStep, IsSumOf, plan_step}
use Rattle.bank_meaning.specs.JudgedRows.{DrawerCovers, HasBranch, HoldsDrawer, PlaceCovers}
use Rattle.bank_meaning.specs.MoveCash.{IsMoveJudged}
use Rattle.bank_meaning.specs.Moves.{moves_nothing}
use Rattle.bank_meaning.specs.PolicyRules.{asker}
use Rattle.bank_meaning.specs.Sums.{PassesChecks}
use Rattle.bank_meaning.specs.declared.who.Who.{Who}
use Rattle.bank_terms.specs.declared.rule.Rule.TheVariants as rule
use Rattle.counter_ops.specs.MoveCash.{IsMoveCash}
use Rattle.counter_ops.specs.declared.move_cash.MoveCash.{MoveCash}
use Rattle.counter_ops.specs.declared.op.Op.TheVariants as op
use Rattle.drawers.proofs.AllowedMove as move_allowed
use Rattle.drawers.specs.MoveCash.{from_source, first_against_move, is_missing, is_vault, move_changes, move_effect, move_rows, place_covers, source_line, target_line, teller_at, into_drawers, into_target, place_in_range}
use Rattle.drawers.specs.declared.move_cash.MoveRows.{MoveRows}
use Rattle.rule_tests.specs.Rules.{drawer_covers, drawer_is_free, drawer_is_held_by, teller_is_of, vault_covers, drawer_in_range, vault_in_range}
use Rattle.rule_tests.specs.Signed.{IsSigned}
use Rattle.rule_tests.specs.declared.cash_book.CashBook.{CashBook}
use Rattle.std.proofs.Common.{Bool, None, Option, Some, [], ap, arith, false, neg_ℤ, not, pos, refl, subst, sym, true, ℕ, ℤ, ◌&&◌, ◌+ℤ◌, ◌==◌, ◌||◌, ◌∷◌, ◌≡◌, ◌≢◌, ◌≤◌, Contains, ◌∙◌}
use Rattle.std.proofs.lemmas.Bool.{and_parts, eq-eqb, eqb-false, eqb-true, ne_eqb, not-false, not-true, or_parts, and_from, not_from_true, or_from}
use Rattle.std.proofs.lemmas.Int.{ints}
use Rattle.std.specs.Prelude.{if◌then◌else◌, is_none, neg_ℤ, option_map, unsigned_abs, ◌≤ℤ◌}
use Rattle.book_laws.specs.Limits.{IsBranchWithin}
use Rattle.row_members.specs.Ranges.{IsCash}
use Rattle.bank_books.specs.declared.rows.Teller.{Teller}
use Rattle.bank_books.specs.Keys.{branch_key}
use Rattle.bank_meaning.proofs.PassingParts.{branch_with_lines, cash_as, covers_it, first_alone, holder_is, holds_it, is_of_branch, key_of_drawer, limits_of, money_as, none_by, number_is_left, place_with_lines, second_alone, vault_covers_it}
use Rattle.keyed_rows.proofs.Rows.{found_row}
use Rattle.money.specs.Range.{is_cents}
use Rattle.book_laws.specs.Next.{lined}

moved_sums : (book : CashBook) (move : MoveCash) (by : Signature)
    → IsSumOf (write.Line (source_line book move by) ∷ write.Line (target_line book move by) ∷ []) moves_nothing
moved_sums book move by = record {
  branches = λ key. refl;
  tellers = λ key. refl;
  accounts = λ key. refl;
  entries = λ key. refl;
  cash_entries = λ key. two_none (move.branch == key) (move.branch == key) (neg_ℤ (pos move.amount)) (pos move.amount);
}

moves_cash : (w : WorldLists) (move : MoveCash) (by : Signature) → PassesChecks w → IsMoveCash move → IsSigned w by → first_against_move (move_rows w move) move by ≡ None
    → IsStep w (move_effect w move by) moves_nothing
moves_cash w move by checks proper signed is =
    let there = move_allowed.is_there w move (move_allowed.is_allowed (move_rows w move) move by is).known in
    let effect = ap (λ changes. applied changes w) (move_allowed.changes_are w move there by) in
    subst (λ after. IsStep w after moves_nothing) (sym effect)
    (plan_step w _ moves_nothing checks (tt, (tt, tt)) (moved_sums (move_allowed.book_of w move there) move by)
    (subst Books effect (move_allowed.move_cash_keeps_books w move by checks.books signed proper is)))

move_lines : (w : WorldLists) (m : MoveCash) (by : Signature) (branch place : ℕ) → unsigned_abs (placed branch place (move_changes (move_rows w m) m by)) ≤ m.amount
move_lines w m by branch place = go (move_rows w m).cash_book
  where
    go : (k : Option CashBook) → unsigned_abs (placed branch place (move_changes (record (move_rows w m) { cash_book = k }) m by)) ≤ m.amount
    go (Some k) = two_lines (m.branch == branch && m.source == place) (m.branch == branch && m.target == place) (pos m.amount)
    go None = no_amount m.amount

one_holder : (o : Option ℕ) → is_none o ≡ false → (holder : ℕ) × (o ≡ Some holder)
one_holder None is = absurd cc
one_holder (Some holder) is = (holder, refl)

held_drawer : (w : WorldLists) (teller branch : ℕ) → is_none (teller_record w teller) ≡ false → teller_is_of (teller_record w teller) branch ≡ true
    → drawer_is_free (teller_record w teller) ≡ false → (holder : ℕ) × HoldsDrawer w holder teller branch
held_drawer w teller branch known of held =
    let t = a_teller w teller branch known of in
    let one = one_holder (holder_of w.lines t.row.teller) (at_row (teller_record_of w) drawer_is_free (teller_row teller w.tellers) t.row false t.there held) in
    (one.0, has_drawer w teller branch (Some one.0) t one.1)

-- what the rules on a move say of its rows
pub record IsMovePassed (w : WorldLists) (user : ℕ) (m : MoveCash) : Type 0 where
  pub source_known : is_missing m.source (teller_at w m.source) ≡ false
  pub target_known : is_missing m.target (teller_at w m.target) ≡ false
  pub branch : HasBranch w m.branch
  pub source_of : teller_is_of (teller_at w m.source) m.branch ≡ true
  pub target_of : teller_is_of (teller_at w m.target) m.branch ≡ true
  pub held : drawer_is_held_by (if is_vault m.source then teller_at w m.target else teller_at w m.source) user ≡ true
  pub not_free : drawer_is_free (teller_at w m.target) ≡ false
  pub covers : place_covers m.source (teller_at w m.source) (move_rows w m).vault (neg_ℤ (pos m.amount)) ≡ true

move_passed : (w : WorldLists) (who : Who) (moment : ℕ) (m : MoveCash) → NoneDenies w who moment (op.MoveCash m) → IsMovePassed w (asker who) m
move_passed w who moment m none =
    let rows : MoveRows = move_rows w m in
    let first = or_parts (is_missing m.source rows.source || is_missing m.target rows.target || is_none rows.cash_book) ((is_vault m.source || is_vault m.target) && is_none rows.vault) (none rule.Unknown) in
    let second = or_parts (is_missing m.source rows.source || is_missing m.target rows.target) (is_none rows.cash_book) first.0 in
    let third = or_parts (is_missing m.source rows.source) (is_missing m.target rows.target) second.0 in
    let of = and_parts (teller_is_of rows.source m.branch) (teller_is_of rows.target m.branch) (not-false _ (none rule.Branch)) in
    let may = and_parts (drawer_is_held_by (if is_vault m.source then rows.target else rows.source) (asker who)) (not (drawer_is_free rows.target)) (not-false _ (none rule.Drawer)) in
    record {
      source_known = third.0;
      target_known = third.1;
      branch = branch_of_book w m.branch second.1;
      source_of = of.0;
      target_of = of.1;
      held = may.0;
      not_free = not-true _ may.1;
      covers = not-false _ (none rule.Cash);
    }

-- the teller of a place that is no vault
drawer_at : (w : WorldLists) (user place branch : ℕ) → (place == 0) ≡ false → is_missing place (teller_at w place) ≡ false → teller_is_of (teller_at w place) branch ≡ true
    → drawer_is_held_by (teller_at w place) user ≡ true → HoldsDrawer w user place branch
drawer_at w user place branch is known of held =
    holds_drawer w user place branch (subst (λ b. (not b && is_none (if b then None else teller_record w place)) ≡ false) is known)
    (ap not (subst (λ b. teller_is_of (if b then None else teller_record w place) branch ≡ true) is of))
    (ap not (subst (λ b. drawer_is_held_by (if b then None else teller_record w place) user ≡ true) is held))

none_more : (z : ℤ) → pos 0 +ℤ z ≡ z
none_more z = omega (arith, ints)

-- the place that gives has the cash
place_covered : (w : WorldLists) (m : MoveCash) → HasBranch w m.branch → (m.source ≢ 0 → DrawerCovers w m.source m.branch (neg_ℤ (pos m.amount)))
    → place_covers m.source (teller_at w m.source) (move_rows w m).vault (neg_ℤ (pos m.amount)) ≡ true → PlaceCovers w m.source m.branch (neg_ℤ (pos m.amount))
place_covered w m branch drawer covers = go (m.source == 0) refl
  where
    added : ℤ
    added = neg_ℤ (pos m.amount)

    go : (b : Bool) → (m.source == 0) ≡ b → PlaceCovers w m.source m.branch added
    go true is =
        subst (λ place. PlaceCovers w place m.branch added) (sym (eqb-true m.source 0 is))
        (vault_covered w m.branch added branch
        (subst (λ b. (if b then vault_covers (if b || is_vault m.target then option_map (λ r. r.vault) (branch_record w m.branch) else None) added else drawer_covers (teller_at w m.source) added) ≡ true) is covers))
    go false is =
        let some = eqb-false m.source 0 is in
        subst (λ (b : Bool). pos 0 ≤ℤ (((if b then vault_opening m.branch w.branches else pos 0) +ℤ place_cash m.branch m.source w.lines) +ℤ added)) (sym is)
        (subst (λ z. pos 0 ≤ℤ (z +ℤ added)) (sym (none_more (place_cash m.branch m.source w.lines))) (drawer some))

-- and so has the drawer that gives
source_covered : (w : WorldLists) (user : ℕ) (m : MoveCash) → IsMovePassed w user m → m.source ≢ 0 → HoldsDrawer w user m.source m.branch → DrawerCovers w m.source m.branch (neg_ℤ (pos m.amount))
source_covered w user m passed some drawer =
    drawer_covered w user m.source m.branch (neg_ℤ (pos m.amount)) drawer
    (subst (λ b. (if b then vault_covers (move_rows w m).vault (neg_ℤ (pos m.amount)) else drawer_covers (if b then None else teller_record w m.source) (neg_ℤ (pos m.amount))) ≡ true) (ne_eqb m.source 0 some) passed.covers)

source_held : (w : WorldLists) (user : ℕ) (m : MoveCash) → IsMovePassed w user m → m.source ≢ 0 → HoldsDrawer w user m.source m.branch
source_held w user m passed some =
    let is = ne_eqb m.source 0 some in
    drawer_at w user m.source m.branch is passed.source_known passed.source_of
    (subst (λ b. drawer_is_held_by (if b then teller_at w m.target else teller_at w m.source) user ≡ true) is passed.held)

move_asked : (by : Signature) (w : WorldLists) (m : MoveCash) → IsMoveJudged w by.user m
    → AreWritten (op.MoveCash m) by w (move_changes (move_rows w m) m by)
move_asked by w m judged =
    let home = is_home w m.branch judged.branch.0 judged.branch.1 in
    let there : move_allowed.IsThere w m = record { home = judged.branch.0; home_is = judged.branch.1 } in
    let next = λ (l : CashLine) (n : ℕ). placed_next w (line_says l) n judged.branch.0.branch m.branch home.key in
    subst (AreWritten (op.MoveCash m) by w) (sym (move_allowed.changes_are w m there by))
    (record { asked = (move_allowed.given w m there by, move_allowed.taken w m there by, refl, next (move_allowed.given w m there by) 1, next (move_allowed.taken w m there by) 2); bear = ((refl, refl, home.day), ((refl, refl, home.day), tt)); days = tt })

move_judged : (w : WorldLists) (who : Who) (moment : ℕ) (m : MoveCash) → NoneDenies w who moment (op.MoveCash m) → IsMoveJudged w (asker who) m
move_judged w who moment m none =
    let passed = move_passed w who moment m none in
    record {
      branch = passed.branch;
      source = source_held w (asker who) m passed;
      from_vault = λ zero some.
          drawer_at w (asker who) m.target m.branch (ne_eqb m.target 0 some) passed.target_known passed.target_of
          (subst (λ b. drawer_is_held_by (if b then teller_at w m.target else teller_at w m.source) (asker who) ≡ true) (eq-eqb m.source 0 zero) passed.held);
      target = λ some.
          let is = ne_eqb m.target 0 some in
          held_drawer w m.target m.branch (subst (λ b. (not b && is_none (if b then None else teller_record w m.target)) ≡ false) is passed.target_known)
          (subst (λ b. teller_is_of (if b then None else teller_record w m.target) m.branch ≡ true) is passed.target_of)
          (subst (λ b. drawer_is_free (if b then None else teller_record w m.target) ≡ false) is passed.not_free);
      cash = place_covered w m passed.branch (λ some. source_covered w (asker who) m passed some (source_held w (asker who) m passed some)) passed.covers;
    }

-- ---- where it may be moved

-- somebody holds the drawer that a place is, if it is no vault
abbrev IsHeldAt : WorldLists → ℕ → ℕ → Type 0
IsHeldAt w place branch = place ≢ 0 → (holder : ℕ) × HoldsDrawer w holder place branch

not_missing : (w : WorldLists) (place branch : ℕ) → IsHeldAt w place branch → is_missing place (teller_at w place) ≡ false
not_missing w place branch held = go (place == 0) refl
  where
    go : (b : Bool) → (place == 0) ≡ b → (not b && is_none (if b then None else teller_record w place)) ≡ false
    go true is = refl
    go false is = ap (λ o. is_none (option_map (teller_record_of w) o)) (held (eqb-false place 0 is)).1.there

of_its_branch : (w : WorldLists) (place branch : ℕ) → IsHeldAt w place branch → teller_is_of (teller_at w place) branch ≡ true
of_its_branch w place branch held = go (place == 0) refl
  where
    go : (b : Bool) → (place == 0) ≡ b → teller_is_of (if b then None else teller_record w place) branch ≡ true
    go true is = refl
    go false is =
        let one = held (eqb-false place 0 is) in
        ap (λ o. teller_is_of (option_map (teller_record_of w) o) branch) one.1.there ∙ is_of_branch w place branch (Some one.0) one.1

held_by : (w : WorldLists) (user place branch : ℕ) → place ≢ 0 → HoldsDrawer w user place branch → drawer_is_held_by (teller_at w place) user ≡ true
held_by w user place branch some d =
    ap (λ b. drawer_is_held_by (if b then None else teller_record w place) user) (ne_eqb place 0 some)
    ∙ ap (λ o. drawer_is_held_by (option_map (teller_record_of w) o) user) d.there
    ∙ holds_it w user place branch d

not_free : (w : WorldLists) (place branch : ℕ) → IsHeldAt w place branch → drawer_is_free (teller_at w place) ≡ false
not_free w place branch held = go (place == 0) refl
  where
    go : (b : Bool) → (place == 0) ≡ b → drawer_is_free (if b then None else teller_record w place) ≡ false
    go true is = refl
    go false is =
        let one = held (eqb-false place 0 is) in
        ap (λ o. drawer_is_free (option_map (teller_record_of w) o)) one.1.there ∙ ap is_none (holder_is w place branch (Some one.0) one.1)

vault_known : (x : Bool) (v : ℤ) → (x && is_none (if x then Some v else None)) ≡ false
vault_known true v = refl
vault_known false v = refl

-- who moves it holds the drawer
mover_holds : (w : WorldLists) (user : ℕ) (m : MoveCash) → m.source ≢ m.target → IsMoveJudged w user m
    → drawer_is_held_by (if is_vault m.source then teller_at w m.target else teller_at w m.source) user ≡ true
mover_holds w user m apart judged = go (m.source == 0) refl
  where
    go : (b : Bool) → (m.source == 0) ≡ b → drawer_is_held_by (if b then teller_at w m.target else teller_at w m.source) user ≡ true
    go true is =
        let zero = eqb-true m.source 0 is in
        let some = λ (target_zero : m.target ≡ 0). apart (zero ∙ sym target_zero) in
        held_by w user m.target m.branch some (judged.from_vault zero some)
    go false is =
        let some = eqb-false m.source 0 is in
        held_by w user m.source m.branch some (judged.source some)

-- ---- the cash of its places

none_before : (z : ℤ) → pos 0 +ℤ z ≡ z
none_before z = omega (arith, ints)

source_has_it : (w : WorldLists) (user : ℕ) (m : MoveCash) (home : Branch) → branch_row m.branch w.branches ≡ Some home → IsMoveJudged w user m
    → place_covers m.source (teller_at w m.source) (move_allowed.rows_of w m (Some home)).vault (from_source m) ≡ true
source_has_it w user m home there judged = go (m.source == 0) refl
  where
    go : (b : Bool) → (m.source == 0) ≡ b
        → (if b then vault_covers (if b || is_vault m.target then Some (branch_record_of w home).vault else None) (from_source m) else drawer_covers (if b then None else teller_record w m.source) (from_source m)) ≡ true
    go true is = vault_covers_it w m.branch home (from_source m) there (subst (λ place. PlaceCovers w place m.branch (from_source m)) (eqb-true m.source 0 is) judged.cash)
    go false is =
        let d = judged.source (eqb-false m.source 0 is) in
        let covers = subst (λ (b : Bool). pos 0 ≤ℤ (((if b then vault_opening m.branch w.branches else pos 0) +ℤ place_cash m.branch m.source w.lines) +ℤ from_source m)) is judged.cash in
        ap (λ o. drawer_covers (option_map (teller_record_of w) o) (from_source m)) d.there
        ∙ covers_it w m.source m.branch (Some user) (from_source m) d (subst (λ z. pos 0 ≤ℤ (z +ℤ from_source m)) (none_before (place_cash m.branch m.source w.lines)) covers)

either_way : (s : Bool) (v x : ℤ) → is_cents (v +ℤ x) ≡ true → vault_in_range (if s || true then Some v else None) x ≡ true
either_way true v x cents = cents
either_way false v x cents = cents

-- a place stays in the range of money, where its vault or its drawer does
place_is_in_range : (w : WorldLists) (place branch : ℕ) (vault : Option ℤ) (added : ℤ) → IsHeldAt w place branch → (place ≡ 0 → vault_in_range vault added ≡ true)
    → ((t : Teller) → Contains w.tellers t → t.teller ≡ place → t.branch ≡ branch → place ≢ 0 → is_cents ((teller_record_of w t).cash +ℤ added) ≡ true)
    → place_in_range place (teller_at w place) vault added ≡ true
place_is_in_range w place branch vault added held at_vault at_drawer = go (place == 0) refl
  where
    go : (b : Bool) → (place == 0) ≡ b → (if b then vault_in_range vault added else drawer_in_range (if b then None else teller_record w place) added) ≡ true
    go true is = at_vault (eqb-true place 0 is)
    go false is =
        let some = eqb-false place 0 is in
        let one = held some in
        let of = key_of_drawer w place branch (Some one.0) one.1 in
        ap (λ o. drawer_in_range (option_map (teller_record_of w) o) added) one.1.there ∙ at_drawer one.1.row of.0 of.1 one.1.of_branch some

into_drawers_is : (z x y : ℤ) (s t : Bool) → (z +ℤ (if not s then x else pos 0)) +ℤ (if not t then y else pos 0) ≡ z +ℤ ((if t then pos 0 else y) +ℤ (if s then pos 0 else x))
into_drawers_is z x y true true = omega (arith, ints)
into_drawers_is z x y true false = omega (arith, ints)
into_drawers_is z x y false true = omega (arith, ints)
into_drawers_is z x y false false = omega (arith, ints)

-- ---- the tests of its rows

move_passes : (w : WorldLists) (move : MoveCash) (by : Signature) → IsMoveCash move → IsMoveJudged w by.user move → Books (move_effect w move by)
    → first_against_move (move_rows w move) move by ≡ None
move_passes w move by proper judged books =
    let home : Branch = judged.branch.0 in
    let there : move_allowed.IsThere w move = record { home = home; home_is = judged.branch.1 } in
    let lines = move_allowed.given w move there by ∷ move_allowed.taken w move there by ∷ [] in
    let after : Books (lined lines w) = subst Books (move_allowed.effect_is w move there by) books in
    let limits = limits_of (lined lines w) after in
    let b = branch_record_of w home in
    let of_home = found_row branch_key move.branch w.branches home judged.branch.1 in
    let within = (subst IsBranchWithin (branch_with_lines w lines home (sym of_home.1, (sym of_home.1, tt))) (limits.branches home of_home.0)).cash in
    let source_held : IsHeldAt w move.source move.branch = λ some. (by.user, judged.source some) in
    let target_held : IsHeldAt w move.target move.branch = judged.target in
    let vault = (move_allowed.rows_of w move (Some home)).vault in
    let drawer = λ (t : Teller) (there : Contains w.tellers t) (of : t.branch ≡ move.branch).
    subst IsCash (place_with_lines w lines t.branch t.teller (sym of, (sym of, tt))) (limits.tellers t there).cash in
    let other_target = λ (zero : move.source ≡ 0). ne_eqb move.target 0 (λ target_zero. proper.two_places (zero ∙ sym target_zero)) in
    let other_source = λ (zero : move.target ≡ 0). ne_eqb move.source 0 (λ source_zero. proper.two_places (source_zero ∙ sym zero)) in
    let source = place_is_in_range w move.source move.branch vault (from_source move) source_held
    (λ zero. ap (λ s. vault_in_range (if s || is_vault move.target then Some b.vault else None) (from_source move)) (eq-eqb move.source 0 zero)
    ∙ cash_as _ (b.vault +ℤ from_source move) within.vault_within
    (first_alone b.vault (from_source move) (into_target move) (move.source == 0) (move.target == 0) (eq-eqb move.source 0 zero) (other_target zero)))
    (λ t there key of some. cash_as _ ((teller_record_of w t).cash +ℤ from_source move) (drawer t there of)
    (first_alone (teller_record_of w t).cash (from_source move) (into_target move) (move.source == t.teller) (move.target == t.teller) (eq-eqb move.source t.teller (sym key))
    (ne_eqb move.target t.teller (λ same. proper.two_places (sym key ∙ sym same))))) in
    let target = place_is_in_range w move.target move.branch vault (into_target move) target_held
    (λ zero. ap (λ t. vault_in_range (if is_vault move.source || t then Some b.vault else None) (into_target move)) (eq-eqb move.target 0 zero)
    ∙ either_way (is_vault move.source) b.vault (into_target move)
    (cash_as _ (b.vault +ℤ into_target move) within.vault_within
    (second_alone b.vault (from_source move) (into_target move) (move.source == 0) (move.target == 0) (other_source zero) (eq-eqb move.target 0 zero))))
    (λ t there key of some. cash_as _ ((teller_record_of w t).cash +ℤ into_target move) (drawer t there of)
    (second_alone (teller_record_of w t).cash (from_source move) (into_target move) (move.source == t.teller) (move.target == t.teller)
    (ne_eqb move.source t.teller (λ same. proper.two_places (same ∙ key))) (eq-eqb move.target t.teller (sym key)))) in
    let drawers = money_as _ (b.drawers +ℤ into_drawers move) within.drawers_within (into_drawers_is b.drawers (from_source move) (into_target move) (is_vault move.source) (is_vault move.target)) in
    let missing = or_from _ _ (not_missing w move.source move.branch source_held) (not_missing w move.target move.branch target_held) in
    let unknown = or_from _ _ (or_from _ false missing refl) (vault_known (is_vault move.source || is_vault move.target) b.vault) in
    let held = and_from _ _ (mover_holds w by.user move proper.two_places judged) (ap not (not_free w move.target move.branch target_held)) in
    subst (λ o. first_against_move (move_allowed.rows_of w move o) move by ≡ None) (sym judged.branch.1)
    (none_by _ rule.Unknown _ unknown
    (none_by _ rule.Branch _ (not_from_true _ (and_from _ _ (of_its_branch w move.source move.branch source_held) (of_its_branch w move.target move.branch target_held)))
    (none_by _ rule.Drawer _ (not_from_true _ held)
    (none_by _ rule.Cash _ (not_from_true _ (source_has_it w by.user move home judged.branch.1 judged))
    (none_by _ rule.Range _ (not_from_true _ (and_from _ _ (and_from _ _ source target) drawers)) (none_by _ rule.Full None (number_is_left b.lines 2 (omega (arith, within.lines_within))) refl))))))

pub move_cash_is_form : (form : MoveCash) → IsForm (op.MoveCash form)
move_cash_is_form form = record {
  said = λ by w. refl;
  books_alone = λ rows by. by_row _ rows.cash_book (λ cash_book. record { each = (refl, (refl, tt)) });
  no_slips = λ s by w. refl;
  asks = λ is. absurd cc;
  in_json = λ is rows by. refl;
  reports_ask = λ is. absurd cc;
  no_commands = λ rows by. refl;
  steps = λ by w checks proper signed none. moves_cash w form by checks proper signed none;
  judged = λ w who moment none. move_judged w who moment form none;
  denies_no_more = λ by w checks proper judged books. move_passes w form by proper judged books;
  moves = none_within _;
  cash = λ is by w branch place. move_lines w form by branch place;
  asked = λ by w judged. move_asked by w form judged;
  replied = λ by w checks proper judged step. move_replied by w form checks.books proper judged step;
}
