-- What the replies to a drawer that is put on or off and to a move of cash say is so after it.
use Rattle.std.proofs.Common.{◌≡◌, ◌≢◌, ℕ, ◌==◌, ◌||◌, neg_ℤ, ◌+ℤ◌, Bool, true, false, List, [], ◌∷◌, None, Some, Contains, refl, ap, ap₂, sym, subst, ◌∙◌}
use Rattle.std.specs.Prelude.{if◌then◌else◌, option_and_then, option_map}
use Rattle.std.specs.Option.{option_map_or}
use Rattle.std.proofs.lemmas.Bool.{eqb-false, eqb-true}
use Rattle.keyed_rows.proofs.Rows.{Contains-head}
use Rattle.bank_books.specs.Books.{Books}
use Rattle.bank_books.specs.Cash.{cash_of, vault_opening}
use Rattle.bank_books.specs.Effects.{all_written, applied}
use Rattle.bank_books.specs.Records.{branch_record, branch_record_of, teller_record, teller_record_of}
use Rattle.bank_books.specs.WorldLists.{WorldLists}
use Rattle.bank_books.specs.declared.row_write.RowWrite.{RowWrite}
use Rattle.bank_books.specs.declared.row_write.RowWrite.TheVariants as write
use Rattle.bank_books.specs.declared.rows.Branch.{Branch}
use Rattle.bank_books.specs.declared.rows.CashLine.{CashLine}
use Rattle.bank_books.specs.declared.signature.Signature.{Signature}
use Rattle.counter_ops.specs.MoveCash.{IsMoveCash}
use Rattle.counter_ops.specs.declared.drawer_off.DrawerOff.{DrawerOff}
use Rattle.counter_ops.specs.declared.drawer_on.DrawerOn.{DrawerOn}
use Rattle.counter_ops.specs.declared.move_cash.MoveCash.{MoveCash}
use Rattle.drawers.specs.DrawerOff.{drawer_off_changes, drawer_off_effect, put_off_of}
use Rattle.drawers.specs.DrawerOn.{drawer_on_effect, from_vault, into_drawer, put_on_of}
use Rattle.drawers.specs.DrawerRows.{drawer_rows}
use Rattle.drawers.specs.MoveCash.{from_source, into_target, move_effect, move_rows, moved, moved_of, place_cash as cash_at, teller_at}
use Rattle.drawers.proofs.AllowedMove as move_allowed
use Rattle.drawers.proofs.AllowedOff as off_allowed
use Rattle.drawers.proofs.AllowedOn as on_allowed
use Rattle.drawers.proofs.DrawerThere.{AreThere, rows_are}
use Rattle.bank_meaning.specs.DrawerOff.{IsDrawerOffJudged, IsDrawerOffReplied, put_off_text}
use Rattle.bank_meaning.specs.DrawerOn.{IsDrawerOnJudged, IsDrawerOnReplied, put_on_text}
use Rattle.bank_meaning.specs.JudgedRows.{HasBranch, HoldsDrawer}
use Rattle.bank_meaning.specs.Meaning.{json}
use Rattle.bank_meaning.specs.MoveCash.{IsMoveJudged, IsMoveReplied, moved_text}
use Rattle.bank_meaning.specs.Moves.{moves_nothing}
use Rattle.bank_meaning.proofs.AmountParts.{placed}
use Rattle.bank_meaning.proofs.PassingParts.{is_no_vault, vault_is}
use Rattle.bank_meaning.proofs.Replied.{cash_after, drawer_is, here_at, not_at, only_first, only_second, only_third}
use Rattle.bank_meaning.proofs.Steps.{IsStep}

-- the cash of a place after a plan that no branch is lost by
after_plan : (w after : WorldLists) (changes : List RowWrite) (branch place : ℕ) → after ≡ all_written changes w → vault_opening branch after.branches ≡ vault_opening branch w.branches
    → cash_of after branch place ≡ cash_of w branch place +ℤ placed branch place changes
after_plan w after changes branch place is vaults =
    ap (λ v. cash_of v branch place) is ∙ cash_after w changes branch place (ap (λ v. vault_opening branch v.branches) (sym is) ∙ vaults)

-- ---- a drawer

pub drawer_on_replied : (by : Signature) (w : WorldLists) (form : DrawerOn) → Books w → IsDrawerOnJudged w form → IsStep w (drawer_on_effect w form by) moves_nothing
    → IsDrawerOnReplied (drawer_on_effect w form by) form (json (option_map_or put_on_text (put_on_of (drawer_rows w form.teller form.branch) form) []))
drawer_on_replied by w form books judged step =
    let d = judged.drawer in
    let home : Branch = judged.branch.0 in
    let there : AreThere w form.teller form.branch = record { holder = d.row; holder_is = d.there; home = home; home_is = judged.branch.1 } in
    let changes : List RowWrite = write.Line (on_allowed.given w form there by) ∷ write.Line (on_allowed.taken w form there by) ∷ [] in
    let after : WorldLists = drawer_on_effect w form by in
    let effect : after ≡ all_written changes w = ap (λ cs. applied cs w) (on_allowed.changes_are w form there by) in
    let some : form.teller ≢ 0 = is_no_vault w form.teller form.branch None books d in
    let left = λ (place : ℕ). after_plan w after changes form.branch place effect (step.vaults form.branch) in
    let cash = left form.teller
    ∙ only_second (cash_of w form.branch form.teller) (from_vault form) (into_drawer form) _ _ (not_at form.branch 0 form.teller (λ zero. some (sym zero))) (here_at form.branch form.teller) in
    let vault = left 0 ∙ only_first (cash_of w form.branch 0) (from_vault form) (into_drawer form) _ _ (here_at form.branch 0) (not_at form.branch form.teller 0 some) in
    ap (λ rows. json (option_map_or put_on_text (put_on_of rows form) [])) (rows_are w form.teller form.branch there)
    ∙ ap₂ (λ c v. json (put_on_text (record { cash = c; teller = form.teller; vault = v })))
    (ap (λ z. z +ℤ into_drawer form) (drawer_is w form.teller form.branch None books d) ∙ sym cash)
    (ap (λ z. z +ℤ from_vault form) (sym (vault_is w form.branch home judged.branch.1)) ∙ sym vault)

pub drawer_off_replied : (by : Signature) (w : WorldLists) (form : DrawerOff) → Books w → IsDrawerOffJudged w by.user form → IsStep w (drawer_off_effect w form by) moves_nothing
    → IsDrawerOffReplied (drawer_off_effect w form by) (drawer_off_changes (drawer_rows w form.teller form.branch) form by) form
    (json (option_map_or put_off_text (put_off_of (drawer_rows w form.teller form.branch) form) []))
drawer_off_replied by w form books judged step =
    let d = judged.drawer in
    let home : Branch = judged.branch.0 in
    let there : AreThere w form.teller form.branch = record { holder = d.row; holder_is = d.there; home = home; home_is = judged.branch.1 } in
    let line : CashLine = off_allowed.counted w form there by in
    let rest : List RowWrite = write.Line (off_allowed.emptied w form there by) ∷ write.Line (off_allowed.returned w form there by) ∷ [] in
    let after : WorldLists = drawer_off_effect w form by in
    let effect : after ≡ all_written (write.Line line ∷ rest) w = ap (λ cs. applied cs w) (off_allowed.changes_are w form there by) in
    let some : form.teller ≢ 0 = is_no_vault w form.teller form.branch (Some by.user) books d in
    let elsewhere = not_at form.branch form.teller 0 some in
    let vault = after_plan w after (write.Line line ∷ rest) form.branch 0 effect (step.vaults form.branch)
    ∙ only_third (cash_of w form.branch 0) line.amount (neg_ℤ form.counted) form.counted _ _ _ elsewhere elsewhere (here_at form.branch 0) in
    record {
      line = line;
      added = subst (λ rows. Contains rows (write.Line line)) (sym (off_allowed.changes_are w form there by)) (Contains-head (write.Line line) rest);
      is_difference = refl;
      says =
          ap (λ rows. json (option_map_or put_off_text (put_off_of rows form) [])) (rows_are w form.teller form.branch there)
          ∙ ap (λ v. json (put_off_text (record { difference = line.amount; teller = form.teller; vault = v })))
          (ap (λ z. z +ℤ form.counted) (sym (vault_is w form.branch home judged.branch.1)) ∙ sym vault);
    }

-- ---- two places

-- What the rows of a move hold of a place: of the vault where one of the two is it, of a drawer where it is there.
place_held : (w : WorldLists) (branch place : ℕ) (with_vault : Bool) → Books w → HasBranch w branch → (place ≡ 0 → with_vault ≡ true) → (place ≢ 0 → (holder : ℕ) × HoldsDrawer w holder place branch)
    → cash_at place (teller_at w place) (if with_vault then option_map (λ b. b.vault) (branch_record w branch) else None) ≡ Some (cash_of w branch place)
place_held w branch place with_vault books home vault held = go (place == 0) refl
  where
    go : (b : Bool) → (place == 0) ≡ b
        → (if b then (if with_vault then option_map (λ r. r.vault) (branch_record w branch) else None) else option_map (λ t. t.cash) (if b then None else teller_record w place)) ≡ Some (cash_of w branch place)
    go true is =
        let zero = eqb-true place 0 is in
        ap (λ v. if v then option_map (λ r. r.vault) (branch_record w branch) else None) (vault zero)
        ∙ ap (λ o. option_map (λ r. r.vault) (option_map (branch_record_of w) o)) home.1
        ∙ ap Some (sym (vault_is w branch home.0 home.1))
        ∙ ap (λ p. Some (cash_of w branch p)) (sym zero)
    go false is =
        let one = held (eqb-false place 0 is) in
        ap (λ o. option_map (λ t. t.cash) (option_map (teller_record_of w) o)) one.1.there ∙ ap Some (drawer_is w place branch (Some one.0) books one.1)

in_first : (n m : ℕ) → n ≡ 0 → (n == 0 || m == 0) ≡ true
in_first n m zero = ap (λ k. k == 0 || m == 0) zero

in_second : (a : Bool) (m : ℕ) → m ≡ 0 → (a || m == 0) ≡ true
in_second true m zero = refl
in_second false m zero = ap (λ k. k == 0) zero

-- who holds the drawer that gives
source_held : (w : WorldLists) (user : ℕ) (move : MoveCash) → IsMoveJudged w user move → move.source ≢ 0 → (holder : ℕ) × HoldsDrawer w holder move.source move.branch
source_held w user move judged some = (user, judged.source some)

pub move_replied : (by : Signature) (w : WorldLists) (move : MoveCash) → Books w → IsMoveCash move → IsMoveJudged w by.user move → IsStep w (move_effect w move by) moves_nothing
    → IsMoveReplied (move_effect w move by) move (json (option_map_or moved_text (moved_of (move_rows w move) move) []))
move_replied by w move books proper judged step =
    let home : Branch = judged.branch.0 in
    let there : move_allowed.IsThere w move = record { home = home; home_is = judged.branch.1 } in
    let changes : List RowWrite = write.Line (move_allowed.given w move there by) ∷ write.Line (move_allowed.taken w move there by) ∷ [] in
    let after : WorldLists = move_effect w move by in
    let effect : after ≡ all_written changes w = ap (λ cs. applied cs w) (move_allowed.changes_are w move there by) in
    let left = λ (place : ℕ). after_plan w after changes move.branch place effect (step.vaults move.branch) in
    let apart = proper.two_places in
    let source = left move.source
    ∙ only_first (cash_of w move.branch move.source) (from_source move) (into_target move) _ _ (here_at move.branch move.source) (not_at move.branch move.target move.source (λ same. apart (sym same))) in
    let target = left move.target
    ∙ only_second (cash_of w move.branch move.target) (from_source move) (into_target move) _ _ (not_at move.branch move.source move.target apart) (here_at move.branch move.target) in
    let with_vault : Bool = move.source == 0 || move.target == 0 in
    let given = place_held w move.branch move.source with_vault books judged.branch (in_first move.source move.target) (source_held w by.user move judged) in
    let taken = place_held w move.branch move.target with_vault books judged.branch (in_second (move.source == 0) move.target) judged.target in
    ap₂ (λ s t. json (option_map_or moved_text (option_and_then (λ a. option_map (λ b. moved move a b) t) s) [])) given taken
    ∙ ap₂ (λ s t. json (moved_text (record { moved = move.amount; source = s; target = t }))) (sym source) (sym target)
