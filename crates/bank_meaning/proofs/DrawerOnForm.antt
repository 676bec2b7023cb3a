-- The laws of a drawer that is put on.
use Rattle.bank_books.specs.declared.rows.CashLine.{CashLine}
use Rattle.bank_meaning.specs.AskedRows.{line_says}
use Rattle.bank_meaning.proofs.RepliedCash.{drawer_on_replied}
use Rattle.bank_meaning.proofs.AskedRows.{is_home, placed_next}
use Rattle.drawers.proofs.DrawerThere.{AreThere}
use Rattle.bank_books.specs.Balances.{teller_row}
use Rattle.bank_books.specs.Books.{Books}
use Rattle.bank_books.specs.Cash.{holder_of}
use Rattle.bank_books.specs.Effects.{applied}
use Rattle.bank_books.specs.Range.{IsUserNumber}
use Rattle.bank_books.specs.Records.{branch_record, teller_record, teller_record_of, branch_record_of}
use Rattle.bank_books.specs.WorldLists.{WorldLists}
use Rattle.bank_books.specs.declared.row_write.RowWrite.TheVariants as write
use Rattle.bank_books.specs.declared.rows.Branch.{Branch}
use Rattle.bank_books.specs.declared.signature.Signature.{Signature}
use Rattle.bank_meaning.proofs.AmountParts.{no_amount, placed, two_lines}
use Rattle.bank_meaning.proofs.BookChanges.{by_row}
use Rattle.bank_meaning.proofs.IsForm.{AreWritten, IsForm}
use Rattle.bank_meaning.proofs.JudgedParts.{NoneDenies, a_teller, at_row, branch_of_book, has_drawer, no_holder, vault_covered}
use Rattle.bank_meaning.proofs.NoMoves.{none_within}
use Rattle.bank_meaning.proofs.Shares.{two_none}
use Rattle.bank_meaning.proofs.Steps.{IsStep, IsSumOf, plan_step}
use Rattle.bank_meaning.specs.DrawerOn.{IsDrawerOnJudged}
use Rattle.bank_meaning.specs.JudgedRows.{HasDrawer}
use Rattle.bank_meaning.specs.Moves.{moves_nothing}
use Rattle.bank_meaning.specs.Sums.{PassesChecks}
use Rattle.bank_meaning.specs.declared.who.Who.{Who}
use Rattle.bank_terms.specs.declared.rule.Rule.TheVariants as rule
use Rattle.counter_ops.specs.DrawerOn.{IsDrawerOn}
use Rattle.counter_ops.specs.declared.drawer_on.DrawerOn.{DrawerOn}
use Rattle.counter_ops.specs.declared.op.Op.TheVariants as op
use Rattle.drawers.proofs.AllowedOn as on_allowed
use Rattle.drawers.proofs.DrawerThere.{are_there, book_of, rows_are}
use Rattle.drawers.specs.DrawerOn.{drawer_on_changes, drawer_on_effect, first_against_drawer_on, given_line, taken_line, from_vault, into_drawer}
use Rattle.drawers.specs.DrawerRows.{drawer_rows}
use Rattle.drawers.specs.declared.drawer_rows.DrawerRows.{DrawerRows}
use Rattle.policy_check.specs.Soundness.{IsUserSound}
use Rattle.rule_tests.specs.BranchParts.{cash_book_of}
use Rattle.rule_tests.specs.Rules.{drawer_is_held, teller_is_of}
use Rattle.rule_tests.specs.Signed.{IsSigned}
use Rattle.rule_tests.specs.declared.cash_book.CashBook.{CashBook}
use Rattle.std.proofs.Common.{None, Option, Some, [], ap, false, neg_ℤ, not, pos, refl, subst, sym, ℕ, ◌&&◌, ◌==◌, ◌||◌, ◌∷◌, ◌≡◌, ◌≤◌, true, ◌+ℤ◌, ◌∙◌, arith}
use Rattle.std.proofs.lemmas.Bool.{not-false, or_parts, and_from, eq-eqb, ne_eqb, not_from_true}
use Rattle.std.proofs.lemmas.List.Elements.{All-contains}
use Rattle.std.specs.Prelude.{is_none, neg_ℤ, option_map, unsigned_abs, is_some}
use Rattle.book_laws.specs.Limits.{IsBranchWithin}
use Rattle.row_members.specs.Ranges.{IsCash}
use Rattle.bank_books.specs.Keys.{branch_key}
use Rattle.bank_meaning.proofs.PassingParts.{branch_with_lines, cash_as, first_alone, holder_is, is_of_branch, key_of_drawer, limits_of, money_as, none_by, number_is_left, place_with_lines, second_alone, vault_covers_it, is_no_vault}
use Rattle.keyed_rows.proofs.Rows.{found_row}
use Rattle.book_laws.specs.Next.{lined}

put_on_sums : (book : CashBook) (form : DrawerOn) (by : Signature)
    → IsSumOf (write.Line (given_line book form by) ∷ write.Line (taken_line book form by) ∷ []) moves_nothing
put_on_sums book form by = record {
  branches = λ key. refl;
  tellers = λ key. refl;
  accounts = λ key. refl;
  entries = λ key. refl;
  cash_entries = λ key. two_none (form.branch == key) (form.branch == key) (neg_ℤ (pos form.cash)) (pos form.cash);
}

-- who signs what an allowed request adds bears the number of a user
number_of_user : (w : WorldLists) (by : Signature) → PassesChecks w → IsSigned w by → IsUserNumber by.user
number_of_user w by checks signed =
    let row = signed.user in
    let sound = All-contains IsUserSound w.policy.users row.0 checks.sound.users.each row.1.0 in
    subst IsUserNumber row.1.1 (sound.low, sound.high)

puts_on : (w : WorldLists) (form : DrawerOn) (by : Signature) → PassesChecks w → IsDrawerOn form → IsSigned w by
    → first_against_drawer_on (drawer_rows w form.teller form.branch) form ≡ None → IsStep w (drawer_on_effect w form by) moves_nothing
puts_on w form by checks proper signed is =
    let rows : DrawerRows = drawer_rows w form.teller form.branch in
    let there = are_there w form.teller form.branch (on_allowed.is_allowed rows form is).known in
    let effect = ap (λ changes. applied changes w) (on_allowed.changes_are w form there by) in
    subst (λ after. IsStep w after moves_nothing) (sym effect)
    (plan_step w _ moves_nothing checks (tt, (tt, tt)) (put_on_sums (book_of w form.teller form.branch there) form by)
    (subst Books effect (on_allowed.drawer_on_keeps_books w form by checks.books signed (number_of_user w by checks signed) proper is)))

drawer_on_lines : (w : WorldLists) (form : DrawerOn) (by : Signature) (branch place : ℕ)
    → unsigned_abs (placed branch place (drawer_on_changes (drawer_rows w form.teller form.branch) form by)) ≤ form.cash
drawer_on_lines w form by branch place = go (drawer_rows w form.teller form.branch).cash_book
  where
    go : (k : Option CashBook) → unsigned_abs (placed branch place (drawer_on_changes (record (drawer_rows w form.teller form.branch) { cash_book = k }) form by)) ≤ form.cash
    go (Some k) = two_lines (form.branch == branch && 0 == place) (form.branch == branch && form.teller == place) (pos form.cash)
    go None = no_amount form.cash

free_drawer : (w : WorldLists) (teller branch : ℕ) → is_none (teller_record w teller) ≡ false → not (teller_is_of (teller_record w teller) branch) ≡ false
    → drawer_is_held (teller_record w teller) ≡ false → HasDrawer w teller branch None
free_drawer w teller branch known of free =
    let t = a_teller w teller branch known (not-false _ of) in
    has_drawer w teller branch None t (no_holder (holder_of w.lines t.row.teller) (at_row (teller_record_of w) drawer_is_held (teller_row teller w.tellers) t.row false t.there free))

drawer_on_asked : (by : Signature) (w : WorldLists) (form : DrawerOn) → IsDrawerOnJudged w form
    → AreWritten (op.DrawerOn form) by w (drawer_on_changes (drawer_rows w form.teller form.branch) form by)
drawer_on_asked by w form judged =
    let home = is_home w form.branch judged.branch.0 judged.branch.1 in
    let there : AreThere w form.teller form.branch =
    record { holder = judged.drawer.row; holder_is = judged.drawer.there; home = judged.branch.0; home_is = judged.branch.1 } in
    let next = λ (l : CashLine) (n : ℕ). placed_next w (line_says l) n judged.branch.0.branch form.branch home.key in
    subst (AreWritten (op.DrawerOn form) by w) (sym (on_allowed.changes_are w form there by))
    (record { asked = (on_allowed.given w form there by, on_allowed.taken w form there by, refl, next (on_allowed.given w form there by) 1, next (on_allowed.taken w form there by) 2); bear = ((refl, refl, home.day), ((refl, refl, home.day), tt)); days = tt })

drawer_on_judged : (w : WorldLists) (who : Who) (moment : ℕ) (form : DrawerOn) → NoneDenies w who moment (op.DrawerOn form) → IsDrawerOnJudged w form
drawer_on_judged w who moment form none =
    let teller = teller_record w form.teller in
    let book = option_map cash_book_of (branch_record w form.branch) in
    let vault = option_map (λ b. b.vault) (branch_record w form.branch) in
    let first = or_parts (is_none teller || is_none book) (is_none vault) (none rule.Unknown) in
    let second = or_parts (is_none teller) (is_none book) first.0 in
    let branch = branch_of_book w form.branch second.1 in
    record {
      branch = branch;
      drawer = free_drawer w form.teller form.branch second.0 (none rule.Branch) (none rule.Drawer);
      cash = vault_covered w form.branch (neg_ℤ (pos form.cash)) branch (not-false _ (none rule.Cash));
    }

drawer_on_passes : (w : WorldLists) (form : DrawerOn) (by : Signature) → PassesChecks w → IsDrawerOnJudged w form → Books (drawer_on_effect w form by)
    → first_against_drawer_on (drawer_rows w form.teller form.branch) form ≡ None
drawer_on_passes w form by checks judged books =
    let d = judged.drawer in
    let there : on_allowed.IsThere w form = record { holder = d.row; holder_is = d.there; home = judged.branch.0; home_is = judged.branch.1 } in
    let home : Branch = judged.branch.0 in
    let first = on_allowed.given w form there by in
    let second = on_allowed.taken w form there by in
    let after : Books (lined (first ∷ second ∷ []) w) = subst Books (on_allowed.effect_is w form there by) books in
    let b = branch_record_of w home in
    let t = teller_record_of w d.row in
    let of_home = found_row branch_key form.branch w.branches home judged.branch.1 in
    let of_drawer = key_of_drawer w form.teller form.branch None d in
    let at_drawer = is_no_vault w form.teller form.branch None checks.books d in
    let limits = limits_of (lined (first ∷ second ∷ []) w) after in
    let within = (subst IsBranchWithin (branch_with_lines w (first ∷ second ∷ []) home (sym of_home.1, (sym of_home.1, tt))) (limits.branches home of_home.0)).cash in
    let cash = subst IsCash (place_with_lines w (first ∷ second ∷ []) d.row.branch d.row.teller (sym d.of_branch, (sym d.of_branch, tt))) (limits.tellers d.row of_drawer.0).cash in
    let is_drawer = ne_eqb form.teller 0 at_drawer in
    let vault = cash_as _ (b.vault +ℤ from_vault form) within.vault_within (first_alone b.vault (from_vault form) (into_drawer form) true (form.teller == 0) refl is_drawer) in
    let drawer = cash_as _ (t.cash +ℤ into_drawer form) cash
    (second_alone t.cash (from_vault form) (into_drawer form) (0 == d.row.teller) (form.teller == d.row.teller) (ne_eqb 0 d.row.teller (λ zero. at_drawer (sym of_drawer.1 ∙ sym zero)))
    (eq-eqb form.teller d.row.teller (sym of_drawer.1))) in
    let drawers = money_as _ (b.drawers +ℤ into_drawer form) within.drawers_within (second_alone b.drawers (from_vault form) (into_drawer form) false (not (form.teller == 0)) refl (ap not is_drawer)) in
    subst (λ rows. first_against_drawer_on rows form ≡ None) (sym (rows_are w form.teller form.branch there))
    (none_by _ rule.Branch _ (not_from_true _ (is_of_branch w form.teller form.branch None d))
    (none_by _ rule.Drawer _ (ap is_some (holder_is w form.teller form.branch None d))
    (none_by _ rule.Cash _ (not_from_true _ (vault_covers_it w form.branch home (from_vault form) judged.branch.1 judged.cash))
    (none_by _ rule.Range _ (not_from_true _ (and_from _ _ (and_from _ _ vault drawer) drawers)) (none_by _ rule.Full None (number_is_left b.lines 2 (omega (arith, within.lines_within))) refl)))))

pub drawer_on_is_form : (form : DrawerOn) → IsForm (op.DrawerOn form)
drawer_on_is_form form = record {
  said = λ by w. refl;
  books_alone = λ rows by. by_row _ rows.cash_book (λ cash_book. record { each = (refl, (refl, tt)) });
  no_slips = λ s by w. refl;
  asks = λ is. absurd cc;
  in_json = λ is rows by. refl;
  reports_ask = λ is. absurd cc;
  no_commands = λ rows by. refl;
  steps = λ by w checks proper signed none. puts_on w form by checks proper signed none;
  judged = λ w who moment none. drawer_on_judged w who moment form none;
  denies_no_more = λ by w checks proper judged books. drawer_on_passes w form by checks judged books;
  moves = none_within _;
  cash = λ is by w branch place. drawer_on_lines w form by branch place;
  asked = λ by w judged. drawer_on_asked by w form judged;
  replied = λ by w checks proper judged step. drawer_on_replied by w form checks.books judged step;
}
