-- The laws of a drawer that is put off.
use Rattle.bank_books.specs.declared.rows.CashLine.{CashLine}
use Rattle.bank_meaning.specs.AskedRows.{line_says}
use Rattle.bank_meaning.proofs.RepliedCash.{drawer_off_replied}
use Rattle.bank_meaning.proofs.AskedRows.{is_home, placed_next}
use Rattle.bank_meaning.specs.DrawerOff.{off_says}
use Rattle.bank_books.specs.Cash.{line_count, place_cash}
use Rattle.bank_books.specs.Keys.{teller_key}
use Rattle.bank_books.specs.declared.rows.LineForm.TheVariants as line_form
use Rattle.bank_books.specs.declared.rows.Teller.{Teller}
use Rattle.drawers.proofs.DrawerThere.{AreThere}
use Rattle.drawers.specs.DrawerOff.{drawer_off_changes}
use Rattle.keyed_rows.proofs.Rows.{found_row}
use Rattle.std.proofs.Common.{ap₂, ◌+◌}
use Rattle.bank_books.specs.Books.{Books}
use Rattle.bank_books.specs.Effects.{applied}
use Rattle.bank_books.specs.Records.{branch_record, teller_record, teller_record_of, branch_record_of}
use Rattle.bank_books.specs.WorldLists.{WorldLists}
use Rattle.bank_books.specs.declared.records.TellerRecord.{TellerRecord}
use Rattle.bank_books.specs.declared.row_write.RowWrite.TheVariants as write
use Rattle.bank_books.specs.declared.rows.Branch.{Branch}
use Rattle.bank_books.specs.declared.signature.Signature.{Signature}
use Rattle.bank_meaning.proofs.BookChanges.{by_row}
use Rattle.bank_meaning.proofs.IsForm.{AreWritten, IsForm}
use Rattle.bank_meaning.proofs.JudgedParts.{NoneDenies, branch_of_book, holds_drawer}
use Rattle.bank_meaning.proofs.NoMoves.{none_within}
use Rattle.bank_meaning.proofs.Shares.{no_cash_entry, two_none}
use Rattle.bank_meaning.proofs.Steps.{IsStep, IsSumOf, plan_step}
use Rattle.bank_meaning.specs.DrawerOff.{IsDrawerOffJudged}
use Rattle.bank_meaning.specs.Moves.{moves_nothing}
use Rattle.bank_meaning.specs.PolicyRules.{asker}
use Rattle.bank_meaning.specs.Sums.{PassesChecks}
use Rattle.bank_meaning.specs.declared.who.Who.{Who}
use Rattle.bank_terms.specs.declared.rule.Rule.TheVariants as rule
use Rattle.counter_ops.specs.DrawerOff.{IsDrawerOff}
use Rattle.counter_ops.specs.declared.drawer_off.DrawerOff.{DrawerOff}
use Rattle.counter_ops.specs.declared.op.Op.TheVariants as op
use Rattle.drawers.proofs.AllowedOff as off_allowed
use Rattle.drawers.proofs.DrawerThere.{are_there, book_of, rows_are}
use Rattle.drawers.specs.DrawerOff.{difference, difference_line, drawer_off_effect, emptied_line, first_against_drawer_off, returned_line}
use Rattle.drawers.specs.DrawerRows.{drawer_rows}
use Rattle.drawers.specs.declared.drawer_rows.DrawerRows.{DrawerRows}
use Rattle.rule_tests.specs.BranchParts.{cash_book_of}
use Rattle.rule_tests.specs.Signed.{IsSigned}
use Rattle.rule_tests.specs.declared.cash_book.CashBook.{CashBook}
use Rattle.std.proofs.Common.{Bool, None, [], ap, false, neg_ℤ, pos, refl, subst, sym, ℕ, ℤ, ◌&&◌, ◌+ℤ◌, ◌==◌, ◌||◌, ◌∙◌, ◌∷◌, ◌≡◌, Some, arith, not, true}
use Rattle.std.proofs.lemmas.Bool.{or_parts, and_from, ne_eqb, not_from_true}
use Rattle.std.specs.Prelude.{if◌then◌else◌, is_none, neg_ℤ, option_map}
use Rattle.book_laws.specs.Limits.{IsBranchWithin}
use Rattle.row_members.specs.Ranges.{IsCash}
use Rattle.money.specs.Range.{IsCents}
use Rattle.bank_books.specs.Keys.{branch_key}
use Rattle.bank_meaning.proofs.PassingParts.{branch_with_lines, cash_as, is_money, is_no_vault, is_of_branch, key_of_drawer, limits_of, money_as, none_by, number_is_left, holds_it}
use Rattle.keyed_rows.proofs.Rows.{found_row}
use Rattle.std.proofs.lemmas.Int.{ints}
use Rattle.book_laws.specs.Next.{lined}

three_none : (a b c : Bool) (x y z : ℤ) → (if a && false then x else pos 0) +ℤ ((if b && false then y else pos 0) +ℤ ((if c && false then z else pos 0) +ℤ pos 0)) ≡ pos 0
three_none a b c x y z =
    ap (λ v. v +ℤ ((if b && false then y else pos 0) +ℤ ((if c && false then z else pos 0) +ℤ pos 0))) (no_cash_entry a x) ∙ ap (λ v. pos 0 +ℤ v) (two_none b c y z)

put_off_sums : (book : CashBook) (teller : TellerRecord) (form : DrawerOff) (by : Signature)
    → IsSumOf (write.Line (difference_line book teller form by) ∷ write.Line (emptied_line book form by) ∷ write.Line (returned_line book form by) ∷ []) moves_nothing
put_off_sums book teller form by = record {
  branches = λ key. refl;
  tellers = λ key. refl;
  accounts = λ key. refl;
  entries = λ key. refl;
  cash_entries = λ key.
      three_none (form.branch == key) (form.branch == key) (form.branch == key) (form.counted +ℤ neg_ℤ teller.cash) (neg_ℤ form.counted) form.counted;
}

puts_off : (w : WorldLists) (form : DrawerOff) (by : Signature) → PassesChecks w → IsDrawerOff form → IsSigned w by
    → first_against_drawer_off (drawer_rows w form.teller form.branch) form by ≡ None → IsStep w (drawer_off_effect w form by) moves_nothing
puts_off w form by checks proper signed is =
    let rows : DrawerRows = drawer_rows w form.teller form.branch in
    let there = are_there w form.teller form.branch (off_allowed.is_allowed rows form by is).known in
    let effect = ap (λ changes. applied changes w) (off_allowed.changes_are w form there by) in
    subst (λ after. IsStep w after moves_nothing) (sym effect)
    (plan_step w _ moves_nothing checks (tt, (tt, (tt, tt))) (put_off_sums (book_of w form.teller form.branch there) (teller_record_of w there.holder) form by)
    (subst Books effect (off_allowed.drawer_off_keeps_books w form by checks.books signed proper is)))

drawer_off_asked : (by : Signature) (w : WorldLists) (form : DrawerOff) → IsDrawerOffJudged w by.user form
    → AreWritten (op.DrawerOff form) by w (drawer_off_changes (drawer_rows w form.teller form.branch) form by)
drawer_off_asked by w form judged =
    let home = is_home w form.branch judged.branch.0 judged.branch.1 in
    let row : Teller = judged.drawer.row in
    let there : AreThere w form.teller form.branch =
    record { holder = row; holder_is = judged.drawer.there; home = judged.branch.0; home_is = judged.branch.1 } in
    let next = λ (l : CashLine) (n : ℕ). placed_next w (line_says l) n judged.branch.0.branch form.branch home.key in
    subst (AreWritten (op.DrawerOff form) by w) (sym (off_allowed.changes_are w form there by)) (record {
      asked = (
        off_allowed.counted w form there by,
        off_allowed.emptied w form there by,
        off_allowed.returned w form there by,
        refl,
        next (off_allowed.counted w form there by) 1
            ∙ ap₂ (λ b t. off_says form (line_count form.branch w.lines + 1) form.teller (form.counted +ℤ neg_ℤ (place_cash b t w.lines)) line_form.Difference) judged.drawer.of_branch
            (found_row teller_key form.teller w.tellers row judged.drawer.there).1,
        next (off_allowed.emptied w form there by) 2,
        next (off_allowed.returned w form there by) 3,
      );
      bear = ((refl, refl, home.day), ((refl, refl, home.day), ((refl, refl, home.day), tt)));
      days = tt;
    })

drawer_off_judged : (w : WorldLists) (who : Who) (moment : ℕ) (form : DrawerOff) → NoneDenies w who moment (op.DrawerOff form) → IsDrawerOffJudged w (asker who) form
drawer_off_judged w who moment form none =
    let teller = teller_record w form.teller in
    let book = option_map cash_book_of (branch_record w form.branch) in
    let vault = option_map (λ b. b.vault) (branch_record w form.branch) in
    let first = or_parts (is_none teller || is_none book) (is_none vault) (none rule.Unknown) in
    let second = or_parts (is_none teller) (is_none book) first.0 in
    record {
      branch = branch_of_book w form.branch second.1;
      drawer = holds_drawer w (asker who) form.teller form.branch second.0 (none rule.Branch) (none rule.Drawer);
    }

-- of the three lines the first two are at the drawer, and the last at the vault
at_vault : (z x y c : ℤ) (f : Bool) → f ≡ false → ((z +ℤ (if f then x else pos 0)) +ℤ (if f then y else pos 0)) +ℤ c ≡ z +ℤ c
at_vault z x y c true not_this = absurd cc
at_vault z x y c false not_this = omega (arith, ints)

at_drawers : (z counted cash : ℤ) (f : Bool) → f ≡ true
    → ((z +ℤ (if f then counted +ℤ neg_ℤ cash else pos 0)) +ℤ (if f then neg_ℤ counted else pos 0)) +ℤ pos 0 ≡ z +ℤ neg_ℤ cash
at_drawers z counted cash true is = omega (arith, ints)
at_drawers z counted cash false is = absurd cc

at_difference : (z d : ℤ) → ((z +ℤ d) +ℤ pos 0) +ℤ pos 0 ≡ z +ℤ d
at_difference z d = omega (arith, ints)

-- two amounts of cash differ by an amount of money
is_difference_money : (a b : ℤ) → IsCash a → IsCash b → IsCents (a +ℤ neg_ℤ b)
is_difference_money a b first second = (omega (arith, ints, first.0, second.1), omega (arith, ints, first.1, second.0))

drawer_off_passes : (w : WorldLists) (form : DrawerOff) (by : Signature) → PassesChecks w → IsDrawerOff form → IsDrawerOffJudged w by.user form → Books (drawer_off_effect w form by)
    → first_against_drawer_off (drawer_rows w form.teller form.branch) form by ≡ None
drawer_off_passes w form by checks proper judged books =
    let d = judged.drawer in
    let home : Branch = judged.branch.0 in
    let there : off_allowed.IsThere w form = record { holder = d.row; holder_is = d.there; home = home; home_is = judged.branch.1 } in
    let lines = off_allowed.lines_of w form there by in
    let after : Books (lined lines w) = subst Books (off_allowed.effect_is w form there by) books in
    let b = branch_record_of w home in
    let t = teller_record_of w d.row in
    let of_home = found_row branch_key form.branch w.branches home judged.branch.1 in
    let of_drawer = key_of_drawer w form.teller form.branch (Some by.user) d in
    let of = sym of_home.1 in
    let within = (subst IsBranchWithin (branch_with_lines w lines home (of, (of, (of, tt)))) ((limits_of (lined lines w) after).branches home of_home.0)).cash in
    let is_drawer = ne_eqb form.teller 0 (is_no_vault w form.teller form.branch (Some by.user) checks.books d) in
    let vault = cash_as _ (b.vault +ℤ form.counted) within.vault_within (at_vault b.vault (difference form t) (neg_ℤ form.counted) form.counted (form.teller == 0) is_drawer) in
    let differs = is_money (difference form t) (is_difference_money form.counted t.cash proper.counted ((limits_of w checks.books).tellers d.row of_drawer.0).cash) in
    let differences = money_as _ (b.differences +ℤ difference form t) within.differences_within (at_difference b.differences (difference form t)) in
    let drawers = money_as _ (b.drawers +ℤ neg_ℤ t.cash) within.drawers_within (at_drawers b.drawers form.counted t.cash (not (form.teller == 0)) (ap not is_drawer)) in
    subst (λ rows. first_against_drawer_off rows form by ≡ None) (sym (rows_are w form.teller form.branch there))
    (none_by _ rule.Branch _ (not_from_true _ (is_of_branch w form.teller form.branch (Some by.user) d))
    (none_by _ rule.Drawer _ (not_from_true _ (holds_it w by.user form.teller form.branch d))
    (none_by _ rule.Range _ (not_from_true _ (and_from _ _ vault (and_from _ _ (and_from _ _ differs differences) drawers)))
    (none_by _ rule.Full None (number_is_left b.lines 3 (omega (arith, within.lines_within))) refl))))

pub drawer_off_is_form : (form : DrawerOff) → IsForm (op.DrawerOff form)
drawer_off_is_form form = record {
  said = λ by w. refl;
  books_alone = λ rows by. by_row _ rows.teller (λ teller. by_row _ rows.cash_book (λ cash_book. record { each = (refl, (refl, (refl, tt))) }));
  no_slips = λ s by w. refl;
  asks = λ is. absurd cc;
  in_json = λ is rows by. refl;
  reports_ask = λ is. absurd cc;
  no_commands = λ rows by. refl;
  steps = λ by w checks proper signed none. puts_off w form by checks proper signed none;
  judged = λ w who moment none. drawer_off_judged w who moment form none;
  denies_no_more = λ by w checks proper judged books. drawer_off_passes w form by checks proper judged books;
  moves = none_within _;
  cash = λ is by w branch place. absurd cc;
  asked = λ by w judged. drawer_off_asked by w form judged;
  replied = λ by w checks proper judged step. drawer_off_replied by w form checks.books judged step;
}
