-- A drawer that is counted and put off: the rules of the books against it, its effect, and what it leaves.
use Rattle.std.specs.Prelude.{ℤ, neg_ℤ, ◌+◌, ◌+ℤ◌, ◌&&◌, Bool, true, not, List, [], ◌∷◌, Option, option_map, option_and_then}
use Rattle.std.specs.Option.{option_map_or}
use Rattle.money.specs.Range.{is_cents}
use Rattle.bank_terms.specs.declared.rule.Rule.{Rule}
use Rattle.bank_terms.specs.declared.rule.Rule.TheVariants as rule
use Rattle.counter_ops.specs.declared.drawer_off.DrawerOff.{DrawerOff}
use Rattle.bank_books.specs.Effects.{applied}
use Rattle.bank_books.specs.WorldLists.{WorldLists}
use Rattle.bank_books.specs.declared.records.TellerRecord.{TellerRecord}
use Rattle.bank_books.specs.declared.row_write.RowWrite.{RowWrite}
use Rattle.bank_books.specs.declared.row_write.RowWrite.TheVariants as write
use Rattle.bank_books.specs.declared.signature.Signature.{Signature}
use Rattle.bank_books.specs.declared.rows.CashLine.{CashLine}
use Rattle.bank_books.specs.declared.rows.LineForm.TheVariants as line
use Rattle.rule_tests.specs.Denial.{first_denial}
use Rattle.rule_tests.specs.Rules.{cash_book_is_full, drawer_is_held_by, teller_is_of, vault_in_range}
use Rattle.rule_tests.specs.declared.cash_book.CashBook.{CashBook}
use Rattle.drawers.specs.DrawerRows.{drawer_rows, is_unknown}
use Rattle.drawers.specs.declared.drawer_off.PutOff.{PutOff}
use Rattle.drawers.specs.declared.drawer_rows.DrawerRows.{DrawerRows}

-- what the count differs by from the cash of the drawer
abbrev pub difference : DrawerOff → TellerRecord → ℤ
difference form teller = form.counted +ℤ neg_ℤ teller.cash

-- the difference, and with it the sum of the branch's differences, stay in the range of money, and so does what the other drawers hold without this one
abbrev pub book_in_range : CashBook → TellerRecord → DrawerOff → Bool
book_in_range book teller form =
    is_cents (difference form teller) && is_cents (book.differences +ℤ difference form teller) && is_cents (book.drawers +ℤ neg_ℤ teller.cash)

abbrev pub is_in_range : DrawerRows → DrawerOff → Bool
is_in_range rows form =
    vault_in_range rows.vault form.counted
    && option_map_or (λ teller. option_map_or (λ book. book_in_range book teller form) rows.cash_book true) rows.teller true

-- the rules of the books that it is judged by, in their order, each with whether it denies: who puts a drawer off holds it
abbrev pub drawer_off_tests : DrawerRows → DrawerOff → Signature → List (Rule × Bool)
drawer_off_tests rows form by =
    (rule.Unknown, is_unknown rows)
    ∷ (rule.Branch, not (teller_is_of rows.teller form.branch))
    ∷ (rule.Drawer, not (drawer_is_held_by rows.teller by.user))
    ∷ (rule.Range, not (is_in_range rows form))
    ∷ (rule.Full, cash_book_is_full rows.cash_book 3)
    ∷ []

-- the first of them that denies
abbrev pub first_against_drawer_off : DrawerRows → DrawerOff → Signature → Option Rule
first_against_drawer_off rows form by = first_denial (drawer_off_tests rows form by)

-- the line of the difference, zero too: with it the drawer holds what was counted
abbrev pub difference_line : CashBook → TellerRecord → DrawerOff → Signature → CashLine
difference_line book teller form by = record {
  branch = form.branch;
  number = book.lines + 1;
  place = form.teller;
  amount = difference form teller;
  form = line.Difference;
  moment = by.moment;
  day = book.day;
  user = by.user;
}

-- the line that empties the drawer, which nobody holds from now on
abbrev pub emptied_line : CashBook → DrawerOff → Signature → CashLine
emptied_line book form by = record {
  branch = form.branch;
  number = book.lines + 2;
  place = form.teller;
  amount = neg_ℤ form.counted;
  form = line.Off;
  moment = by.moment;
  day = book.day;
  user = by.user;
}

-- the line of what comes back into the vault
abbrev pub returned_line : CashBook → DrawerOff → Signature → CashLine
returned_line book form by = record {
  branch = form.branch;
  number = book.lines + 3;
  place = 0;
  amount = form.counted;
  form = line.Off;
  moment = by.moment;
  day = book.day;
  user = by.user;
}

-- what it adds, where its rows are there
abbrev pub drawer_off_changes : DrawerRows → DrawerOff → Signature → List RowWrite
drawer_off_changes rows form by =
    option_map_or (λ teller. option_map_or (λ book.
    write.Line (difference_line book teller form by) ∷ write.Line (emptied_line book form by) ∷ write.Line (returned_line book form by) ∷ []) rows.cash_book []) rows.teller []

-- the World after it
abbrev pub drawer_off_effect : WorldLists → DrawerOff → Signature → WorldLists
drawer_off_effect w form by = applied (drawer_off_changes (drawer_rows w form.teller form.branch) form by) w

-- the difference, and the cash of the vault after it
abbrev pub put_off : DrawerOff → TellerRecord → ℤ → PutOff
put_off form teller vault = record { difference = difference form teller; teller = form.teller; vault = vault +ℤ form.counted }

-- what it leaves, where its rows are there
abbrev pub put_off_of : DrawerRows → DrawerOff → Option PutOff
put_off_of rows form = option_and_then (λ teller. option_map (λ vault. put_off form teller vault) rows.vault) rows.teller
