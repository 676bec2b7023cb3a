-- A drawer that is put on: the rules of the books against it, its effect, and what it leaves.
use Rattle.std.specs.Prelude.{ℤ, pos, neg_ℤ, ◌+◌, ◌+ℤ◌, ◌&&◌, Bool, not, List, [], ◌∷◌, Option, option_map, option_and_then}
use Rattle.std.specs.Option.{option_map_or}
use Rattle.bank_terms.specs.declared.rule.Rule.{Rule}
use Rattle.bank_terms.specs.declared.rule.Rule.TheVariants as rule
use Rattle.counter_ops.specs.declared.drawer_on.DrawerOn.{DrawerOn}
use Rattle.bank_books.specs.Effects.{applied}
use Rattle.bank_books.specs.WorldLists.{WorldLists}
use Rattle.bank_books.specs.declared.records.TellerRecord.{TellerRecord}
use Rattle.bank_books.specs.declared.row_write.RowWrite.{RowWrite}
use Rattle.bank_books.specs.declared.row_write.RowWrite.TheVariants as write
use Rattle.bank_books.specs.declared.signature.Signature.{Signature}
use Rattle.bank_books.specs.declared.rows.CashLine.{CashLine}
use Rattle.bank_books.specs.declared.rows.LineForm.TheVariants as line
use Rattle.rule_tests.specs.Denial.{first_denial}
use Rattle.rule_tests.specs.Rules.{cash_book_is_full, drawer_in_range, drawer_is_held, drawers_in_range, teller_is_of, vault_covers, vault_in_range}
use Rattle.rule_tests.specs.declared.cash_book.CashBook.{CashBook}
use Rattle.drawers.specs.DrawerRows.{drawer_rows, is_unknown}
use Rattle.drawers.specs.declared.drawer_on.PutOn.{PutOn}
use Rattle.drawers.specs.declared.drawer_rows.DrawerRows.{DrawerRows}

-- what it adds to the vault
abbrev pub from_vault : DrawerOn → ℤ
from_vault form = neg_ℤ (pos form.cash)

-- what it adds to the drawer
abbrev pub into_drawer : DrawerOn → ℤ
into_drawer form = pos form.cash

-- the cash of vault and drawer, and of all drawers together, stays in the range of money
abbrev pub is_in_range : DrawerRows → DrawerOn → Bool
is_in_range rows form =
    vault_in_range rows.vault (from_vault form) && drawer_in_range rows.teller (into_drawer form) && drawers_in_range rows.cash_book (into_drawer form)

-- the rules of the books that it is judged by, in their order, each with whether it denies: a drawer that is put on is held by nobody
abbrev pub drawer_on_tests : DrawerRows → DrawerOn → List (Rule × Bool)
drawer_on_tests rows form =
    (rule.Unknown, is_unknown rows)
    ∷ (rule.Branch, not (teller_is_of rows.teller form.branch))
    ∷ (rule.Drawer, drawer_is_held rows.teller)
    ∷ (rule.Cash, not (vault_covers rows.vault (from_vault form)))
    ∷ (rule.Range, not (is_in_range rows form))
    ∷ (rule.Full, cash_book_is_full rows.cash_book 2)
    ∷ []

-- the first of them that denies
abbrev pub first_against_drawer_on : DrawerRows → DrawerOn → Option Rule
first_against_drawer_on rows form = first_denial (drawer_on_tests rows form)

-- the line at the vault
abbrev pub given_line : CashBook → DrawerOn → Signature → CashLine
given_line book form by = record {
  branch = form.branch;
  number = book.lines + 1;
  place = 0;
  amount = from_vault form;
  form = line.On;
  moment = by.moment;
  day = book.day;
  user = by.user;
}

-- the line at the drawer, whose user holds it from now on
abbrev pub taken_line : CashBook → DrawerOn → Signature → CashLine
taken_line book form by = record {
  branch = form.branch;
  number = book.lines + 2;
  place = form.teller;
  amount = into_drawer form;
  form = line.On;
  moment = by.moment;
  day = book.day;
  user = by.user;
}

-- what it adds, where its rows are there
abbrev pub drawer_on_changes : DrawerRows → DrawerOn → Signature → List RowWrite
drawer_on_changes rows form by =
    option_map_or (λ book. write.Line (given_line book form by) ∷ write.Line (taken_line book form by) ∷ []) rows.cash_book []

-- the World after it
abbrev pub drawer_on_effect : WorldLists → DrawerOn → Signature → WorldLists
drawer_on_effect w form by = applied (drawer_on_changes (drawer_rows w form.teller form.branch) form by) w

-- the cash of the drawer and of the vault after it
abbrev pub put_on : DrawerOn → TellerRecord → ℤ → PutOn
put_on form teller vault = record { cash = teller.cash +ℤ into_drawer form; teller = form.teller; vault = vault +ℤ from_vault form }

-- what it leaves, where its rows are there
abbrev pub put_on_of : DrawerRows → DrawerOn → Option PutOn
put_on_of rows form = option_and_then (λ teller. option_map (λ vault. put_on form teller vault) rows.vault) rows.teller
