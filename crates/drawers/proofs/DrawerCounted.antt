-- What is known of a drawer put off that the rule on the range does not deny.
use Rattle.std.proofs.Common.{◌≡◌, Some, None, true, false, rules}
use Rattle.std.specs.Prelude.{◌||◌, Option, is_none, IfSome}
use Rattle.std.specs.Option.{option_map_or}
use Rattle.std.proofs.lemmas.Bool.{and_parts, true≢false}
use Rattle.money.specs.Range.{IsCents}
use Rattle.bank_books.specs.declared.records.TellerRecord.{TellerRecord}
use Rattle.counter_ops.specs.declared.drawer_off.DrawerOff.{DrawerOff}
use Rattle.rule_tests.proofs.RuleTests.{cents_from}
use Rattle.rule_tests.specs.declared.cash_book.CashBook.{CashBook}
use Rattle.drawers.specs.DrawerOff.{book_in_range, difference, is_in_range}
use Rattle.drawers.specs.DrawerRows.{is_unknown}
use Rattle.drawers.specs.declared.drawer_rows.DrawerRows.{DrawerRows}

of_both : (teller : Option TellerRecord) (book : Option CashBook) (form : DrawerOff) → is_none teller || is_none book ≡ false
    → option_map_or (λ t. option_map_or (λ b. book_in_range b t form) book true) teller true ≡ true → IfSome teller (λ t. IsCents (difference form t))
of_both (Some teller) (Some book) form known in_range =
    let parts = and_parts _ _ in_range in
    let two = and_parts _ _ parts.0 in
    cents_from _ two.0
of_both (Some teller) None form known in_range = absurd (true≢false known)
of_both None book form known in_range = tt

pub difference_in_range : (rows : DrawerRows) (form : DrawerOff) → is_unknown rows ≡ false → is_in_range rows form ≡ true → IfSome rows.teller (λ t. IsCents (difference form t))
difference_in_range rows form known in_range =
    of_both rows.teller rows.cash_book form (search rules) (and_parts _ _ in_range).1
