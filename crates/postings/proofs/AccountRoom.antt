-- What the tests of an account say, where they let an amount be added to it: it stays within its limits.
use Rattle.std.proofs.Common.{◌≡◌, ◌+◌, ℤ, ◌+ℤ◌, true, false, Some}
use Rattle.std.proofs.lemmas.Bool.{ltb-false}
use Rattle.bank_terms.specs.Limits.{max_key}
use Rattle.bank_books.specs.declared.records.AccountRecord.{AccountRecord}
use Rattle.book_laws.specs.Limits.{IsAccountWithin}
use Rattle.book_laws.specs.Moves.{account_entered}
use Rattle.rule_tests.proofs.RuleTests.{at_least, cents_from}
use Rattle.rule_tests.specs.Rules.{account_in_range, account_is_full, account_keeps_floor}

-- with so much added it passes
pub record HasAccountRoom (account : AccountRecord) (added : ℤ) : Type 0 where
  pub floor : account_keeps_floor (Some account) added ≡ true
  pub in_range : account_in_range (Some account) added ≡ true
  pub turns : account_is_full (Some account) ≡ false

pub account_within : (account : AccountRecord) (added : ℤ) → HasAccountRoom account added → IsAccountWithin (account_entered added account)
account_within account added room = record {
  balance = cents_from (account.balance +ℤ added) room.in_range;
  above_floor = at_least (account.balance +ℤ added) account.row.floor room.floor;
  turns = ltb-false max_key (account.turns + 1) room.turns;
}
