-- What follows from the tests of a rule where it does not deny.
use Rattle.std.proofs.Common.{◌≡◌, ◌+◌, ◌+ℤ◌, ◌<◌, ℕ, ℤ, arith, cond, false, sym, true, None, Option, Some}
use Rattle.std.specs.Prelude.{Bool, IfSome, nat_lt}
use Rattle.std.proofs.lemmas.Bool.{ltb-false, true≢false}
use Rattle.bank_terms.specs.Limits.{max_key}
use Rattle.money.specs.Range.{IsCents}
use Rattle.bank_books.specs.declared.records.AccountRecord.{AccountRecord}
use Rattle.rule_tests.proofs.RuleTests.{cents_from}
use Rattle.rule_tests.specs.Rules.{account_in_range, account_is_full, cash_book_is_full, ledger_is_full}
use Rattle.rule_tests.specs.declared.cash_book.CashBook.{CashBook}
use Rattle.rule_tests.specs.declared.ledger.Ledger.{Ledger}

pub of_then : (b x y : Bool) → b ≡ true → cond b x y ≡ false → x ≡ false
of_then true x y is fails = fails
of_then false x y is fails = absurd (true≢false (sym is))

one_left : (n : ℕ) → nat_lt max_key (n + 1) ≡ false → n < max_key
one_left n room = omega (arith, ltb-false max_key (n + 1) room)

two_left : (n : ℕ) → nat_lt max_key (n + 2) ≡ false → n + 1 < max_key
two_left n room = omega (arith, ltb-false max_key (n + 2) room)

pub account_room : (row : Option AccountRecord) (added : ℤ) → account_in_range row added ≡ true → IfSome row (λ a. IsCents (a.balance +ℤ added))
account_room (Some a) added in_range = cents_from _ in_range
account_room None added in_range = tt

pub turn_left : (row : Option AccountRecord) → account_is_full row ≡ false → IfSome row (λ a. a.turns < max_key)
turn_left (Some a) room = one_left a.turns room
turn_left None room = tt

pub entry_left : (row : Option Ledger) → ledger_is_full row 1 ≡ false → IfSome row (λ b. b.entries < max_key)
entry_left (Some b) room = one_left b.entries room
entry_left None room = tt

pub entries_left : (row : Option Ledger) → ledger_is_full row 2 ≡ false → IfSome row (λ b. b.entries + 1 < max_key)
entries_left (Some b) room = two_left b.entries room
entries_left None room = tt

pub line_left : (row : Option CashBook) → cash_book_is_full row 1 ≡ false → IfSome row (λ b. b.lines < max_key)
line_left (Some b) room = one_left b.lines room
line_left None room = tt
