-- A transfer: the rows that it is judged on, the rules of the books against it, its effect, and what it leaves.
use Rattle.std.specs.Prelude.{ℤ, pos, neg_ℤ, ◌+◌, ◌+ℤ◌, ◌||◌, ◌&&◌, Bool, not, is_none, List, [], ◌∷◌, Option, option_map, option_and_then}
use Rattle.std.specs.Option.{option_map_or}
use Rattle.bank_terms.specs.declared.rule.Rule.{Rule}
use Rattle.bank_terms.specs.declared.rule.Rule.TheVariants as rule
use Rattle.counter_ops.specs.declared.transfer.Transfer.{Transfer}
use Rattle.bank_books.specs.Effects.{applied}
use Rattle.bank_books.specs.Records.{account_record, branch_record, teller_record}
use Rattle.bank_books.specs.declared.records.AccountRecord.{AccountRecord}
use Rattle.bank_books.specs.WorldLists.{WorldLists}
use Rattle.bank_books.specs.declared.row_write.RowWrite.{RowWrite}
use Rattle.bank_books.specs.declared.row_write.RowWrite.TheVariants as write
use Rattle.bank_books.specs.declared.signature.Signature.{Signature}
use Rattle.bank_books.specs.declared.rows.Entry.{Entry}
use Rattle.bank_books.specs.declared.rows.EntryForm.TheVariants as entry
use Rattle.rule_tests.specs.BranchParts.{ledger_of}
use Rattle.rule_tests.specs.Denial.{first_denial}
use Rattle.rule_tests.specs.Rules.{account_in_range, account_is_full, account_keeps_floor, drawer_is_held_by, ledger_is_full, teller_is_of}
use Rattle.rule_tests.specs.declared.ledger.Ledger.{Ledger}
use Rattle.postings.specs.declared.transfer.TransferRows.{TransferRows}
use Rattle.postings.specs.declared.transfer.Transferred.{Transferred}

-- the rows that a transfer is judged on, in a World
abbrev pub transfer_rows : WorldLists → Transfer → TransferRows
transfer_rows w transfer = record {
  source = account_record w transfer.source;
  target = account_record w transfer.target;
  teller = teller_record w transfer.teller;
  ledger = option_map ledger_of (branch_record w transfer.branch);
}

-- an account, teller or branch that it names is not there
abbrev pub is_unknown : TransferRows → Bool
is_unknown rows = is_none rows.source || is_none rows.target || is_none rows.teller || is_none rows.ledger

-- what it adds to the account that gives
abbrev pub taken : Transfer → ℤ
taken transfer = neg_ℤ (pos transfer.amount)

-- what it adds to the account that takes
abbrev pub given : Transfer → ℤ
given transfer = pos transfer.amount

-- after both legs both accounts are at their floors or above
abbrev pub are_above_floors : TransferRows → Transfer → Bool
are_above_floors rows transfer = account_keeps_floor rows.source (taken transfer) && account_keeps_floor rows.target (given transfer)

-- and in the range of money; teller and branch come to what they came to
abbrev pub are_in_range : TransferRows → Transfer → Bool
are_in_range rows transfer = account_in_range rows.source (taken transfer) && account_in_range rows.target (given transfer)

-- the history has not two numbers left, or an account no turn
abbrev pub is_full : TransferRows → Bool
is_full rows = ledger_is_full rows.ledger 2 || account_is_full rows.source || account_is_full rows.target

-- the rules of the books that the transfer of this user is judged by, in their order, each with whether it denies
abbrev pub transfer_tests : TransferRows → Transfer → Signature → List (Rule × Bool)
transfer_tests rows transfer by =
    (rule.Unknown, is_unknown rows)
    ∷ (rule.Branch, not (teller_is_of rows.teller transfer.branch))
    ∷ (rule.Drawer, not (drawer_is_held_by rows.teller by.user))
    ∷ (rule.Floor, not (are_above_floors rows transfer))
    ∷ (rule.Range, not (are_in_range rows transfer))
    ∷ (rule.Full, is_full rows)
    ∷ []

-- the first of them that denies
abbrev pub first_against_transfer : TransferRows → Transfer → Signature → Option Rule
first_against_transfer rows transfer by = first_denial (transfer_tests rows transfer by)

-- the entry at the account that gives
abbrev pub first_leg : AccountRecord → Ledger → Transfer → Signature → Entry
first_leg source ledger transfer by = record {
  branch = transfer.branch;
  number = ledger.entries + 1;
  account = transfer.source;
  turn = source.turns + 1;
  teller = transfer.teller;
  delta = taken transfer;
  moment = by.moment;
  day = ledger.day;
  user = by.user;
  form = entry.TransferLeg;
  partner = ledger.entries + 2;
  undoes = 0;
}

-- the entry at the account that takes; the two name each other as partner
abbrev pub second_leg : AccountRecord → Ledger → Transfer → Signature → Entry
second_leg target ledger transfer by = record {
  branch = transfer.branch;
  number = ledger.entries + 2;
  account = transfer.target;
  turn = target.turns + 1;
  teller = transfer.teller;
  delta = given transfer;
  moment = by.moment;
  day = ledger.day;
  user = by.user;
  form = entry.TransferLeg;
  partner = ledger.entries + 1;
  undoes = 0;
}

-- what a transfer adds, where its rows are there: two entries, and no cash
abbrev pub transfer_changes : TransferRows → Transfer → Signature → List RowWrite
transfer_changes rows transfer by =
    option_map_or (λ source. option_map_or (λ target. option_map_or (λ ledger.
    write.Entry (first_leg source ledger transfer by) ∷ write.Entry (second_leg target ledger transfer by) ∷ []) rows.ledger []) rows.target []) rows.source []

-- the World after a transfer
abbrev pub transfer_effect : WorldLists → Transfer → Signature → WorldLists
transfer_effect w transfer by = applied (transfer_changes (transfer_rows w transfer) transfer by) w

-- the balances of both accounts after it, and the places of its entries
abbrev pub transferred : Transfer → AccountRecord → AccountRecord → Ledger → Transferred
transferred transfer source target ledger = record {
  branch = transfer.branch;
  first = ledger.entries + 1;
  second = ledger.entries + 2;
  source = source.balance +ℤ taken transfer;
  target = target.balance +ℤ given transfer;
}

-- what it leaves, where its rows are there
abbrev pub transferred_of : TransferRows → Transfer → Option Transferred
transferred_of rows transfer =
    option_and_then (λ source. option_and_then (λ target. option_map (λ ledger. transferred transfer source target ledger) rows.ledger) rows.target) rows.source
