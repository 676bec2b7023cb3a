-- A post: the rows that it is judged on, the rules of the books against it, its effect, and what it leaves.
use Rattle.std.specs.Prelude.{◌+◌, ◌+ℤ◌, ◌||◌, ◌&&◌, Bool, not, is_none, List, [], ◌∷◌, Option, option_map, option_and_then}
use Rattle.std.specs.Option.{option_map_or}
use Rattle.bank_terms.specs.declared.rule.Rule.{Rule}
use Rattle.bank_terms.specs.declared.rule.Rule.TheVariants as rule
use Rattle.counter_ops.specs.declared.post.Post.{Post}
use Rattle.bank_books.specs.Effects.{applied}
use Rattle.bank_books.specs.Records.{account_record, branch_record, teller_record}
use Rattle.bank_books.specs.declared.records.AccountRecord.{AccountRecord}
use Rattle.bank_books.specs.WorldLists.{WorldLists}
use Rattle.bank_books.specs.declared.row_write.RowWrite.{RowWrite}
use Rattle.bank_books.specs.declared.row_write.RowWrite.TheVariants as write
use Rattle.bank_books.specs.declared.signature.Signature.{Signature}
use Rattle.bank_books.specs.declared.rows.CashLine.{CashLine}
use Rattle.bank_books.specs.declared.rows.Entry.{Entry}
use Rattle.bank_books.specs.declared.rows.EntryForm.TheVariants as entry
use Rattle.bank_books.specs.declared.rows.LineForm.TheVariants as line
use Rattle.rule_tests.specs.BranchParts.{cash_book_of, ledger_of}
use Rattle.rule_tests.specs.Denial.{first_denial}
use Rattle.rule_tests.specs.Rules.{account_in_range, account_is_full, account_keeps_floor, cash_book_is_full, cash_entries_in_range, drawer_covers, drawer_in_range, drawer_is_held_by, drawers_in_range, ledger_in_range, ledger_is_full, teller_in_range, teller_is_of}
use Rattle.rule_tests.specs.declared.cash_book.CashBook.{CashBook}
use Rattle.rule_tests.specs.declared.ledger.Ledger.{Ledger}
use Rattle.postings.specs.declared.post.PostRows.{PostRows}
use Rattle.postings.specs.declared.post.Posted.{Posted}

-- the rows that a post is judged on, in a World
abbrev pub post_rows : WorldLists → Post → PostRows
post_rows w post = record {
  account = account_record w post.account;
  teller = teller_record w post.teller;
  ledger = option_map ledger_of (branch_record w post.branch);
  cash_book = option_map cash_book_of (branch_record w post.branch);
}

-- an account, teller or branch that it names is not there
abbrev pub is_unknown : PostRows → Bool
is_unknown rows = is_none rows.account || is_none rows.teller || is_none rows.ledger || is_none rows.cash_book

-- the balances of account, teller and branch, the cash of the drawer, and the sums of the branch stay in the range of money
abbrev pub is_in_range : PostRows → Post → Bool
is_in_range rows post =
    account_in_range rows.account post.delta
    && teller_in_range rows.teller post.delta
    && ledger_in_range rows.ledger post.delta
    && drawer_in_range rows.teller post.delta
    && drawers_in_range rows.cash_book post.delta
    && cash_entries_in_range rows.cash_book post.delta

-- the history of the branch, the account, or the cash book of the branch has the greatest number already
abbrev pub is_full : PostRows → Bool
is_full rows = ledger_is_full rows.ledger 1 || account_is_full rows.account || cash_book_is_full rows.cash_book 1

-- the rules of the books that the post of this user is judged by, in their order, each with whether it denies
abbrev pub post_tests : PostRows → Post → Signature → List (Rule × Bool)
post_tests rows post by =
    (rule.Unknown, is_unknown rows)
    ∷ (rule.Branch, not (teller_is_of rows.teller post.branch))
    ∷ (rule.Drawer, not (drawer_is_held_by rows.teller by.user))
    ∷ (rule.Floor, not (account_keeps_floor rows.account post.delta))
    ∷ (rule.Cash, not (drawer_covers rows.teller post.delta))
    ∷ (rule.Range, not (is_in_range rows post))
    ∷ (rule.Full, is_full rows)
    ∷ []

-- the first of them that denies
abbrev pub first_against_post : PostRows → Post → Signature → Option Rule
first_against_post rows post by = first_denial (post_tests rows post by)

-- The entry that a post adds to the history of its teller's branch: one record for each transaction, as TPC Benchmark A
-- has it. It bears the next number there and the account's next turn.
abbrev pub post_entry : AccountRecord → Ledger → Post → Signature → Entry
post_entry account ledger post by = record {
  branch = post.branch;
  number = ledger.entries + 1;
  account = post.account;
  turn = account.turns + 1;
  teller = post.teller;
  delta = post.delta;
  moment = by.moment;
  day = ledger.day;
  user = by.user;
  form = entry.Post;
  partner = 0;
  undoes = 0;
}

-- The line of its cash: what it adds to the account goes through the teller's drawer.
abbrev pub post_line : CashBook → Post → Signature → CashLine
post_line book post by = record {
  branch = post.branch;
  number = book.lines + 1;
  place = post.teller;
  amount = post.delta;
  form = line.CashEntry;
  moment = by.moment;
  day = book.day;
  user = by.user;
}

-- what a post adds, where its rows are there
abbrev pub post_changes : PostRows → Post → Signature → List RowWrite
post_changes rows post by =
    option_map_or (λ account. option_map_or (λ ledger. option_map_or (λ book.
    write.Entry (post_entry account ledger post by) ∷ write.Line (post_line book post by) ∷ []) rows.cash_book []) rows.ledger []) rows.account []

-- the World after a post
abbrev pub post_effect : WorldLists → Post → Signature → WorldLists
post_effect w post by = applied (post_changes (post_rows w post) post by) w

-- the balance of the account after it, and the place of its entry
abbrev pub posted : Post → AccountRecord → Ledger → Posted
posted post account ledger = record { balance = account.balance +ℤ post.delta; branch = post.branch; entry = ledger.entries + 1 }

-- what it leaves, where its rows are there
abbrev pub posted_of : PostRows → Post → Option Posted
posted_of rows post = option_and_then (λ account. option_map (λ ledger. posted post account ledger) rows.ledger) rows.account
