use Rattle.std.proofs.Common.{rules}
use Rattle.book_range.proofs.range_rows.EntryRecordLimited.is_within_limits.Goals as goal

pub returns-then-is_entry_or_none : goal.returns-then-is_entry_or_none
returns-then-is_entry_or_none c = (
  λ is. record {
    number = search rules;
    turn = search rules;
    moment = search rules;
    day = search rules;
    user = search rules;
    partner = search rules;
    partner_there = search rules;
    undoes = search rules;
    undone_there = search rules;
    balance_after = search rules;
  },
  λ all. search rules,
)
