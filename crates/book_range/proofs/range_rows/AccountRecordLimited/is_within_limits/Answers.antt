use Rattle.std.proofs.Common.{rules}
use Rattle.book_range.proofs.range_rows.AccountRecordLimited.is_within_limits.Goals as goal

pub returns-then-from-self : goal.returns-then-from-self
returns-then-from-self c = (
  λ is. record {
    key = search rules;
    home = search rules;
    floor = search rules;
    opening = search rules;
    balance = search rules;
    above_floor = search rules;
    turns = search rules;
  },
  λ all. search rules,
)
