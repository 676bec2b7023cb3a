use Rattle.std.proofs.Common.{rules}
use Rattle.book_range.proofs.range.has_distinct_world_keys.Goals as goal

pub returns-then-has_distinct_keys-6 : goal.returns-then-has_distinct_keys-6
returns-then-has_distinct_keys-6 c = (
  λ is. record {
    branches = search rules;
    tellers = search rules;
    accounts = search rules;
    entries = search rules;
    lines = search rules;
    proofs = search rules;
    releases = search rules;
  },
  λ all. search rules,
)
