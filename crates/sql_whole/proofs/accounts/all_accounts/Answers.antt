use Rattle.sql_schema.specs.Held.Sheet.{accounts as in_accounts}
use Rattle.sql_whole.proofs.BookWhole.{tells_accounts}
use Rattle.sql_whole.proofs.accounts.all_accounts.Goals as goal

pub whole_table-requires : goal.whole_table-requires
whole_table-requires g c = tells_accounts c.args.edition

pub returns-clause-takes : goal.returns-clause-takes
returns-clause-takes g c clean has s holds readable = c.whole_table.ensures.takes clean has s.accounts (holds in_accounts) readable.accounts
