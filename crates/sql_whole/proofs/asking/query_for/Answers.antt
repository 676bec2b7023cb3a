use Rattle.sql_whole.proofs.BankWhole.{tells_bank}
use Rattle.sql_whole.proofs.BookWhole.{tells_accounts, tells_branches, tells_entries, tells_tellers}
use Rattle.sql_whole.proofs.HistoryWhole.{tells_lines, tells_proofs, tells_releases}
use Rattle.sql_whole.proofs.PolicyWhole.{tells_certifiers, tells_members, tells_relations, tells_sets, tells_users}
use Rattle.sql_whole.proofs.asking.query_for.Goals as goal

pub returns-in-Bank : goal.returns-in-Bank
returns-in-Bank c = (tells_bank c.args.edition).asks

pub returns-in-Users : goal.returns-in-Users
returns-in-Users c = (tells_users c.args.edition).asks

pub returns-in-Sets : goal.returns-in-Sets
returns-in-Sets c = (tells_sets c.args.edition).asks

pub returns-in-Members : goal.returns-in-Members
returns-in-Members c = (tells_members c.args.edition).asks

pub returns-in-Relations : goal.returns-in-Relations
returns-in-Relations c = (tells_relations c.args.edition).asks

pub returns-in-Certifiers : goal.returns-in-Certifiers
returns-in-Certifiers c = (tells_certifiers c.args.edition).asks

pub returns-in-Branches : goal.returns-in-Branches
returns-in-Branches c = (tells_branches c.args.edition).asks

pub returns-in-Tellers : goal.returns-in-Tellers
returns-in-Tellers c = (tells_tellers c.args.edition).asks

pub returns-in-Accounts : goal.returns-in-Accounts
returns-in-Accounts c = (tells_accounts c.args.edition).asks

pub returns-in-Entries : goal.returns-in-Entries
returns-in-Entries c = (tells_entries c.args.edition).asks

pub returns-in-Lines : goal.returns-in-Lines
returns-in-Lines c = (tells_lines c.args.edition).asks

pub returns-in-Proofs : goal.returns-in-Proofs
returns-in-Proofs c = (tells_proofs c.args.edition).asks

pub returns-in-Releases : goal.returns-in-Releases
returns-in-Releases c = (tells_releases c.args.edition).asks
