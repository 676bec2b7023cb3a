-- That these are all rows of the books and all users, each table in order of key.
use Rattle.std.specs.Prelude.{List}
use Rattle.sqlite.specs.Tree.{Trees}
use Rattle.sql_schema.specs.declared.edition.Edition.{Edition}
use Rattle.book_kept.specs.declared.records.KeptUser.{KeptUser}
use Rattle.sql_whole.specs.Tables.{AreAccounts, AreBranches, AreEntries, AreLines, AreProofs, AreReleases, AreSlipCounts, AreSlips, AreTellers, AreUsers}
use Rattle.sql_whole.specs.declared.book_rows.BookRows.{BookRows}
use Rattle.sql_whole.specs.declared.book_rows.HistoryRows.{HistoryRows}
use Rattle.sql_whole.specs.declared.book_rows.LedgerRows.{LedgerRows}
use Rattle.sql_whole.specs.declared.book_rows.SlipRows.{SlipRows}
use Rattle.sql_whole.specs.declared.book_rows.UserRows.{UserRows}

pub record AreLedgerRows (db : Trees) (rows : LedgerRows) : Type 0 where
  pub branches : AreBranches db rows.branches.items
  pub tellers : AreTellers db rows.tellers.items
  pub accounts : AreAccounts db rows.accounts.items

pub record AreHistoryRows (db : Trees) (rows : HistoryRows) : Type 0 where
  pub entries : AreEntries db rows.entries.items
  pub lines : AreLines db rows.lines.items
  pub proofs : AreProofs db rows.proofs.items

pub record AreUserRows (db : Trees) (rows : UserRows) : Type 0 where
  pub releases : AreReleases db rows.releases.items
  pub users : AreUsers db rows.users.items

-- beside these users
pub record AreSlipRows (e : Edition) (users : List KeptUser) (db : Trees) (rows : SlipRows) : Type 0 where
  pub slips : AreSlips e db rows.slips.items
  pub counts : AreSlipCounts e users db rows.counts.items

pub record AreBookRows (e : Edition) (db : Trees) (rows : BookRows) : Type 0 where
  pub ledger : AreLedgerRows db rows.ledger
  pub history : AreHistoryRows db rows.history
  pub users : AreUserRows db rows.users
  pub slips : AreSlipRows e rows.users.users.items db rows.slips
