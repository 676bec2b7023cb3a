-- Rows whose numbers and texts are of the types that their columns are read as, as all are that were read.
use Rattle.std.specs.Prelude.{List, Contains}
use Rattle.sql_schema.specs.Readable.{IsReadableAccount, IsReadableBranch, IsReadableCertifier, IsReadableEntry, IsReadableLine, IsReadableMember, IsReadableProof, IsReadableRelation, IsReadableRelease, IsReadableSlip, IsReadableSlipCount, IsReadableTeller, IsReadableTriple, IsReadableUser, IsShort}
use Rattle.sql_whole.specs.declared.book_rows.BookRows.{BookRows}
use Rattle.sql_whole.specs.declared.book_rows.HistoryRows.{HistoryRows}
use Rattle.sql_whole.specs.declared.book_rows.LedgerRows.{LedgerRows}
use Rattle.sql_whole.specs.declared.book_rows.SlipRows.{SlipRows}
use Rattle.sql_whole.specs.declared.book_rows.UserRows.{UserRows}
use Rattle.sql_whole.specs.declared.policy_tables.GrantRows.{GrantRows}
use Rattle.sql_whole.specs.declared.policy_tables.PolicyTables.{PolicyTables}
use Rattle.sql_whole.specs.declared.policy_tables.SetRows.{SetRows}

abbrev pub Each : {X : Type 0} → (X → Type 0) → List X → Type 0
Each {X = X} P rows = (x : X) → Contains rows x → P x

-- ---- the books, and the users

pub record IsLedgerTyped (rows : LedgerRows) : Type 0 where
  pub branches : Each IsReadableBranch rows.branches.items
  pub tellers : Each IsReadableTeller rows.tellers.items
  pub accounts : Each IsReadableAccount rows.accounts.items

pub record IsHistoryTyped (rows : HistoryRows) : Type 0 where
  pub entries : Each IsReadableEntry rows.entries.items
  pub lines : Each IsReadableLine rows.lines.items
  pub proofs : Each IsReadableProof rows.proofs.items

pub record AreUsersTyped (rows : UserRows) : Type 0 where
  pub releases : Each IsReadableRelease rows.releases.items
  pub users : Each IsReadableUser rows.users.items

pub record AreSlipsTyped (rows : SlipRows) : Type 0 where
  pub slips : Each IsReadableSlip rows.slips.items
  pub counts : Each IsReadableSlipCount rows.counts.items

pub record AreBooksTyped (rows : BookRows) : Type 0 where
  pub ledger : IsLedgerTyped rows.ledger
  pub history : IsHistoryTyped rows.history
  pub users : AreUsersTyped rows.users
  pub slips : AreSlipsTyped rows.slips

-- ---- the policy

pub record AreSetsTyped (rows : SetRows) : Type 0 where
  pub sets : Each IsShort rows.sets.items
  pub members : Each IsReadableMember rows.members.items

pub record AreGrantsTyped (rows : GrantRows) : Type 0 where
  pub relations : Each IsReadableRelation rows.relations.items
  pub triples : Each IsReadableTriple rows.triples.items
  pub certifiers : Each IsReadableCertifier rows.certifiers.items

pub record AreTablesTyped (rows : PolicyTables) : Type 0 where
  pub sets : AreSetsTyped rows.sets
  pub grants : AreGrantsTyped rows.grants
