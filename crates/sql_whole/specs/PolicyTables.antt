-- That these are all rows of the policy but the users, each table in order of key.
use Rattle.sqlite.specs.Tree.{Trees}
use Rattle.sql_schema.specs.declared.edition.Edition.{Edition}
use Rattle.sql_whole.specs.Tables.{AreCertifiers, AreMembers, AreRelations, AreSets, AreTriples}
use Rattle.sql_whole.specs.declared.policy_tables.GrantRows.{GrantRows}
use Rattle.sql_whole.specs.declared.policy_tables.PolicyTables.{PolicyTables}
use Rattle.sql_whole.specs.declared.policy_tables.SetRows.{SetRows}

pub record AreSetRows (db : Trees) (rows : SetRows) : Type 0 where
  pub sets : AreSets db rows.sets.items
  pub members : AreMembers db rows.members.items

pub record AreGrantRows (e : Edition) (db : Trees) (rows : GrantRows) : Type 0 where
  pub relations : AreRelations db rows.relations.items
  pub triples : AreTriples e db rows.triples.items
  pub certifiers : AreCertifiers db rows.certifiers.items

pub record ArePolicyTables (e : Edition) (db : Trees) (rows : PolicyTables) : Type 0 where
  pub sets : AreSetRows db rows.sets
  pub grants : AreGrantRows e db rows.grants
