use Rattle.std.proofs.Common.{subst}
use Rattle.sqlite.specs.Held.{state}
use Rattle.sql_schema.specs.Held.{HoldsWorld}
use Rattle.sql_schema.specs.Schema.{schema_of}
use Rattle.sql_create.specs.Blank.{no_schema}
use Rattle.sql_upgrade.specs.Left.{HasSchema, left}
use Rattle.sql_upgrade.proofs.LeftLemmas.{none_left, whole_left}
use Rattle.sql_upgrade.proofs.ProceedsLemmas.{ProceededBy, proceeds_on}
use Rattle.sql_upgrade.proofs.carrying.rewrite_bank.Goals as goal

pub returns-clause-proceeds : goal.returns-clause-proceeds
returns-clause-proceeds g c =
    let old = state g.S.Store c.args.tx.now.conn.now in
    let mid = state g.S.Store c.drop_tables.new.tx.conn.now in
    let new = state g.S.Store c.write_bank.new.tx.conn.now in
    let e = c.args.edition in
    let dropped = subst (λ schema. ProceededBy old mid (HasSchema schema) (HasSchema no_schema)) (whole_left e c.requires.older)
    (subst (λ schema. ProceededBy old mid (HasSchema (left e 14 9 0)) (HasSchema schema)) (none_left e) c.in_ok-drop_tables.ensures.proceeds)
    in
    proceeds_on old mid new (HasSchema (schema_of e)) (HasSchema no_schema) (λ db. HoldsWorld db c.args.world.now) c.write_bank.result dropped c.write_bank.ensures.frame.survives
    (λ clean inside none. c.write_bank.ensures.goes clean inside (record { schema_is = none; empty = tt }))
