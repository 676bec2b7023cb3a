use Rattle.std.proofs.Common.{Ok, [], ◌∷◌, pos, subst}
use Rattle.sqlite.specs.Held.{state}
use Rattle.sqlite.specs.State.{Executes}
use Rattle.sqlite.specs.declared.types.Value.TheVariants.{Int}
use Rattle.keyed_rows.specs.Ordered.{add_row}
use Rattle.bank_policy.specs.PolicyKeys.{relation_key}
use Rattle.sql_schema.proofs.StepChains.{stepped}
use Rattle.sql_schema.proofs.StepLemmas.{write_steps}
use Rattle.sql_policy.specs.Texts.{add_relation_text}
use Rattle.sql_policy.proofs.RelationLemmas.{adds_relation}
use Rattle.sql_policy.proofs.relations.add_relation.Goals as goal

pub returns-clause-step : goal.returns-clause-step
returns-clause-step g c =
    let old = state g.S.Store c.args.tx.now.conn.now in
    let new = state g.S.Store c.insert_relation.new.tx.conn.now in
    stepped c.insert_relation.ensures.frame (λ clean inside s holds.
    write_steps add_relation_text _ old new (Ok c.in_ok-insert_relation.field-0) (record s { relations = add_row relation_key c.args.relation.now s.relations }) (c.in_ok-insert_relation.ensures.runs clean inside)
    (λ count h. (adds_relation old new s c.args.relation.now count c.insert_relation.ensures.small holds (subst (λ n. Executes add_relation_text (Int (pos n) ∷ Int (pos c.args.relation.now.set) ∷ Int (pos c.args.relation.now.by) ∷ []) old new (Ok count)) c.number-procedure.ensures h)).0))

pub returns-clause-free : goal.returns-clause-free
returns-clause-free g c clean inside s holds =
    let old = state g.S.Store c.args.tx.now.conn.now in
    let new = state g.S.Store c.insert_relation.new.tx.conn.now in
    (adds_relation old new s c.args.relation.now c.in_ok-insert_relation.field-0 c.insert_relation.ensures.small holds (subst (λ n. Executes add_relation_text (Int (pos n) ∷ Int (pos c.args.relation.now.set) ∷ Int (pos c.args.relation.now.by) ∷ []) old new (Ok c.in_ok-insert_relation.field-0)) c.number-procedure.ensures (c.in_ok-insert_relation.ensures.runs clean inside).0)).1
