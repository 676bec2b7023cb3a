use Rattle.std.proofs.Common.{Ok, [], ◌∷◌, filter, not, pos, subst}
use Rattle.sqlite.specs.Held.{state}
use Rattle.sqlite.specs.State.{Executes}
use Rattle.sqlite.specs.declared.types.Value.TheVariants.{Int}
use Rattle.keyed_rows.specs.Changed.{delete_rows}
use Rattle.bank_terms.specs.Procedure.{number_of}
use Rattle.bank_policy.specs.PolicyKeys.{relation_key, relation_number}
use Rattle.bank_policy.specs.PolicyWrites.{is_triple_on}
use Rattle.sql_schema.proofs.StepChains.{stepped}
use Rattle.sql_schema.proofs.StepLemmas.{write_steps}
use Rattle.sql_policy.specs.Texts.{remove_relation_text}
use Rattle.sql_policy.proofs.RemovalLemmas.{removes_relation}
use Rattle.sql_policy.proofs.relations.remove_relation.Goals as goal

pub returns : goal.returns
returns g c =
    let old = state g.S.Store c.args.tx.now.conn.now in
    let new = state g.S.Store c.delete_relation.new.tx.conn.now in
    let key = c.args.key.now in
    record {
      step = stepped c.delete_relation.ensures.frame (λ clean inside s holds.
          write_steps remove_relation_text _ old new (Ok c.in_ok-delete_relation.field-0)
          (record s { relations = delete_rows relation_key (relation_number key.procedure key.set) s.relations; triples = filter (λ row. not (is_triple_on key row)) s.triples }) (c.in_ok-delete_relation.ensures.runs clean inside)
          (λ count h. removes_relation old new s (number_of key.procedure) key.set count c.delete_relation.ensures.small holds
          (subst (λ n. Executes remove_relation_text (Int (pos n) ∷ Int (pos key.set) ∷ []) old new (Ok count)) c.number-procedure.ensures h)));
    }
