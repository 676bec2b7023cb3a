use Rattle.std.proofs.Common.{Ok, [], ◌∷◌, pos, subst}
use Rattle.sqlite.specs.Held.{state}
use Rattle.sqlite.specs.State.{Executes}
use Rattle.sqlite.specs.declared.types.Value.TheVariants.{Int}
use Rattle.keyed_rows.specs.Changed.{delete_rows}
use Rattle.bank_terms.specs.Procedure.{number_of}
use Rattle.bank_policy.specs.PolicyKeys.{triple_key, triple_number}
use Rattle.sql_schema.proofs.StepChains.{stepped}
use Rattle.sql_schema.proofs.StepLemmas.{write_steps}
use Rattle.sql_policy.specs.Texts.{remove_triple_text}
use Rattle.bank_terms.proofs.Procedures.{small_number}
use Rattle.sql_policy.proofs.TripleLemmas.{removes_triple}
use Rattle.sql_policy.proofs.triples.remove_triple.Goals as goal

pub returns : goal.returns
returns g c =
    let old = state g.S.Store c.args.tx.now.conn.now in
    let new = state g.S.Store c.delete_triple.new.tx.conn.now in
    let key = c.args.key.now in
    record {
      step = stepped c.delete_triple.ensures.frame (λ clean inside s holds.
          write_steps remove_triple_text _ old new (Ok c.in_ok-delete_triple.field-0) (record s { triples = delete_rows triple_key (triple_number key.user key.procedure key.set) s.triples }) (c.in_ok-delete_triple.ensures.runs clean inside)
          (λ count h. removes_triple old new s key.user (number_of key.procedure) key.set count (small_number key.procedure) c.delete_triple.ensures.small holds
          (subst (λ n. Executes remove_triple_text (Int (pos key.user) ∷ Int (pos n) ∷ Int (pos key.set) ∷ []) old new (Ok count)) c.number-procedure.ensures h)));
    }
