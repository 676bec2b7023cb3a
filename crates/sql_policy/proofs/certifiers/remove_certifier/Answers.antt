use Rattle.std.proofs.Common.{Ok, [], ◌∷◌, pos, subst}
use Rattle.sqlite.specs.Held.{state}
use Rattle.sqlite.specs.State.{Executes}
use Rattle.sqlite.specs.declared.types.Value.TheVariants.{Int}
use Rattle.keyed_rows.specs.Changed.{delete_rows}
use Rattle.bank_policy.specs.PolicyKeys.{certifier_key}
use Rattle.sql_schema.proofs.StepChains.{stepped}
use Rattle.sql_schema.proofs.StepLemmas.{write_steps}
use Rattle.sql_policy.specs.Texts.{remove_certifier_text}
use Rattle.sql_policy.proofs.CertifierLemmas.{removes_certifier}
use Rattle.sql_policy.proofs.certifiers.remove_certifier.Goals as goal

pub returns : goal.returns
returns g c =
    let old = state g.S.Store c.args.tx.now.conn.now in
    let new = state g.S.Store c.delete_certifier.new.tx.conn.now in
    record {
      step = stepped c.delete_certifier.ensures.frame (λ clean inside s holds.
          write_steps remove_certifier_text _ old new (Ok c.in_ok-delete_certifier.field-0) (record s { certifiers = delete_rows certifier_key (certifier_key c.args.certifier.now) s.certifiers }) (c.in_ok-delete_certifier.ensures.runs clean inside)
          (λ count h. removes_certifier old new s c.args.certifier.now count holds
          (subst (λ n. Executes remove_certifier_text (Int (pos c.args.certifier.now.user) ∷ Int (pos n) ∷ []) old new (Ok count)) c.number.ensures h)));
    }
