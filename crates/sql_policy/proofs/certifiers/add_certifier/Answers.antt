use Rattle.std.proofs.Common.{Ok, [], ◌∷◌, pos, subst}
use Rattle.sqlite.specs.Held.{state}
use Rattle.sqlite.specs.State.{Executes}
use Rattle.sqlite.specs.declared.types.Value.TheVariants.{Int}
use Rattle.keyed_rows.specs.Ordered.{add_row}
use Rattle.bank_policy.specs.PolicyKeys.{certifier_key}
use Rattle.sql_schema.proofs.StepChains.{stepped}
use Rattle.sql_schema.proofs.StepLemmas.{write_steps}
use Rattle.sql_policy.specs.Texts.{add_certifier_text}
use Rattle.sql_policy.proofs.CertifierLemmas.{adds_certifier}
use Rattle.sql_policy.proofs.certifiers.add_certifier.Goals as goal

pub returns-clause-step : goal.returns-clause-step
returns-clause-step g c =
    let old = state g.S.Store c.args.tx.now.conn.now in
    let new = state g.S.Store c.insert_certifier.new.tx.conn.now in
    stepped c.insert_certifier.ensures.frame (λ clean inside s holds.
    write_steps add_certifier_text _ old new (Ok c.in_ok-insert_certifier.field-0) (record s { certifiers = add_row certifier_key c.args.certifier.now s.certifiers }) (c.in_ok-insert_certifier.ensures.runs clean inside)
    (λ count h. (adds_certifier old new s c.args.certifier.now count holds
    (subst (λ n. Executes add_certifier_text (Int (pos c.args.certifier.now.user) ∷ Int (pos n) ∷ []) old new (Ok count)) c.number.ensures h)).0))

pub returns-clause-free : goal.returns-clause-free
returns-clause-free g c clean inside s holds =
    let old = state g.S.Store c.args.tx.now.conn.now in
    let new = state g.S.Store c.insert_certifier.new.tx.conn.now in
    (adds_certifier old new s c.args.certifier.now c.in_ok-insert_certifier.field-0 holds
    (subst (λ n. Executes add_certifier_text (Int (pos c.args.certifier.now.user) ∷ Int (pos n) ∷ []) old new (Ok c.in_ok-insert_certifier.field-0)) c.number.ensures (c.in_ok-insert_certifier.ensures.runs clean inside).0)).1
