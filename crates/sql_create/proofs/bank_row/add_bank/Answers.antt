use Rattle.std.proofs.Common.{◌∷◌, [], Ok, subst}
use Rattle.sqlite.specs.Held.{state}
use Rattle.sqlite.specs.State.{Executes}
use Rattle.sqlite.specs.declared.types.Value.TheVariants.{Int}
use Rattle.sql_schema.proofs.StepLemmas.{write_steps}
use Rattle.sql_create.specs.Blank.{bare}
use Rattle.sql_create.specs.Texts.{add_bank_text}
use Rattle.sql_create.proofs.BankRowLemmas.{adds_bank}
use Rattle.sql_create.proofs.bank_row.add_bank.Goals as goal

pub returns-clause-goes : goal.returns-clause-goes
returns-clause-goes g c clean inside blank =
    let old = state g.S.Store c.args.tx.now.conn.now in
    let new = state g.S.Store c.insert_bank.new.tx.conn.now in
    write_steps add_bank_text _ old new (Ok c.in_ok-insert_bank.field-0) (bare c.args.version) (c.in_ok-insert_bank.ensures.runs clean inside)
    (λ count h. adds_bank old new c.args.version count blank (subst (λ n. Executes add_bank_text (Int n ∷ []) old new (Ok count)) c.in_ok-cells.ensures.cells h))
