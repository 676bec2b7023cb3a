use Rattle.sqlite.specs.Held.{state}
use Rattle.sql_schema.proofs.StepLemmas.{handed_on}
use Rattle.sql_adopt.specs.Refused.{IsNamedBy, IsOfStore, IsRefused}
use Rattle.sql_adopt.proofs.TakenLemmas.{handed_other}
use Rattle.sql_adopt.proofs.adopting.adopt_bank.Goals as goal

pub returns-in_err-adopt_rows-clause-refused : goal.returns-in_err-adopt_rows-clause-refused
returns-in_err-adopt_rows-clause-refused g c clean file =
    handed_on c.from_residual.result c.in_err-adopt_rows.field-0.0 (IsRefused (state g.S.Store c.args.conn.now).now.trees) c.from_residual.ensures.1 (c.in_err-adopt_rows.ensures.refused clean file)

pub returns-in_err-adopt_rows-clause-sound : goal.returns-in_err-adopt_rows-clause-sound
returns-in_err-adopt_rows-clause-sound g c clean file bank =
    handed_on c.from_residual.result c.in_err-adopt_rows.field-0.0 IsOfStore c.from_residual.ensures.1 (c.in_err-adopt_rows.ensures.sound clean file bank)

pub returns-in_err-adopt_rows-clause-named : goal.returns-in_err-adopt_rows-clause-named
returns-in_err-adopt_rows-clause-named g c clean file s holds readable =
    handed_on c.from_residual.result c.in_err-adopt_rows.field-0.0 (IsNamedBy s) c.from_residual.ensures.1 (c.in_err-adopt_rows.ensures.named clean file s holds readable)

pub returns-in_err-adopt_rows-clause-other : goal.returns-in_err-adopt_rows-clause-other
returns-in_err-adopt_rows-clause-other g c clean other =
    handed_other c.from_residual.result c.in_err-adopt_rows.field-0.0 c.from_residual.ensures.1 (c.in_err-adopt_rows.ensures.other clean other)
