use Rattle.sql_create.proofs.row_kinds.TellerRecordSheetRow.add.Goals as goal

pub returns : goal.returns
returns g c = record { step = rw c.of.ensures at c.add_teller.ensures.step }
