use Rattle.sql_adopt.proofs.reading.policy_tables.Goals as goal

pub returns-in-Ok-clause-whole : goal.returns-in-Ok-clause-whole
returns-in-Ok-clause-whole g c clean has =
    let it = c.in-Ok.ensures.whole clean has in
    (it.0, it.2)
