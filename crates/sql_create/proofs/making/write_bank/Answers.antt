use Rattle.sql_create.proofs.MakingLemmas.{bank_made}
use Rattle.sql_create.proofs.making.write_bank.Goals as goal

pub returns-clause-goes : goal.returns-clause-goes
returns-clause-goes g c = bank_made c.args.world.now c.fill.result c.version.ensures c.requires.keepable c.in_ok-make_tables.ensures.goes c.add_bank.ensures.frame c.in_ok-add_bank.ensures.goes c.fill.ensures.step
