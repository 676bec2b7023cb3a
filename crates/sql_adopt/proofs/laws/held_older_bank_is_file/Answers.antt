use Rattle.sqlite.specs.Held.{state}
use Rattle.sql_adopt.proofs.FileLemmas.{older_bank_is_file, other_bank_is_file}
use Rattle.sql_adopt.proofs.laws.held_older_bank_is_file.Goals as goal

pub returns-clause-older : goal.returns-clause-older
returns-clause-older g c e w older bank = older_bank_is_file e (state g.S.Store c.args._conn.now) w older bank

pub returns-clause-other : goal.returns-clause-other
returns-clause-other g c e edition w differs bank = other_bank_is_file e edition (state g.S.Store c.args._conn.now) w differs bank
