use Rattle.sqlite.proofs.Callers.{memory_is_clean}
use Rattle.store_sql.proofs.laws.memory_is_honest.Goals as goal

pub returns : goal.returns
returns c store = memory_is_clean store.conn
