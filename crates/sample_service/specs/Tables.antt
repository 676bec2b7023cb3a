-- What the sample's stores over SQL represent.
use Rattle.store_cached.specs.Standing.{cached_status}
use Rattle.store_cached.specs.declared.cached.Cached.{Cached}
use Rattle.sqlite.specs.Held.{state}
use Rattle.sqlite.specs.Steps.{over_memory}
use Rattle.sqlite_trees.specs.declared.memory.MemStore.{MemStore}
use Rattle.store_rows.specs.Status.{Status}
use Rattle.store_sql.specs.Bank.{sql_status, with_known}
use Rattle.store_sql.specs.declared.sql_store.SqlStore.{SqlStore}

-- tables in memory
abbrev pub memory_status : SqlStore MemStore over_memory → Status
memory_status store = with_known store.known (sql_status (state over_memory store.conn) store.is_stopped store.faults store.failures)

-- the same with a cache in front
abbrev pub cached_sql_status : Cached (SqlStore MemStore over_memory) → Status
cached_sql_status = cached_status memory_status
