-- What the stores of the sample represent.
use Rattle.store_cached.specs.Standing.{cached_status}
use Rattle.store_cached.specs.declared.cached.Cached.{Cached}
use Rattle.store_rows.specs.ListStore.{list_status}
use Rattle.store_rows.specs.Status.{Status}
use Rattle.store_rows.specs.declared.list_store.ListStore.{ListStore}

-- lists with a cache in front
abbrev pub cached_list_status : Cached ListStore → Status
cached_list_status = cached_status list_status
