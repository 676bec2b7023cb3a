-- What serving the sample bank in a store of one's choice comes to.
use Rattle.std.specs.Prelude.{ℕ}
use Rattle.exit_lines.specs.Streams.{Stream, Streams}
use Rattle.sample_service.specs.Ends.{IsSampleEnd}
use Rattle.sample_service.specs.Stores.{cached_list_status}
use Rattle.sample_service.specs.Tables.{memory_status}
use Rattle.sample_service.specs.declared.store_name.StoreName.{StoreName}
use Rattle.sample_service.specs.declared.store_name.StoreName.TheVariants.{Cached, List, Tables}
use Rattle.store_rows.specs.ListStore.{list_status}

-- it was served over that store, and the status and standard error say how that ended
abbrev pub IsAnswered : StoreName → ℕ → Streams → Streams → Stream → Stream → ℕ → Type 0
IsAnswered List moment old new errors_old errors_new status =
    IsSampleEnd list_status moment old new errors_old errors_new status
IsAnswered Cached moment old new errors_old errors_new status =
    IsSampleEnd cached_list_status moment old new errors_old errors_new status
IsAnswered Tables moment old new errors_old errors_new status =
    IsSampleEnd memory_status moment old new errors_old errors_new status
