-- How serving the sample bank ends: what standard error got, and the status.
use Rattle.std.specs.Prelude.{ℕ, Option, Result}
use Rattle.http_messages.specs.declared.serving.ServeFault.{ServeFault}
use Rattle.http_messages.specs.declared.serving.Served.{Served}
use Rattle.exit_lines.specs.Ends.{IsReported}
use Rattle.exit_lines.specs.Streams.{Stream, Streams}
use Rattle.sample_service.specs.Serving.{IsSampleServed}
use Rattle.store_rows.specs.Status.{Status}

-- A stream was served over the sample bank, in a store that represents what this says; how that ended was reported, and
-- what was left of the store was dropped.
pub record IsSampleEnd {S : Type 0} (stands : S → Status) (moment : ℕ) (old new : Streams) (errors_old errors_new : Stream) (status : ℕ) : Type 0 where
  pub left : Option S
  pub result : Result Served ServeFault
  pub served : IsSampleServed stands moment old new left result
  pub stated : IsReported result errors_old errors_new status
