-- What serving a stream over the sample bank comes to, in any store.
use Rattle.std.specs.Prelude.{◌≡◌, ℕ, Option, Some, None, Result, Err}
use Rattle.bank_books.specs.WorldLists.{WorldLists}
use Rattle.bank_meaning.specs.Sums.{PassesChecks}
use Rattle.counter_service.specs.Serving.{IsServedWithCache, IsServedOver}
use Rattle.exit_lines.specs.Streams.{Streams}
use Rattle.http_messages.specs.declared.serving.ServeFault.{ServeFault}
use Rattle.http_messages.specs.declared.serving.ServeFault.TheVariants.{Memory}
use Rattle.http_messages.specs.declared.serving.Served.{Served}
use Rattle.sample_bank.specs.Badges.{badge_user}
use Rattle.sample_bank.specs.Opening.{sample_opening}
use Rattle.store_rows.specs.Status.{Status}

module _ {S : Type 0} (status : S → Status) where
  -- The store represents the opening books of the sample bank, and no others. They pass both checks.
  pub record IsOpening (store : S) : Type 0 where
    pub passes : PassesChecks sample_opening
    pub holds : (status store).holds sample_opening
    pub only : (w : WorldLists) → (status store).holds w → w ≡ sample_opening

  -- It was served over the sample bank as its books are opened, to the users of the sample's badges, and this store is left; or there
  -- is none, since memory was refused for that bank, and nothing was read, done or written.
  abbrev pub IsSampleServed : ℕ → Streams → Streams → Option S → Result Served ServeFault → Type 0
  IsSampleServed moment old new (Some left) result =
      (opened : S) × IsOpening opened × IsServedOver status badge_user opened moment old new left result
  IsSampleServed moment old new None result = (result ≡ Err Memory) × (new ≡ old)

  -- the same with a cache in front, which is gone after that
  abbrev pub IsSampleServedWithCache : ℕ → Streams → Streams → Option S → Result Served ServeFault → Type 0
  IsSampleServedWithCache moment old new (Some left) result =
      (opened : S) × IsOpening opened × IsServedWithCache status badge_user opened moment old new left result
  IsSampleServedWithCache moment old new None result = (result ≡ Err Memory) × (new ≡ old)
