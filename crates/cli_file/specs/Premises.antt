-- That what laws and clauses suppose is met by what it is named for.
use Rattle.std.specs.Prelude.{◌≡◌, ◌⊎◌, ℕ, true, false, All, List, [], Some, None}
use Rattle.sqlite_disk.specs.declared.Disk.{Ghosts}
use Rattle.sqlite_disk.specs.declared.Files.{Files}
use Rattle.sqlite_pool.specs.Stored.{is_among}
use Rattle.sqlite_wal.specs.Files.{outcomes}
use Rattle.sqlite_wal.specs.PageSize.{IsPageSize}
use Rattle.sqlite_wal.specs.Recovery.{AreFramesOf, Image, Pages, Recovers}
use Rattle.sqlite.specs.Files.{IsNothing, NamesSize, SaysSums, image_of}
use Rattle.bank_meaning.specs.Run.{Marked}
use Rattle.bank_meaning.specs.Sums.{AreProper}
use Rattle.counter_api.specs.Run.{AreInRange}
use Rattle.cli_file.specs.Opened.{MayBeFound}
use Rattle.cli_file.specs.Pages.{page_of_new}
use Rattle.cli_file.specs.Sums.{EachEndsInSum, EndsInSum, NoneCollides, SaysItsSums}

-- A new file that was asked for with sums says so, and so does every file that has a database whose first page reserves eight bytes of each page. Where no log is left, each
-- page is asked for its sum.
pub record AreFilesWithSumsCovered : Type 0 where
  pub new : SaysItsSums 512 (record { log = []; db = page_of_new true })
  pub each : (len : ℕ) (image : Image) → ¬ IsNothing image → IsPageSize len → NamesSize image len → SaysSums len image → SaysItsSums len image
  pub asked : (len : ℕ) (db : List ℕ) (pages : Pages) (n : ℕ) (page : List ℕ) → Recovers len (record { log = []; db = db }) pages → EachEndsInSum len (record { log = []; db = db })
      → pages n ≡ Some page → EndsInSum len page

-- A page is as it was, or its damage shows: it does not end in its sum, and is not in the log.
abbrev pub IsAsItWasOrShows : ℕ → Image → ℕ → List ℕ → Pages → Type 0
IsAsItWasOrShows len new n page was = (was n ≡ Some page) ⊎ ((¬ EndsInSum len page) × ((logged : List ℕ) → AreFramesOf len new.log logged → is_among logged n ≡ false))

-- No page collides where none is damaged, or each that is shows it.
pub record IsDamageCovered : Type 0 where
  pub none : (len : ℕ) (image : Image) (pages : Pages) → Recovers len image pages → NoneCollides len image image
  pub shown : (len : ℕ) (old new : Image) (was is : Pages) → Recovers len old was → Recovers len new is → ((n : ℕ) → is n ≡ None → was n ≡ None)
      → ((n : ℕ) (page : List ℕ) → is n ≡ Some page → IsAsItWasOrShows len new n page was) → NoneCollides len old new

-- Requests that are proper, each of which was made, are in range.
abbrev pub AreMadeInRange : Type 0
AreMadeInRange = (requests : List Marked) → All (λ m. m.mark ≡ None) requests → AreProper requests → AreInRange requests

pub record PremisesAreMet : Type 0 where
  pub files : AreFilesWithSumsCovered
  pub damage : IsDamageCovered
  pub requests : AreMadeInRange

-- An image of closed files may be found, and so may its file alone, with no log.
abbrev pub MayBeFoundAlone : {D : Type 0} → Ghosts D → Files D → Image → Type 0
MayBeFoundAlone g files image = MayBeFound g files image × MayBeFound g files (record image { log = [] })

-- Of closed files what they hold may be found, and whatever a crash leaves of that; and the file of either alone.
pub record AreFoundAsLeft {D : Type 0} (g : Ghosts D) (files : Files D) : Type 0 where
  pub closed : MayBeFoundAlone g files (image_of g files)
  pub crashed : (image : Image) → outcomes g files.log files.db image → MayBeFoundAlone g files image
