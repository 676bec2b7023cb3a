-- Pages that end in sums, by which a damaged page shows.
use Rattle.std.specs.Prelude.{◌≡◌, ◌⊎◌, ◌-◌, ℕ, Bool, true, false, List, Some, None, take}
use Rattle.sqlite_disk.specs.declared.Disk.{Ghosts}
use Rattle.sqlite_pool.specs.Stored.{is_among, sealed}
use Rattle.sqlite_store.specs.FileStore.{view}
use Rattle.sqlite_wal.specs.PageSize.{IsPageSize}
use Rattle.sqlite_wal.specs.Recovery.{AreFramesOf, Image, Pages, Recovers}
use Rattle.sqlite.specs.declared.FileStore.{FileStore}
use Rattle.sqlite.specs.Files.{IsBlankAs, IsNothing, NamesSize, SaysSums, file_state}
use Rattle.sqlite.specs.Held.{Held}
use Rattle.sqlite.specs.State.{HasCleanDisk}

-- Where the file was empty as it was opened, its pages end in sums exactly where these were asked for.
abbrev pub HasSumsAsAsked : {D : Type 0} {g : Ghosts D} → Bool → Image → Held (FileStore D g) → Type 0
HasSumsAsAsked asked image conn = HasCleanDisk (file_state conn) → IsBlankAs asked image → (view conn.store).has_sums ≡ asked

-- The file holds a database, and says that its pages are of this length, with a sum in the last eight bytes of each.
pub record SaysItsSums (len : ℕ) (image : Image) : Type 0 where
  pub there : ¬ IsNothing image
  pub is_size : IsPageSize len
  pub size : NamesSize image len
  pub sums : SaysSums len image

-- the last eight bytes of a page of this length are the sum of those before them
abbrev pub EndsInSum : ℕ → List ℕ → Type 0
EndsInSum len page = page ≡ sealed (take (len - 8) page)

-- Each page ends in its sum, but for those that the log has: SQLite's own log has no sums.
abbrev pub EachEndsInSum : ℕ → Image → Type 0
EachEndsInSum len image =
    (pages : Pages) → Recovers len image pages
    → (logged : List ℕ) × AreFramesOf len image.log logged × ((n : ℕ) (page : List ℕ) → pages n ≡ Some page → is_among logged n ≡ false → EndsInSum len page)

-- The second image has as many pages as the first. Each of them that ends in its sum, or that the log has, is as it was: so no page was changed
-- to another that ends in its own sum.
pub record NoneCollides (len : ℕ) (old new : Image) : Type 0 where
  pub was : Pages
  pub is : Pages
  pub found_was : Recovers len old was
  pub found_is : Recovers len new is
  pub ends : (n : ℕ) → is n ≡ None → was n ≡ None
  pub same : (logged : List ℕ) → AreFramesOf len new.log logged → (n : ℕ) (page : List ℕ) → is n ≡ Some page → EndsInSum len page ⊎ (is_among logged n ≡ true) → was n ≡ Some page
