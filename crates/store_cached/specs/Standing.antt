-- What a store with a cache represents.
use Rattle.std.specs.Prelude.{◌≡◌, ℕ, ◌⊎◌, List, Option, IfSome}
use Rattle.money.specs.Counted.{counted_once_more}
use Rattle.bank_books.specs.WorldLists.{WorldLists}
use Rattle.store_rows.specs.Status.{Status}
use Rattle.store_cached.specs.Fresh.{AreFresh, IsFirst}
use Rattle.store_cached.specs.Users.{IsKnownOf}
use Rattle.store_cached.specs.declared.cached.Cached.{Cached}
use Rattle.store_cached.specs.declared.entry.Kept.{Kept}
use Rattle.store_cached.specs.declared.entry.Key.{Key}
use Rattle.store_cached.specs.declared.known.Known.{Known}

-- The entries fit this World, and so does what is known of its policy, if anything is.
abbrev pub Suits : Option Known → List (Key × Kept) → WorldLists → Type 0
Suits known entries w = AreFresh w entries × IfSome known (IsKnownOf w)

-- It represents the Worlds that the store below represents and that what it keeps suits. Of a disk that has not
-- returned what was written nothing is said.
abbrev pub with_kept : Status → (WorldLists → Type 0) → Status
with_kept s suits = record s { holds = λ w. s.holds w × (s.is_honest → suits w) }

module _ {S : Type 0} where
  -- the store that it reads
  abbrev pub below : Cached S → S
  below c = c.store

  -- what it keeps, the last used first
  abbrev pub remembered : Cached S → List (Key × Kept)
  remembered c = c.cache

  -- the version of the policy that it read last, if that is kept, with users that it read
  abbrev pub known_version : Cached S → Option Known
  known_version c = c.known

  -- how many times memory for an entry was refused
  abbrev pub unkept_count : Cached S → ℕ
  unkept_count c = c.unkept

  -- an entry of this key and this version is the last used, or memory for it was refused once, and this was counted
  abbrev pub IsKept : Key → ℕ → Cached S → Cached S → Type 0
  IsKept key version old new =
      (IsFirst key version (remembered new) × (unkept_count new ≡ unkept_count old)) ⊎ (unkept_count new ≡ counted_once_more (unkept_count old))

  abbrev pub cached_status : (S → Status) → Cached S → Status
  cached_status status c = with_kept (status (below c)) (Suits (known_version c) (remembered c))
