-- How a table holds rows.
use Rattle.std.specs.Prelude.{ℕ, List, map, drop, Contains}
use Rattle.std.specs.List.Sorted.{IsPermutation}
use Rattle.sqlite.specs.Order.{Row}
use Rattle.sqlite_trees.specs.View.{IsShaped}
use Rattle.sqlite_trees.specs.declared.store.Shape.TheVariants.{Table}
use Rattle.book_kept.specs.Keepable.{IsOrdered}

-- What of a row is compared, whatever the order of the rows: all of it where its rowid is its key, and else all but the
-- rowid, which is the table's own.
abbrev pub all_of_it : Row → Row
all_of_it row = row

abbrev pub all_but_rowid : Row → Row
all_but_rowid row = drop 1 row

-- The tree has each of these rows once and no other. They are listed in order of keys, which differ, and their numbers
-- are small enough to keep the parts of a key apart.
pub record HoldsRows {X : Type 0} (shows : Row → Row) (cells : X → Row) (key : X → ℕ) (Fits : X → Type 0) (rows : List X) (tree : List Row) : Type 0 where
  pub same : IsPermutation (map cells rows) (map shows tree)
  pub ordered : IsOrdered key rows
  pub fit : (x : X) → Contains rows x → Fits x
  -- the rowids are whole numbers, and rise
  pub shaped : IsShaped Table tree
