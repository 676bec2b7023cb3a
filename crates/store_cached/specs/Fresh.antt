-- Entries of a cache that agree with the policy as it is now.
use Rattle.std.specs.Prelude.{◌≡◌, ℕ, ◌<◌, ◌≤◌, ◌==◌, ◌&&◌, if◌then◌else◌, Bool, List, [], ◌∷◌, Option, Some, None, slice_get, Contains, IsSomeAnd}
use Rattle.std.specs.Option.{option_and_then}
use Rattle.std.specs.Rc.{rc_slice_items}
use Rattle.bank_terms.specs.Procedure.{number_of}
use Rattle.bank_books.specs.WorldLists.{WorldLists}
use Rattle.bank_policy.specs.HeldRows.{relations_of, triples_of}
use Rattle.store_cached.specs.declared.entry.Kept.{Kept}
use Rattle.store_cached.specs.declared.entry.Key.{Key}
use Rattle.store_cached.specs.declared.entry.Rows.{Rows}
use Rattle.store_cached.specs.declared.entry.Rows.TheVariants.{Triples, Relations}

-- The rows are those of the key in this World: the triples of its user, or at user 0 the relations of its procedure.
abbrev pub HasRows : WorldLists → Key → Rows → Type 0
HasRows w key (Triples rows) = (0 < key.user) × (rc_slice_items rows ≡ triples_of w.policy key.user key.procedure)
HasRows w key (Relations rows) = (key.user ≡ 0) × (rc_slice_items rows ≡ relations_of w.policy key.procedure)

-- An entry of the present version has the rows of this World, and no entry is of a later one.
pub record Fits (w : WorldLists) (entry : Key × Kept) : Type 0 where
  pub not_later : entry.1.version ≤ w.version
  pub same_rows : entry.1.version ≡ w.version → HasRows w entry.0 entry.1.rows

abbrev pub AreFresh : WorldLists → List (Key × Kept) → Type 0
AreFresh w entries = (entry : Key × Kept) → Contains entries entry → Fits w entry

-- the entry that was used last is of this key and this version
abbrev pub IsFirst : Key → ℕ → List (Key × Kept) → Type 0
IsFirst key version entries = IsSomeAnd (slice_get entries 0) (λ entry. (entry.0 ≡ key) × (entry.1.version ≡ version))

-- rows of one kind, and the same ones
abbrev pub SameRows : Rows → Rows → Type 0
SameRows (Triples rows) (Triples copy) = rc_slice_items copy ≡ rc_slice_items rows
SameRows (Triples rows) (Relations copy) = ⊥
SameRows (Relations rows) (Triples copy) = ⊥
SameRows (Relations rows) (Relations copy) = rc_slice_items copy ≡ rc_slice_items rows

-- the same user and the same procedure
abbrev pub is_key : Key → Key → Bool
is_key a b = a.user == b.user && number_of a.procedure == number_of b.procedure

-- what is kept for the key
abbrev pub entry_of : Key → List (Key × Kept) → Option Kept
entry_of key [] = None
entry_of key (entry ∷ entries) = if is_key key entry.0 then Some entry.1 else entry_of key entries

-- its rows, where they are of this version
abbrev pub rows_kept : Key → ℕ → List (Key × Kept) → Option Rows
rows_kept key version entries = option_and_then (λ kept. if kept.version == version then Some kept.rows else None) (entry_of key entries)
