-- The entries of an account in the order of its turns.
use Rattle.std.specs.Prelude.{ℕ, zero, suc, ◌+◌, List, [], ◌∷◌}
use Rattle.std.specs.List.{find}
use Rattle.std.specs.Option.{option_map_or}
use Rattle.bank_books.specs.declared.records.EntryRecord.{EntryRecord}
use Rattle.sql_books.specs.Picks.{is_entry_at}

-- those that are its turns start, start plus 1 and so on, as long as they are there, at most n
abbrev pub entries_from : List EntryRecord → ℕ → ℕ → ℕ → List EntryRecord
entries_from entries account start zero = []
entries_from entries account start (suc count) = option_map_or (λ e. e ∷ entries_from entries account (start + 1) count) (find (is_entry_at account start) entries) []
