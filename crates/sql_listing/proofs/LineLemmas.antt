-- Lines of the policy that are read one after another, and the line that follows another.
use Rattle.std.proofs.Common.{◌≡◌, ◌<◌, ◌≤◌, ◌+◌, ◌++◌, append-nil, append_assoc, ℕ, Contains, List, [], ◌∷◌, map, filter, take, slice_get, length, get_or, Bool, true, Option, Some, None, Result, refl, ap, arith, sym, subst, ◌∙◌, ℤ}
use Rattle.std.specs.Prelude.{IfOk, Vec, option_map}
use Rattle.std.specs.declared.alloc.Global.{Global}
use Rattle.std.specs.List.{find}
use Rattle.std.proofs.lemmas.List.{get_or-map, length-map, map-append, take_all, take_more}
use Rattle.std.proofs.lemmas.List.Elements.{Contains-get_or}
use Rattle.sqlite.specs.Effect.{Database}
use Rattle.sqlite.specs.Order.{Row}
use Rattle.money.specs.declared.fault.Fault.{Fault}
use Rattle.sqlite_keyed.proofs.ListLemmas.{all_of, filter_all}
use Rattle.keyed_rows.proofs.Rows.{find-found}
use Rattle.book_kept.proofs.RowLemmas.{find-map}
use Rattle.book_kept.specs.Sheets.{Sheets}
use Rattle.sql_schema.specs.Held.{HoldsTables}
use Rattle.sql_schema.specs.Held.Sheet.{members as in_members, relations as in_relations, triples as in_triples}
use Rattle.sql_schema.proofs.PickedRows.{first_of_one}
use Rattle.world_reads.specs.declared.policy_row.PolicyRow.{PolicyRow}
use Rattle.sql_listing.specs.Columns.{at_most, is_past, or_first}
use Rattle.sql_listing.specs.Lines.{FitsOf, RowOf, cells_of, following, line_of, lines_after, lines_from, lines_in, rows_of}
use Rattle.sql_listing.specs.declared.columns.Columns.{Columns}
use Rattle.sql_listing.specs.declared.kinds.LineKind.{LineKind}
use Rattle.sql_listing.specs.declared.kinds.LineKind.TheVariants as kind

-- ---- one after another

module _ {X Y : Type 0} (cells : X → Row) (Fits : X → Type 0) (f : X → Y) where
  abbrev Each : List X → Type 0
  Each xs = (x : X) → Contains xs x → Fits x

  -- the lines of the rows before the i-th stand after those that were there
  abbrev pub AreAdded : List Row → ℕ → List Y → List Y → Type 0
  AreAdded rows i old ys = (there : List X) → Each there → rows ≡ map cells there → ys ≡ old ++ map f (take i there)

  one_more : (rows : List Row) (i : ℕ) (row : Row) (a : Y) (old ys : List Y) (there : List X) → i < length rows → row ≡ get_or rows i row → ((b : X) → Fits b → row ≡ cells b → a ≡ f b) → Each there → rows ≡ map cells there
      → ys ≡ old ++ map f (take i there) → ys ++ a ∷ [] ≡ old ++ map f (take (i + 1) there)
  one_more rows i row a old ys [] below at reads fit is before = let none = ap length is in absurd (omega (arith, none, below))
  one_more rows i row a old ys (b ∷ bs) below at reads fit is before =
      let there : List X = b ∷ bs in
      let long : length rows ≡ length there = ap length is ∙ length-map there cells in
      let inside : i < length there = omega (arith, long, below) in
      let here : row ≡ cells (get_or there i b) = at ∙ ap (λ l. get_or l i row) is ∙ get_or-map cells there i b row inside in
      (λ j. before j ++ reads (get_or there i b) (fit _ (Contains-get_or there i b inside)) here j ∷ []) ∙ append_assoc old (map f (take i there)) (f (get_or there i b) ∷ [])
      ∙ ap (λ l. old ++ l) (sym (map-append f (take i there) (get_or there i b ∷ [])) ∙ ap (map f) (sym (take_more there i b inside)))

  pub added_more : (rows : List Row) (i : ℕ) (row : Row) (a : Y) (old ys zs : List Y) → i < length rows → row ≡ get_or rows i row → ((b : X) → Fits b → row ≡ cells b → a ≡ f b) → zs ≡ ys ++ a ∷ [] → AreAdded rows i old ys
      → AreAdded rows (i + 1) old zs
  added_more rows i row a old ys zs below at reads is before there fit are = is ∙ one_more rows i row a old ys there below at reads fit are (before there fit are)

  pub added_all : (rows : List Row) (i : ℕ) (old ys : List Y) → length rows ≤ i → AreAdded rows i old ys → (there : List X) → Each there → rows ≡ map cells there → ys ≡ old ++ map f there
  added_all rows i old ys past before there fit are =
      let long : length rows ≡ length there = ap length are ∙ length-map there cells in
      let over : length there ≤ i = omega (arith, long, past) in
      before there fit are ∙ ap (λ l. old ++ map f l) (take_all i there over)

-- ---- all lines of a kind

pub every_row : {X : Type 0} (xs : List X) → filter (λ _. true) xs ≡ xs
every_row xs = filter_all (λ _. true) xs (all_of (λ _. true ≡ true) (λ _. refl) xs)

pub each_fits : (db : Database) (s : Sheets) → HoldsTables db s → (k : LineKind) (r : RowOf k) → Contains (rows_of s k) r → FitsOf k r
each_fits db s holds kind.User r there = tt
each_fits db s holds kind.Certifier r there = tt
each_fits db s holds kind.Member r there = (holds.rows in_members).fit r there
each_fits db s holds kind.Relation r there = (holds.rows in_relations).fit r there
each_fits db s holds kind.Triple r there = (holds.rows in_triples).fit r there

-- ---- the first line

module _ (k : LineKind) (p : PolicyRow → Bool) (rows : List (RowOf k)) (fit : (r : RowOf k) → Contains rows r → FitsOf k r) where
  abbrev passes : RowOf k → Bool
  passes r = p (line_of k r)

  first_read : (o : Option (RowOf k)) (row : Row) (line : PolicyRow) → ((there : RowOf k) → o ≡ Some there → FitsOf k there) → Some row ≡ option_map (cells_of k) o → ((there : RowOf k) → FitsOf k there → row ≡ cells_of k there → line ≡ line_of k there) → Some line ≡ option_map (line_of k) o
  first_read None row line fits is reads = absurd cc
  first_read (Some there) row line fits is reads = ap (λ l. Some l) (reads there (fits there refl) cc)

  none_read : (o : Option (RowOf k)) → ◌≡◌ {A = Option Row} None (option_map (cells_of k) o) → ◌≡◌ {A = Option PolicyRow} None (option_map (line_of k) o)
  none_read None is = refl
  none_read (Some there) is = absurd cc

  -- it is read of the first row that a statement shows
  pub line_found : (shown : List Row) (row : Row) (line : PolicyRow) → Some row ≡ slice_get shown 0 → shown ≡ take 1 (map (cells_of k) (filter passes rows)) → ((there : RowOf k) → FitsOf k there → row ≡ cells_of k there → line ≡ line_of k there)
      → Some line ≡ find p (map (line_of k) rows)
  line_found shown row line is are reads =
      first_read (find passes rows) row line (λ there found. fit there (find-found passes rows there found).0) (is ∙ ap (λ l. slice_get l 0) are ∙ first_of_one (cells_of k) passes rows) reads ∙ sym (find-map p (line_of k) rows)

  pub line_missing : (shown : List Row) → None ≡ slice_get shown 0 → shown ≡ take 1 (map (cells_of k) (filter passes rows)) → ◌≡◌ {A = Option PolicyRow} None (find p (map (line_of k) rows))
  line_missing shown is are =
      none_read (find passes rows) (is ∙ ap (λ l. slice_get l 0) are ∙ first_of_one (cells_of k) passes rows) ∙ sym (find-map p (line_of k) rows)

-- ---- by kinds

pub first_of_all : (xs ys : List PolicyRow) → or_first (find (λ _. true) xs) ys ≡ slice_get (xs ++ ys) 0
first_of_all [] ys = refl
first_of_all (x ∷ xs) ys = refl

after_last : (s : Sheets) → lines_in s kind.Triple ++ [] ≡ lines_in s kind.Triple
after_last s = append-nil (lines_in s kind.Triple)

the_kind : (a b : LineKind) → ◌≡◌ {A = Option LineKind} (Some a) (Some b) → a ≡ b
the_kind a b e = cc

pub from_next : (s : Sheets) (k next : LineKind) → ◌≡◌ {A = Option LineKind} (Some next) (following k) → lines_from s next ≡ lines_after s k
from_next s kind.User next is = ap (lines_from s) (the_kind next kind.Certifier is)
from_next s kind.Certifier next is = ap (lines_from s) (the_kind next kind.Member is)
from_next s kind.Member next is = ap (lines_from s) (the_kind next kind.Relation is)
from_next s kind.Relation next is = ap (lines_from s) (the_kind next kind.Triple is) ∙ after_last s
from_next s kind.Triple next is = absurd cc

-- the first line of the kinds after one is that of the next kind, or else of those after that
pub first_after : (s : Sheets) (k next : LineKind) → ◌≡◌ {A = Option LineKind} (Some next) (following k) → or_first (find (is_past None) (lines_in s next)) (lines_after s next) ≡ slice_get (lines_after s k) 0
first_after s k next is = first_of_all (lines_in s next) (lines_after s next) ∙ ap (λ l. slice_get l 0) (from_next s k next is)

-- how many kinds are still to come
abbrev pub left_of : LineKind → ℕ
left_of kind.User = 4
left_of kind.Certifier = 3
left_of kind.Member = 2
left_of kind.Relation = 1
left_of kind.Triple = 0

-- ---- of a kind that is known

pub read_as : (k l : LineKind) → k ≡ l → (row : Row) (line : PolicyRow) → ((there : RowOf l) → FitsOf l there → row ≡ cells_of l there → line ≡ line_of l there) → (there : RowOf k) → FitsOf k there → row ≡ cells_of k there → line ≡ line_of k there
read_as k l is row line reads = subst (λ m. (there : RowOf m) → FitsOf m there → row ≡ cells_of m there → line ≡ line_of m there) (sym is) reads

-- the rows of a kind in a part of their table
abbrev pub Shows : Sheets → Option Columns → ℤ → LineKind → Vec Row Global → Type 0
Shows s after count k rows = rows.items ≡ at_most count (map (cells_of k) (filter (λ r. is_past after (line_of k r)) (rows_of s k)))

pub shown_as : (k l : LineKind) → k ≡ l → (s : Sheets) (after : Option Columns) (count : ℤ) (result : Result (Vec Row Global) Fault) → IfOk result (Shows s after count l) → IfOk result (Shows s after count k)
shown_as k l is s after count result shows = subst (λ m. IfOk result (Shows s after count m)) (sym is) shows
