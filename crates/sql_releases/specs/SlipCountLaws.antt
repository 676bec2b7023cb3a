-- What the statements on the counts of slips do, in a form that a law of a trait may have.
use Rattle.std.proofs.Common.{◌≡◌, ◌/◌, pos, List, [], ◌∷◌, drop, refl, ap, ◌∙◌}
use Rattle.sqlite.specs.declared.types.Value.TheVariants.{Null, Int}
use Rattle.sqlite.specs.Command.TheVariants.{Insert, Update}
use Rattle.sqlite.specs.Edit.{edit_of}
use Rattle.sqlite.specs.Effect.{value_rows}
use Rattle.sqlite.specs.Listing.{understood}
use Rattle.sqlite.specs.Order.{Row}
use Rattle.sqlite.specs.Rowids.TheVariants.{Chosen}
use Rattle.sqlite.specs.Source.TheVariants.{Values}
use Rattle.sqlite.specs.Term.{Term, col, lit}
use Rattle.sqlite.specs.Tree.{Trees}
use Rattle.sqlite.specs.Query.{output}
use Rattle.sqlite.proofs.Callers.{IsPlain, command_of}
use Rattle.sqlite_rules.specs.Cast.{cast_row}
use Rattle.sqlite_value.specs.Order.{column}
use Rattle.sqlite_tied.specs.Compute.{everything}
use Rattle.keyed_rows.specs.Ordered.{add_row}
use Rattle.book_kept.specs.Sheets.{Sheets, set_row, slip_no}
use Rattle.book_kept.specs.declared.records.SlipCount.{SlipCount}
use Rattle.sql_schema.specs.Cells.{AnyRow, slip_count_cells}
use Rattle.sql_schema.specs.Held.Sheet.{slip_counts as in_slip_counts}
use Rattle.sql_schema.specs.HeldRows.{all_of_it}
use Rattle.sql_schema.specs.Schema.{bank_schema, slip_counts_table}
use Rattle.sql_schema.proofs.ActionLemmas.{nothing_set_off}
use Rattle.sql_schema.proofs.FrameLemmas.{with_slip_counts}
use Rattle.sql_schema.proofs.InsertLemmas.{adds_by_rowid, puts}
use Rattle.sql_schema.proofs.PickLemmas.{pick, set_over}
use Rattle.sql_schema.proofs.ReadLemmas.{by_key, one_equals}
use Rattle.sql_schema.proofs.WriteLemmas.{cast_int, cast_null}
use Rattle.sql_schema.specs.Shown.{shown_slip_count}
use Rattle.sql_releases.specs.Tables.{Adds, Sets}
use Rattle.sql_releases.specs.Texts.{add_slip_count_text, set_slip_count_text}

-- ---- the list

abbrev pub with_counts : List SlipCount → Sheets → Sheets
with_counts counts s = record s { slip_counts = counts }

-- ---- casts

count_casts : (u : SlipCount) → cast_row slip_counts_table (Int (pos (slip_no u)) ∷ drop 1 (slip_count_cells u)) ≡ slip_count_cells u
count_casts u = rw (cast_int (pos u.user), cast_null, cast_int (pos u.slips)) refl

-- ---- INSERT

abbrev add_count_terms : List Term
add_count_terms = col 0 0 ∷ lit Null ∷ col 0 1 ∷ []

pub add_slip_count_is : (command_of (understood bank_schema add_slip_count_text) ≡ Insert 15 (Values add_count_terms 3)) × IsPlain (understood bank_schema add_slip_count_text)
unfolding understood everything
add_slip_count_is = (refl, (refl, refl))

news_are : (db : Trees) (u : SlipCount) → (edit_of db slip_counts_table [] Chosen 0 (value_rows (shown_slip_count u) 3 (3 / 3) add_count_terms)).news ≡ slip_count_cells u ∷ []
news_are db u = rw (cast_int (pos u.user), cast_null, cast_int (pos u.slips)) refl

pub adds_count : Adds add_slip_count_text shown_slip_count AnyRow (λ u s. with_counts (add_row slip_no u s.slip_counts) s)
adds_count = record {
  at = 15;
  table = slip_counts_table;
  terms = add_count_terms;
  width = 3;
  is = add_slip_count_is.0;
  plain = add_slip_count_is.1;
  there = refl;
  uncounted = refl;
  unstamped = refl;
  leaves = λ old new s u fit holds applies.
      with_slip_counts old new s (add_row slip_no u s.slip_counts) holds applies.tables
      (adds_by_rowid slip_count_cells slip_no AnyRow slip_counts_table (λ x. refl) old new u s.slip_counts
      (puts slip_counts_table (slip_count_cells u) (value_rows (shown_slip_count u) 3 (3 / 3) add_count_terms) old new applies (news_are old u)) tt (holds in_slip_counts));
}

-- ---- UPDATE

abbrev set_count_columns : List Term
set_count_columns = col 1 0 ∷ col 1 0 ∷ lit Null ∷ col 0 1 ∷ []

pub set_slip_count_is : (command_of (understood bank_schema set_slip_count_text) ≡ Update 15 (record { lets = []; body = pick 27 by_key set_count_columns })) × IsPlain (understood bank_schema set_slip_count_text)
unfolding understood everything
set_slip_count_is = (refl, (refl, refl))

-- the row that an UPDATE makes of that of the user
made : (u : SlipCount) (r : Row) (x : SlipCount) → r ≡ slip_count_cells x → slip_no x ≡ slip_no u → cast_row slip_counts_table (drop 1 (output (pick 27 by_key set_count_columns) (shown_slip_count u ∷ r ∷ [])).1) ≡ slip_count_cells u
made u r x is same = ap (λ v. cast_row slip_counts_table (v ∷ Null ∷ drop 1 (shown_slip_count u))) (ap (λ y. column y 0) is ∙ ap (λ n. Int (pos n)) same) ∙ count_casts u

pub sets_count : Sets set_slip_count_text shown_slip_count AnyRow (λ u s. with_counts (set_row slip_no u s.slip_counts) s)
sets_count = record {
  at = 15;
  table = slip_counts_table;
  body = pick 27 by_key set_count_columns;
  is = set_slip_count_is.0;
  plain = set_slip_count_is.1;
  there = refl;
  sets_nothing_off = λ olds news. nothing_set_off 0 27 refl olds news;
  leaves = λ old new s u rows fit holds answer applies.
      with_slip_counts old new s (set_row slip_no u s.slip_counts) holds applies.tables
      (set_over all_of_it (λ c. c) slip_count_cells slip_no AnyRow 15 slip_counts_table (λ db. refl) by_key set_count_columns set_slip_count_text (shown_slip_count u) u set_slip_count_is.0 set_slip_count_is.1 refl
      (λ r. refl) (λ y _. one_equals (slip_no y) (slip_no u)) (λ r. refl) (λ r x is same _. made u r x is same) old new rows s.slip_counts (holds in_slip_counts) tt answer applies);
}
