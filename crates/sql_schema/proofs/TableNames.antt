-- What the lemmas on each table cite of the crates below.
pub use Rattle.bank_policy.specs.PolicyKeys.{relation_key, triple_key}
pub use Rattle.bank_policy.specs.declared.rows.Relation.{Relation}
pub use Rattle.bank_policy.specs.declared.rows.Triple.{Triple}
pub use Rattle.bank_terms.specs.Procedure.{number_of}
pub use Rattle.book_kept.specs.Named.{IsFree}
pub use Rattle.book_kept.specs.Sheets.{Sheets, set_row}
pub use Rattle.keyed_rows.specs.Changed.{delete_rows}
pub use Rattle.keyed_rows.specs.Ordered.{add_row}
pub use Rattle.sql_schema.proofs.ActionLemmas.{nothing_set_off, triples_work}
pub use Rattle.sql_schema.proofs.HeldLemmas.{Names, picked_alike}
pub use Rattle.sql_schema.proofs.InsertLemmas.{adds_by_columns, adds_by_rowid, apart_by_index, apart_by_rowid, parts_of, puts, two_agree}
pub use Rattle.sql_schema.proofs.KeyLemmas.{one_of_key}
pub use Rattle.sql_schema.proofs.KeyTests.{at_most_one, few_mapped, length-mapped, two_parts}
pub use Rattle.sql_schema.proofs.PickLemmas.{deletes_rows, pick, sets_row}
pub use Rattle.sql_schema.proofs.PickedRows.{few_of_key, first_alone, first_picked}
pub use Rattle.sql_schema.proofs.ReadLemmas.{alone, answered, answers, by_key, by_one, by_two, in_order, is_given, no_limit, no_offset, one_equals, rises_by_one, rising_key, two_equal}
pub use Rattle.sql_schema.proofs.ScanLemmas.{passes, scan}
pub use Rattle.sql_schema.proofs.WriteLemmas.{cast_int, cast_null, inserts}
pub use Rattle.sql_schema.specs.Cells.{AnyRow, RelationFits, TripleFits, relation_cells, triple_cells}
pub use Rattle.sql_schema.specs.Held.{HoldsTables}
pub use Rattle.sql_schema.specs.Held.Sheet.{relations as in_relations, triples as in_triples}
pub use Rattle.sql_schema.specs.HeldRows.{HoldsRows, all_but_rowid, all_of_it}
pub use Rattle.sql_schema.specs.Schema.{bank_schema, grants_table, newest, relations_table}
pub use Rattle.sqlite.proofs.Callers.{IsPlain, command_of}
pub use Rattle.sqlite.specs.Command.TheVariants.{Delete, Insert, Select, Update}
pub use Rattle.sqlite.specs.Edit.{edit_of}
pub use Rattle.sqlite.specs.Effect.{value_rows}
pub use Rattle.sqlite.specs.Listing.{reads_listing}
pub use Rattle.sqlite.specs.Order.{Row}
pub use Rattle.sqlite.specs.Query.{output}
pub use Rattle.sqlite.specs.Rowids.TheVariants.{Chosen, Given}
pub use Rattle.sqlite.specs.Source.TheVariants.{Values}
pub use Rattle.sqlite.specs.State.{Executes, Shown, State}
pub use Rattle.sqlite.specs.Term.{Term, col, lit}
pub use Rattle.sqlite.specs.Tree.{Trees}
pub use Rattle.sqlite.specs.declared.types.Value.TheVariants.{Int, Null}
pub use Rattle.sqlite_keyed.proofs.ListLemmas.{all_of}
pub use Rattle.sqlite_rules.specs.Cast.{cast_row}
pub use Rattle.sqlite_rules.specs.Edit.{id_in, next_rowid, without_all}
pub use Rattle.sqlite_schema.specs.Rules.{agree, has_null}
pub use Rattle.sqlite_trees.specs.Tree.{rowid}
pub use Rattle.sqlite_value.specs.Keys.{plain}
pub use Rattle.std.proofs.lemmas.Bool.{and_parts, eq-eqb, eqb-true, false≢true}
pub use Rattle.std.proofs.lemmas.List.Sorted.{length_permutation}
pub use Rattle.std.specs.List.{cons_option, find, list_any}
pub use Rattle.std.specs.Prelude.{option_map, slice_get}
