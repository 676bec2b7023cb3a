-- What the statements on the releases do.
use Rattle.std.proofs.Common.{◌≡◌, ◌/◌, ◌<◌, ◌^◌, ◌≤◌, ℕ, pos, List, [], ◌∷◌, map, filter, drop, length, codes, Bool, true, false, Ok, refl, ap, sym, ◌∙◌, subst, ◌==◌, ◌&&◌, slice_index_or}
use Rattle.sqlite.specs.declared.types.Value.{Value}
use Rattle.sqlite.specs.Cast.{cast}
use Rattle.sqlite.specs.Command.TheVariants.{Update}
use Rattle.sqlite.specs.Kind.TheVariants.{Integer}
use Rattle.sqlite.specs.Listing.{understood}
use Rattle.sqlite_rules.specs.Cast.{cast_row}
use Rattle.sqlite_tied.specs.Compute.{everything}
use Rattle.bank_books.specs.Effects.{used_up}
use Rattle.bank_books.specs.Keys.{release_key, release_number}
use Rattle.bank_books.specs.declared.row_write.ReleaseKey.{ReleaseKey}
use Rattle.bank_books.specs.declared.rows.Release.{Release}
use Rattle.keyed_rows.specs.Changed.{change_rows}
use Rattle.book_kept.specs.Changes.{used_sheets}
use Rattle.sql_schema.specs.Cells.{ReleaseFits, release_cells}
use Rattle.sql_schema.specs.Held.Sheet.{releases as in_releases}
use Rattle.sql_schema.specs.Numbers.{truth_cell}
use Rattle.sql_schema.specs.Schema.{newest, releases_index, releases_table}
use Rattle.sql_schema.proofs.NamedTables.{releases_index_there, releases_there}
use Rattle.sql_schema.proofs.ActionLemmas.{nothing_set_off}
use Rattle.sql_schema.proofs.FrameLemmas.{with_releases}
use Rattle.sql_schema.proofs.PickLemmas.{pick}
use Rattle.sql_schema.proofs.ChangeLemmas.{changes_row}
use Rattle.sql_schema.proofs.TableNames.{find, cons_option, Null, Int, Insert, Select, edit_of, value_rows, reads_listing, Row, output, Chosen, Values, Executes, Shown, State, Term, col, lit, Trees, IsPlain, command_of, next_rowid, agree, plain, add_row, number_of, Sheets, HoldsTables, HoldsRows, all_but_rowid, bank_schema, picked_alike, adds_by_columns, apart_by_index, parts_of, puts, two_agree, one_of_key, alone, answered, by_two, no_limit, no_offset, two_equal, passes, scan, cast_int, cast_null, inserts, at_most_one, few_mapped, two_parts}
use Rattle.sql_releases.specs.Texts.{add_release_text, release_text, use_up_text}

-- ---- SELECT

abbrev release_columns : List Term
release_columns = col 1 1 ∷ col 1 2 ∷ col 1 3 ∷ col 1 4 ∷ col 1 5 ∷ col 1 6 ∷ col 1 7 ∷ col 1 8 ∷ col 1 9 ∷ col 1 10 ∷ col 1 11 ∷ col 1 12 ∷ col 1 13 ∷ col 1 14 ∷ col 1 15 ∷ []

pub release_is : (command_of (understood bank_schema release_text) ≡ Select (record { lets = []; body = scan 21 by_two release_columns [] no_limit no_offset })
    (codes "user_no" ∷ codes "number" ∷ codes "giver" ∷ codes "branch" ∷ codes "day" ∷ codes "form" ∷ codes "member1" ∷ codes "member2" ∷ codes "member3" ∷ codes "member4" ∷ codes "member5" ∷ codes "member6"
    ∷ codes "member7" ∷ codes "member8" ∷ codes "used" ∷ []))
    × (reads_listing bank_schema release_text ≡ false) × IsPlain (understood bank_schema release_text)
unfolding understood everything
release_is = (refl, refl, (refl, refl))

release_reads : (params r : Row) → (passes by_two params r ≡ passes by_two params (Null ∷ drop 1 r))
    × (output (scan 21 by_two release_columns [] no_limit no_offset) (params ∷ r ∷ []) ≡ output (scan 21 by_two release_columns [] no_limit no_offset) (params ∷ (Null ∷ drop 1 r) ∷ []))
release_reads params [] = (refl, refl)
release_reads params (v ∷ r) = (refl, refl)

abbrev is_release_at : ℕ → ℕ → Release → Bool
is_release_at user number r = r.user == user && r.number == number

-- a test by columns is one by key
by_number : (user number : ℕ) → number < 2 ^ 32 → (x : Release) → ReleaseFits x → is_release_at user number x ≡ (release_key x == release_number user number)
by_number user number small x fit = two_parts x.user x.number user number fit.number small

few_of_key : (user number : ℕ) → number < 2 ^ 32 → (s : Sheets) (tree : List Row) → HoldsRows all_but_rowid release_cells release_key ReleaseFits s.releases tree
    → filter (is_release_at user number) s.releases ≡ cons_option (find (λ x. release_key x == release_number user number) s.releases) []
few_of_key user number small s tree holds =
    picked_alike all_but_rowid release_cells release_key ReleaseFits (is_release_at user number) (λ x. release_key x == release_number user number) s.releases tree holds (by_number user number small)
    ∙ one_of_key release_key (release_number user number) s.releases holds.ordered.distinct

pub selects_release : (old new : State) (s : Sheets) (user number : ℕ) (rows : List Row) → number < 2 ^ 32 → HoldsTables old.now s → Shown release_text (Int (pos user) ∷ Int (pos number) ∷ []) old new rows
    → rows ≡ map release_cells (cons_option (find (λ x. release_key x == release_number user number) s.releases) [])
selects_release old new s user number rows small holds h =
    let params = Int (pos user) ∷ Int (pos number) ∷ [] in
    let one = few_of_key user number small s (old.now.trees 21) (holds.rows in_releases) in
    alone all_but_rowid (λ c. Null ∷ c) release_cells release_key ReleaseFits 21 (λ db. refl) by_two release_columns [] no_limit no_offset params (is_release_at user number)
    (release_reads params) (λ x. two_equal x.user x.number user number) old.now.trees s.releases rows (holds.rows in_releases)
    (answered release_text _ (scan 21 by_two release_columns [] no_limit no_offset) params release_is.0 release_is.1 release_is.2 old new rows holds.schema h)
    (few_mapped _ (filter (is_release_at user number) s.releases) (subst (λ l. length l ≤ 1) (sym one) (at_most_one (find (λ x. release_key x == release_number user number) s.releases))))
    ∙ ap (map release_cells) one

-- ---- INSERT

abbrev add_release_terms : List Term
add_release_terms =
    lit Null ∷ col 0 0 ∷ col 0 1 ∷ col 0 2 ∷ col 0 3 ∷ col 0 4 ∷ col 0 5 ∷ col 0 6 ∷ col 0 7 ∷ col 0 8 ∷ col 0 9 ∷ col 0 10 ∷ col 0 11 ∷ col 0 12 ∷ col 0 13 ∷ col 0 14 ∷ []

pub add_release_is : (command_of (understood bank_schema add_release_text) ≡ Insert 13 (Values add_release_terms 16)) × IsPlain (understood bank_schema add_release_text)
unfolding understood everything
add_release_is = (refl, (refl, refl))

blind : (r s : Row) → agree plain (1 ∷ 2 ∷ []) r (1 ∷ 2 ∷ []) s ≡ agree plain (1 ∷ 2 ∷ []) (Null ∷ drop 1 r) (1 ∷ 2 ∷ []) (Null ∷ drop 1 s)
blind [] [] = refl
blind [] (y ∷ s) = refl
blind (x ∷ r) [] = refl
blind (x ∷ r) (y ∷ s) = refl

alike : (x y : Release) → ReleaseFits x → ReleaseFits y → release_key x ≡ release_key y → agree plain (1 ∷ 2 ∷ []) (Null ∷ release_cells x) (1 ∷ 2 ∷ []) (Null ∷ release_cells y) ≡ true
alike x y p q same =
    let parts = parts_of x.user x.number y.user y.number p.number q.number same in
    two_agree plain x.user x.number y.user y.number parts.0 parts.1

cast_truth : (truth : Bool) → cast Integer (truth_cell truth) ≡ truth_cell truth
cast_truth true = cast_int (pos 1)
cast_truth false = cast_int (pos 0)

-- the row that an INSERT makes, by the rows that are there
abbrev new_release : List Row → Release → Row
new_release rows r = Int (next_rowid rows) ∷ release_cells r

news_are : (db : Trees) (r : Release) → (edit_of db releases_table [] Chosen 0 (value_rows (release_cells r) 16 (16 / 16) add_release_terms)).news ≡ new_release (db 21) r ∷ []
news_are db r =
    rw (
      cast_null,
      cast_int (pos r.user),
      cast_int (pos r.number),
      cast_int (pos r.giver),
      cast_int (pos r.branch),
      cast_int (pos r.day),
      cast_int (pos (number_of r.operation.form)),
      cast_int (slice_index_or r.operation.members 0 (pos 0)),
      cast_int (slice_index_or r.operation.members 1 (pos 0)),
      cast_int (slice_index_or r.operation.members 2 (pos 0)),
      cast_int (slice_index_or r.operation.members 3 (pos 0)),
      cast_int (slice_index_or r.operation.members 4 (pos 0)),
      cast_int (slice_index_or r.operation.members 5 (pos 0)),
      cast_int (slice_index_or r.operation.members 6 (pos 0)),
      cast_int (slice_index_or r.operation.members 7 (pos 0)),
      cast_truth r.used,
    ) refl

pub adds_release : (old new : State) (s : Sheets) (r : Release) (count : ℕ) → ReleaseFits r → HoldsTables old.now s → Executes add_release_text (release_cells r) old new (Ok count)
    → HoldsTables new.now (record s { releases = add_row release_key r s.releases })
adds_release old new s r count fit holds h =
    let it = inserts bank_schema add_release_text (release_cells r) 13 releases_table add_release_terms 16 add_release_is.0 add_release_is.1 refl refl refl old new count holds.schema h in
    let row = new_release (old.now.trees 21) r in
    let put = puts releases_table row (value_rows (release_cells r) 16 (16 / 16) add_release_terms) old.now.trees new.now.trees it.applies (news_are old.now.trees r) in
    let free = apart_by_index release_cells release_key ReleaseFits releases_table releases_index (releases_there newest) (releases_index_there newest) refl blind alike old.now.trees new.now.trees row r s.releases put refl fit (holds.rows in_releases) in
    record {
      schema = it.schema_is;
      sound = it.sound;
      rows = with_releases old.now.trees new.now.trees s (add_row release_key r s.releases) holds.rows it.applies.tables
          (adds_by_columns release_cells release_key ReleaseFits releases_table old.now.trees new.now.trees row r s.releases put refl fit free (holds.rows in_releases));
    }

-- ---- UPDATE

-- the rowid, and the columns of the row with another at the end
abbrev use_up_columns : List Term
use_up_columns =
    col 1 0 ∷ col 1 0 ∷ col 1 1 ∷ col 1 2 ∷ col 1 3 ∷ col 1 4 ∷ col 1 5 ∷ col 1 6 ∷ col 1 7 ∷ col 1 8 ∷ col 1 9 ∷ col 1 10 ∷ col 1 11 ∷ col 1 12 ∷ col 1 13 ∷ col 1 14 ∷ lit (Int (pos 1)) ∷ []

pub use_up_is : (command_of (understood bank_schema use_up_text) ≡ Update 13 (record { lets = []; body = pick 21 by_two use_up_columns })) × IsPlain (understood bank_schema use_up_text)
unfolding understood everything
use_up_is = (refl, (refl, refl))

used_casts : (v : Value) (x : Release) → all_but_rowid (cast_row releases_table (v ∷ release_cells (used_up x))) ≡ release_cells (used_up x)
used_casts v x =
    rw (
      cast_int (pos x.user),
      cast_int (pos x.number),
      cast_int (pos x.giver),
      cast_int (pos x.branch),
      cast_int (pos x.day),
      cast_int (pos (number_of x.operation.form)),
      cast_int (slice_index_or x.operation.members 0 (pos 0)),
      cast_int (slice_index_or x.operation.members 1 (pos 0)),
      cast_int (slice_index_or x.operation.members 2 (pos 0)),
      cast_int (slice_index_or x.operation.members 3 (pos 0)),
      cast_int (slice_index_or x.operation.members 4 (pos 0)),
      cast_int (slice_index_or x.operation.members 5 (pos 0)),
      cast_int (slice_index_or x.operation.members 6 (pos 0)),
      cast_int (slice_index_or x.operation.members 7 (pos 0)),
      cast_int (pos 1),
    ) refl

-- the row that an UPDATE makes of that of the release
made : (params r : Row) (x : Release) → all_but_rowid r ≡ release_cells x
    → all_but_rowid (cast_row releases_table (drop 1 (output (pick 21 by_two use_up_columns) (params ∷ r ∷ [])).1)) ≡ release_cells (used_up x)
made params [] x is = absurd cc
made params (v ∷ r) x is = ap (λ c. all_but_rowid (cast_row releases_table (drop 1 (output (pick 21 by_two use_up_columns) (params ∷ (v ∷ c) ∷ [])).1))) is ∙ used_casts v x

still_fits : (x : Release) → ReleaseFits x → ReleaseFits (used_up x)
still_fits x fit = record { number = fit.number; members = fit.members }

pub uses_up : (old new : State) (s : Sheets) (k : ReleaseKey) (count : ℕ) → k.number < 2 ^ 32 → HoldsTables old.now s → Executes use_up_text (Int (pos k.user) ∷ Int (pos k.number) ∷ []) old new (Ok count)
    → HoldsTables new.now (used_sheets k s)
uses_up old new s k count small holds h =
    let params = Int (pos k.user) ∷ Int (pos k.number) ∷ [] in
    let it = changes_row all_but_rowid (λ c. Null ∷ c) release_cells release_key ReleaseFits 13 releases_table (λ db. refl) by_two use_up_columns use_up_text params (release_number k.user k.number) used_up
    (λ x. refl) still_fits use_up_is.0 use_up_is.1 refl (λ r. (release_reads params r).0) (λ x fit. two_equal x.user x.number k.user k.number ∙ by_number k.user k.number small x fit) (λ r. refl)
    (made params) (λ olds news. nothing_set_off 0 21 refl olds news) old new s.releases count holds.schema (holds.rows in_releases) h in
    record {
      schema = it.schema;
      sound = it.sound;
      rows = with_releases old.now.trees new.now.trees s (change_rows release_key (release_number k.user k.number) used_up s.releases) holds.rows it.others it.rows;
    }
