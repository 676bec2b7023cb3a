-- What the text of a definition makes of a schema.
use Rattle.std.proofs.Common.{◌≡◌, ◌⊎◌, inl, inr, None, ℕ, List, [], ◌∷◌, ◌++◌, codes, false, Ok, Err, Result, Some, refl, sym, ap, subst, ◌∙◌}
use Rattle.std.specs.List.{AllByRecursion}
use Rattle.std.specs.Prelude.{slice_get}
use Rattle.sqlite.specs.Command.TheVariants.{CreateIndex, CreateTable}
use Rattle.sqlite.specs.Compile.{index_defined_by, table_defined_by}
use Rattle.sqlite.specs.Change.{created, indexed, next_tree}
use Rattle.sqlite.specs.Does.{Tally, lacks_sequence}
use Rattle.sqlite.specs.Effect.{Database}
use Rattle.sqlite.specs.Listing.{understood}
use Rattle.sqlite.specs.Schema.{Schema}
use Rattle.sqlite.specs.State.{Executes, State, Writes}
use Rattle.sqlite.specs.Table.{Table}
use Rattle.sqlite.specs.Tree.{Trees}
use Rattle.sqlite.proofs.Callers.{IsPlain, command_of, runs_as, statement_of}
use Rattle.sqlite_schema.specs.declared.schema.Index.{Index}
use Rattle.sqlite_tied.specs.Compute.{everything}
use Rattle.sql_create.specs.Blank.{IsBlank, begun}
use Rattle.sql_schema.specs.CreateTexts.{create_accounts, create_bank, create_branches, create_certifiers, create_entries, create_entries_index, create_lines, create_members, create_proofs, create_relations, create_releases, create_sets, create_slip_counts, create_slips, create_tellers, create_tellers_index, create_grants, create_users}
use Rattle.sql_schema.specs.Schema.{accounts_table, bank_table, branches_table, certifiers_table, entries_table, lines_table, look_up_index, members_table, proofs_table, relations_table, releases_table, sets_table, slip_counts_table, slips_table, tellers_table, grants_table, users_table}

-- where the schema is this, the text is one command that makes a table, by all of it, and then the schema is that
pub record IsDefinition (text : List ℕ) (table : Table) (before after : Schema) : Type 0 where
  pub command : command_of (understood before text) ≡ CreateTable
  pub whole : statement_of text (understood before text) ≡ text
  pub plain : IsPlain (understood before text)
  pub defined : table_defined_by text ≡ Ok table
  pub uncounted : lacks_sequence after ≡ false
  pub after_is : created before table ≡ after

abbrev unplaced : Table → Table
unplaced t = record t { tree = 0 }

pub bank_defined : IsDefinition create_bank (unplaced bank_table) (begun 0 0) (begun 1 0)
unfolding understood everything Rattle.std.specs.Fmt.digits
bank_defined = record { command = refl; whole = refl; plain = (refl, refl); defined = refl; uncounted = refl; after_is = refl }

pub users_defined : IsDefinition create_users (unplaced users_table) (begun 1 0) (begun 2 0)
unfolding understood everything Rattle.std.specs.Fmt.digits
users_defined = record { command = refl; whole = refl; plain = (refl, refl); defined = refl; uncounted = refl; after_is = refl }

pub sets_defined : IsDefinition create_sets (unplaced sets_table) (begun 2 0) (begun 3 0)
unfolding understood everything Rattle.std.specs.Fmt.digits
sets_defined = record { command = refl; whole = refl; plain = (refl, refl); defined = refl; uncounted = refl; after_is = refl }

pub members_defined : IsDefinition create_members (unplaced members_table) (begun 3 0) (begun 4 1)
unfolding understood everything Rattle.std.specs.Fmt.digits
members_defined = record { command = refl; whole = refl; plain = (refl, refl); defined = refl; uncounted = refl; after_is = refl }

pub relations_defined : IsDefinition create_relations (unplaced relations_table) (begun 4 1) (begun 5 2)
unfolding understood everything Rattle.std.specs.Fmt.digits
relations_defined = record { command = refl; whole = refl; plain = (refl, refl); defined = refl; uncounted = refl; after_is = refl }

pub grants_defined : IsDefinition create_grants (unplaced grants_table) (begun 5 2) (begun 6 3)
unfolding understood everything Rattle.std.specs.Fmt.digits
grants_defined = record { command = refl; whole = refl; plain = (refl, refl); defined = refl; uncounted = refl; after_is = refl }

pub certifiers_defined : IsDefinition create_certifiers (unplaced certifiers_table) (begun 6 3) (begun 7 4)
unfolding understood everything Rattle.std.specs.Fmt.digits
certifiers_defined = record { command = refl; whole = refl; plain = (refl, refl); defined = refl; uncounted = refl; after_is = refl }

pub branches_defined : IsDefinition create_branches (unplaced branches_table) (begun 7 4) (begun 8 4)
unfolding understood everything Rattle.std.specs.Fmt.digits
branches_defined = record { command = refl; whole = refl; plain = (refl, refl); defined = refl; uncounted = refl; after_is = refl }

pub tellers_defined : IsDefinition create_tellers (unplaced tellers_table) (begun 8 4) (begun 9 4)
unfolding understood everything Rattle.std.specs.Fmt.digits
tellers_defined = record { command = refl; whole = refl; plain = (refl, refl); defined = refl; uncounted = refl; after_is = refl }

pub accounts_defined : IsDefinition create_accounts (unplaced accounts_table) (begun 9 4) (begun 10 4)
unfolding understood everything Rattle.std.specs.Fmt.digits
accounts_defined = record { command = refl; whole = refl; plain = (refl, refl); defined = refl; uncounted = refl; after_is = refl }

pub entries_defined : IsDefinition create_entries (unplaced entries_table) (begun 10 4) (begun 11 6)
unfolding understood everything Rattle.std.specs.Fmt.digits
entries_defined = record { command = refl; whole = refl; plain = (refl, refl); defined = refl; uncounted = refl; after_is = refl }

pub lines_defined : IsDefinition create_lines (unplaced lines_table) (begun 11 6) (begun 12 7)
unfolding understood everything Rattle.std.specs.Fmt.digits
lines_defined = record { command = refl; whole = refl; plain = (refl, refl); defined = refl; uncounted = refl; after_is = refl }

pub proofs_defined : IsDefinition create_proofs (unplaced proofs_table) (begun 12 7) (begun 13 8)
unfolding understood everything Rattle.std.specs.Fmt.digits
proofs_defined = record { command = refl; whole = refl; plain = (refl, refl); defined = refl; uncounted = refl; after_is = refl }

pub releases_defined : IsDefinition create_releases (unplaced releases_table) (begun 13 8) (begun 14 9)
unfolding understood everything Rattle.std.specs.Fmt.digits
releases_defined = record { command = refl; whole = refl; plain = (refl, refl); defined = refl; uncounted = refl; after_is = refl }

pub slips_defined : IsDefinition create_slips (unplaced slips_table) (begun 14 11) (begun 15 12)
unfolding understood everything Rattle.std.specs.Fmt.digits
slips_defined = record { command = refl; whole = refl; plain = (refl, refl); defined = refl; uncounted = refl; after_is = refl }

pub slip_counts_defined : IsDefinition create_slip_counts (unplaced slip_counts_table) (begun 15 12) (begun 16 12)
unfolding understood everything Rattle.std.specs.Fmt.digits
slip_counts_defined = record { command = refl; whole = refl; plain = (refl, refl); defined = refl; uncounted = refl; after_is = refl }

-- where the schema is this, the text is one command that makes an index on the table at this place, by all of it, and then the schema is that
pub record IsIndexDefinition (text : List ℕ) (at : ℕ) (table : Table) (index : Index) (before after : Schema) : Type 0 where
  pub command : command_of (understood before text) ≡ CreateIndex at
  pub whole : statement_of text (understood before text) ≡ text
  pub plain : IsPlain (understood before text)
  pub placed : slice_get before.tables at ≡ Some table
  pub defined : index_defined_by table text ≡ Ok index
  pub after_is : indexed before table index ≡ after

pub entries_index_defined : IsIndexDefinition create_entries_index 10 entries_table (look_up_index (codes "entries_by_undoes") 0 14 (1 ∷ 12 ∷ [])) (begun 14 9) (begun 14 10)
unfolding understood everything Rattle.std.specs.Fmt.digits
entries_index_defined = record { command = refl; whole = refl; plain = (refl, refl); placed = refl; defined = refl; after_is = refl }

pub tellers_index_defined : IsIndexDefinition create_tellers_index 8 tellers_table (look_up_index (codes "tellers_by_branch") 0 12 (2 ∷ 0 ∷ [])) (begun 14 10) (begun 14 11)
unfolding understood everything Rattle.std.specs.Fmt.digits
tellers_index_defined = record { command = refl; whole = refl; plain = (refl, refl); placed = refl; defined = refl; after_is = refl }

went : {B E R : Type 0} {b : B} {Stops : E → Type 0} → ((stop : E) × Stops stop × (Ok b ≡ Err stop)) ⊎ R → R
went (inl stopped) = absurd (let e = stopped.2 in cc)
went (inr on) = on

same_value : {B E : Type 0} {a b : B} → ◌≡◌ {A = Result B E} (Ok a) (Ok b) → a ≡ b
same_value e = cc

all_last : {X : Type 0} (P : X → Type 0) (xs : List X) (x : X) → AllByRecursion P xs → P x → AllByRecursion P (xs ++ x ∷ [])
all_last P [] x all one = (one, tt)
all_last P (y ∷ xs) x all one = (all.0, all_last P xs x all.1 one)

-- tables that stay as they were stay empty
still_empty : (tables : List Table) (old new : Trees) → AllByRecursion (λ (t : Table). new t.tree ≡ old t.tree) tables → AllByRecursion (λ (t : Table). old t.tree ≡ []) tables
    → AllByRecursion (λ (t : Table). new t.tree ≡ []) tables
still_empty [] old new kept empty = tt
still_empty (t ∷ tables) old new kept empty = (kept.0 ∙ empty.0, still_empty tables old new kept.1 empty.1)

pub creates : (text : List ℕ) (table : Table) (schema after : Schema) → IsDefinition text table schema after → (old new : State) (count : ℕ) → IsBlank schema old.now → Executes text [] old new (Ok count) → IsBlank after new.now
creates text table schema next is old new count blank h =
    let w = subst (λ t. Writes old new None CreateTable t [] count) is.whole (runs_as text [] old new schema blank.schema_is CreateTable is.command is.plain count h) in
    let all = went w.changed in
    let first = went all.1 in
    let made = first.1 in
    let both : Ok made.table ≡ Ok table = sym made.defined ∙ is.defined in
    let same : made.table ≡ table = cc in
    let after : first.0.schema ≡ created schema table = made.is ∙ ap (λ s. created s made.table) blank.schema_is ∙ ap (created schema) same in
    let plain : lacks_sequence first.0.schema ≡ false = ap lacks_sequence (after ∙ is.after_is) ∙ is.uncounted in
    let now : new.now ≡ first.0 = ap (λ (p : Tally × Database). p.1) (same_value all.2) ∙ same_value (rw plain at first.2) in
    let kept = still_empty schema.tables old.now.trees first.0.trees (subst (λ (s : Schema). AllByRecursion (λ (t : Table). first.0.trees t.tree ≡ old.now.trees t.tree) s.tables) blank.schema_is made.others) blank.empty in
    let placed : Table = record table { tree = next_tree schema } in
    let none : first.0.trees (next_tree schema) ≡ [] = subst (λ s. first.0.trees (next_tree s) ≡ []) blank.schema_is made.empty in
    let empty = all_last (λ (t : Table). first.0.trees t.tree ≡ []) schema.tables placed kept none in
    record {
      schema_is = ap (λ (d : Database). d.schema) now ∙ after ∙ is.after_is;
      empty = subst (λ (d : Database). AllByRecursion (λ (t : Table). d.trees t.tree ≡ []) next.tables) (sym now)
          (subst (λ (s : Schema). AllByRecursion (λ (t : Table). first.0.trees t.tree ≡ []) s.tables) is.after_is empty);
    }

pub creates_index : (text : List ℕ) (at : ℕ) (table : Table) (index : Index) (schema after : Schema) → IsIndexDefinition text at table index schema after → (old new : State) (count : ℕ) → IsBlank schema old.now → Executes text [] old new (Ok count) → IsBlank after new.now
creates_index text at table index schema next is old new count blank h =
    let w = subst (λ t. Writes old new None (CreateIndex at) t [] count) is.whole (runs_as text [] old new schema blank.schema_is (CreateIndex at) is.command is.plain count h) in
    let all = went (rw (ap (λ (s : Schema). slice_get s.tables at) blank.schema_is ∙ is.placed) at w.changed) in
    let made = all.1 in
    let both : Ok made.index ≡ Ok index = sym made.defined ∙ is.defined in
    let same : made.index ≡ index = cc in
    let after : all.0.schema ≡ next = made.is ∙ ap (λ s. indexed s table made.index) blank.schema_is ∙ ap (indexed schema table) same ∙ is.after_is in
    let now : new.now ≡ all.0 = ap (λ (p : Tally × Database). p.1) (same_value all.2) in
    let kept = still_empty schema.tables old.now.trees all.0.trees (subst (λ (s : Schema). AllByRecursion (λ (t : Table). all.0.trees t.tree ≡ old.now.trees t.tree) s.tables) blank.schema_is made.rows) blank.empty in
    record {
      schema_is = ap (λ (d : Database). d.schema) now ∙ after;
      empty = subst (λ (d : Database). AllByRecursion (λ (t : Table). d.trees t.tree ≡ []) next.tables) (sym now)
          (subst (λ (s : Schema). AllByRecursion (λ (t : Table). all.0.trees t.tree ≡ []) s.tables) is.after_is kept);
    }
