-- What the text that takes a table away makes of a schema, and of the tables that are left.
use Rattle.std.proofs.Common.{◌≡◌, ◌⊎◌, inl, inr, None, Some, ℕ, List, [], codes, slice_get, Bool, true, false, Ok, Err, Result, Option, MatchBool, if◌then◌else◌, refl, sym, ap, subst, ◌∙◌}
use Rattle.sqlite.specs.Change.{without_table, KeepsRows}
use Rattle.sqlite.specs.Command.TheVariants.{DropTable}
use Rattle.sqlite.specs.Does.{AtPlace, Drops, Tally, UncountsIn, is_acted_on}
use Rattle.sqlite.specs.Rows.{Task, sequence}
use Rattle.sqlite.specs.declared.error.Error.{Error}
use Rattle.sqlite.specs.Effect.{Database}
use Rattle.sqlite.specs.Listing.{understood}
use Rattle.sqlite.specs.Schema.{Schema}
use Rattle.sqlite.specs.State.{Executes, State, Writes, mode_of}
use Rattle.sqlite.specs.Table.{Table}
use Rattle.sqlite.proofs.Callers.{IsPlain, command_of, runs_as, statement_of}
use Rattle.sqlite_schema.specs.declared.schema.Keys.TheVariants.{Enforced}
use Rattle.sqlite_tied.specs.Compute.{everything}
use Rattle.sql_schema.specs.declared.edition.Edition.{Edition}
use Rattle.sql_schema.specs.declared.edition.Edition.TheVariants.{First, Second, Third}
use Rattle.sql_upgrade.specs.Left.{HasSchema, left, triples_text}
use Rattle.sql_schema.specs.Schema.{accounts_table, bank_table, branches_table, certifiers_table, entries_table, lines_table, members_table, proofs_table, relations_table, releases_table, sets_table, tellers_table, triples_table_of, users_table}

-- Where the schema is this, the text is one command that takes this table away, no key of another table acts on its rows, and then the
-- schema is that.
pub record IsRemoval (text : List ℕ) (at : ℕ) (table : Table) (before after : Schema) : Type 0 where
  pub command : command_of (understood before text) ≡ DropTable at
  pub whole : statement_of text (understood before text) ≡ text
  pub plain : IsPlain (understood before text)
  pub named : slice_get before.tables at ≡ Some table
  pub alone : is_acted_on before Enforced table ≡ false
  pub uncounted : table.is_counted ≡ false
  pub after_is : without_table before table.tree ≡ after

pub releases_removed : (e : Edition) → IsRemoval (codes "DROP TABLE releases") 13 releases_table (left e 14 9 0) (left e 13 8 0)
unfolding understood everything
releases_removed First = record { command = refl; whole = refl; plain = (refl, refl); named = refl; alone = refl; uncounted = refl; after_is = refl }
releases_removed Second = record { command = refl; whole = refl; plain = (refl, refl); named = refl; alone = refl; uncounted = refl; after_is = refl }
releases_removed Third = record { command = refl; whole = refl; plain = (refl, refl); named = refl; alone = refl; uncounted = refl; after_is = refl }

pub proofs_removed : (e : Edition) → IsRemoval (codes "DROP TABLE proofs") 12 proofs_table (left e 13 8 0) (left e 12 7 0)
unfolding understood everything
proofs_removed First = record { command = refl; whole = refl; plain = (refl, refl); named = refl; alone = refl; uncounted = refl; after_is = refl }
proofs_removed Second = record { command = refl; whole = refl; plain = (refl, refl); named = refl; alone = refl; uncounted = refl; after_is = refl }
proofs_removed Third = record { command = refl; whole = refl; plain = (refl, refl); named = refl; alone = refl; uncounted = refl; after_is = refl }

pub lines_removed : (e : Edition) → IsRemoval (codes "DROP TABLE lines") 11 lines_table (left e 12 7 0) (left e 11 6 0)
unfolding understood everything
lines_removed First = record { command = refl; whole = refl; plain = (refl, refl); named = refl; alone = refl; uncounted = refl; after_is = refl }
lines_removed Second = record { command = refl; whole = refl; plain = (refl, refl); named = refl; alone = refl; uncounted = refl; after_is = refl }
lines_removed Third = record { command = refl; whole = refl; plain = (refl, refl); named = refl; alone = refl; uncounted = refl; after_is = refl }

pub entries_removed : (e : Edition) → IsRemoval (codes "DROP TABLE entries") 10 entries_table (left e 11 6 0) (left e 10 4 1)
unfolding understood everything
entries_removed First = record { command = refl; whole = refl; plain = (refl, refl); named = refl; alone = refl; uncounted = refl; after_is = refl }
entries_removed Second = record { command = refl; whole = refl; plain = (refl, refl); named = refl; alone = refl; uncounted = refl; after_is = refl }
entries_removed Third = record { command = refl; whole = refl; plain = (refl, refl); named = refl; alone = refl; uncounted = refl; after_is = refl }

pub accounts_removed : (e : Edition) → IsRemoval (codes "DROP TABLE accounts") 9 accounts_table (left e 10 4 1) (left e 9 4 1)
unfolding understood everything
accounts_removed First = record { command = refl; whole = refl; plain = (refl, refl); named = refl; alone = refl; uncounted = refl; after_is = refl }
accounts_removed Second = record { command = refl; whole = refl; plain = (refl, refl); named = refl; alone = refl; uncounted = refl; after_is = refl }
accounts_removed Third = record { command = refl; whole = refl; plain = (refl, refl); named = refl; alone = refl; uncounted = refl; after_is = refl }

pub tellers_removed : (e : Edition) → IsRemoval (codes "DROP TABLE tellers") 8 tellers_table (left e 9 4 1) (left e 8 4 2)
unfolding understood everything
tellers_removed First = record { command = refl; whole = refl; plain = (refl, refl); named = refl; alone = refl; uncounted = refl; after_is = refl }
tellers_removed Second = record { command = refl; whole = refl; plain = (refl, refl); named = refl; alone = refl; uncounted = refl; after_is = refl }
tellers_removed Third = record { command = refl; whole = refl; plain = (refl, refl); named = refl; alone = refl; uncounted = refl; after_is = refl }

pub branches_removed : (e : Edition) → IsRemoval (codes "DROP TABLE branches") 7 branches_table (left e 8 4 2) (left e 7 4 2)
unfolding understood everything
branches_removed First = record { command = refl; whole = refl; plain = (refl, refl); named = refl; alone = refl; uncounted = refl; after_is = refl }
branches_removed Second = record { command = refl; whole = refl; plain = (refl, refl); named = refl; alone = refl; uncounted = refl; after_is = refl }
branches_removed Third = record { command = refl; whole = refl; plain = (refl, refl); named = refl; alone = refl; uncounted = refl; after_is = refl }

pub certifiers_removed : (e : Edition) → IsRemoval (codes "DROP TABLE certifiers") 6 certifiers_table (left e 7 4 2) (left e 6 3 2)
unfolding understood everything
certifiers_removed First = record { command = refl; whole = refl; plain = (refl, refl); named = refl; alone = refl; uncounted = refl; after_is = refl }
certifiers_removed Second = record { command = refl; whole = refl; plain = (refl, refl); named = refl; alone = refl; uncounted = refl; after_is = refl }
certifiers_removed Third = record { command = refl; whole = refl; plain = (refl, refl); named = refl; alone = refl; uncounted = refl; after_is = refl }

pub triples_removed : (e : Edition) → IsRemoval (triples_text e) 5 (triples_table_of e) (left e 6 3 2) (left e 5 2 2)
unfolding understood everything
triples_removed First = record { command = refl; whole = refl; plain = (refl, refl); named = refl; alone = refl; uncounted = refl; after_is = refl }
triples_removed Second = record { command = refl; whole = refl; plain = (refl, refl); named = refl; alone = refl; uncounted = refl; after_is = refl }
triples_removed Third = record { command = refl; whole = refl; plain = (refl, refl); named = refl; alone = refl; uncounted = refl; after_is = refl }

pub relations_removed : (e : Edition) → IsRemoval (codes "DROP TABLE relations") 4 relations_table (left e 5 2 2) (left e 4 1 2)
unfolding understood everything
relations_removed First = record { command = refl; whole = refl; plain = (refl, refl); named = refl; alone = refl; uncounted = refl; after_is = refl }
relations_removed Second = record { command = refl; whole = refl; plain = (refl, refl); named = refl; alone = refl; uncounted = refl; after_is = refl }
relations_removed Third = record { command = refl; whole = refl; plain = (refl, refl); named = refl; alone = refl; uncounted = refl; after_is = refl }

pub members_removed : (e : Edition) → IsRemoval (codes "DROP TABLE members") 3 members_table (left e 4 1 2) (left e 3 0 2)
unfolding understood everything
members_removed First = record { command = refl; whole = refl; plain = (refl, refl); named = refl; alone = refl; uncounted = refl; after_is = refl }
members_removed Second = record { command = refl; whole = refl; plain = (refl, refl); named = refl; alone = refl; uncounted = refl; after_is = refl }
members_removed Third = record { command = refl; whole = refl; plain = (refl, refl); named = refl; alone = refl; uncounted = refl; after_is = refl }

pub sets_removed : (e : Edition) → IsRemoval (codes "DROP TABLE sets") 2 sets_table (left e 3 0 2) (left e 2 0 2)
unfolding understood everything
sets_removed First = record { command = refl; whole = refl; plain = (refl, refl); named = refl; alone = refl; uncounted = refl; after_is = refl }
sets_removed Second = record { command = refl; whole = refl; plain = (refl, refl); named = refl; alone = refl; uncounted = refl; after_is = refl }
sets_removed Third = record { command = refl; whole = refl; plain = (refl, refl); named = refl; alone = refl; uncounted = refl; after_is = refl }

pub users_removed : (e : Edition) → IsRemoval (codes "DROP TABLE users") 1 users_table (left e 2 0 2) (left e 1 0 2)
unfolding understood everything
users_removed First = record { command = refl; whole = refl; plain = (refl, refl); named = refl; alone = refl; uncounted = refl; after_is = refl }
users_removed Second = record { command = refl; whole = refl; plain = (refl, refl); named = refl; alone = refl; uncounted = refl; after_is = refl }
users_removed Third = record { command = refl; whole = refl; plain = (refl, refl); named = refl; alone = refl; uncounted = refl; after_is = refl }

pub bank_removed : (e : Edition) → IsRemoval (codes "DROP TABLE bank") 0 bank_table (left e 1 0 2) (left e 0 0 2)
unfolding understood everything
bank_removed First = record { command = refl; whole = refl; plain = (refl, refl); named = refl; alone = refl; uncounted = refl; after_is = refl }
bank_removed Second = record { command = refl; whole = refl; plain = (refl, refl); named = refl; alone = refl; uncounted = refl; after_is = refl }
bank_removed Third = record { command = refl; whole = refl; plain = (refl, refl); named = refl; alone = refl; uncounted = refl; after_is = refl }

went : {B E R : Type 0} {b : B} {Stops : E → Type 0} → ((stop : E) × Stops stop × (Ok b ≡ Err stop)) ⊎ R → R
went (inl stopped) = absurd (let e = stopped.2 in cc)
went (inr on) = on

same_value : {B E : Type 0} {a b : B} → ◌≡◌ {A = Result B E} (Ok a) (Ok b) → a ≡ b
same_value e = cc

not_taken : (P Q : Type 0) (b : Bool) → b ≡ false → MatchBool b P Q → Q
not_taken P Q true is h = absurd cc
not_taken P Q false is h = h

-- the tables that are left keep their rows, too
pub removes : (text : List ℕ) (at : ℕ) (table : Table) (before after : Schema) → IsRemoval text at table before after → (old new : State) (count : ℕ) → HasSchema before old.now → Executes text [] old new (Ok count)
    → HasSchema after new.now × KeepsRows after.tables old.now.trees new.now.trees
removes text at table before after is old new count has h =
    let w = subst (λ t. Writes old new None (DropTable at) t [] count) is.whole (runs_as text [] old new before has (DropTable at) is.command is.plain count h) in
    let there : slice_get old.now.schema.tables at ≡ Some table = ap (λ (s : Schema). slice_get s.tables at) has ∙ is.named in
    let quiet : is_acted_on old.now.schema Enforced table ≡ false = ap (λ s. is_acted_on s Enforced table) has ∙ is.alone in
    let out : Result (Tally × Database) (Option Error) = Ok (w.tally, new.now) in
    let task : Table → Task = λ t. record { limit = old.step_limit; keys = Enforced; schema = old.now.schema; table = t; params = [] } in
    let done = subst (λ slot. AtPlace (λ t. Drops (task t) (mode_of old) old.now.trees) slot out) there w.changed in
    let emptied = went done in
    let kept : emptied.0 ≡ old.now.trees = same_value (not_taken _ _ (is_acted_on old.now.schema Enforced table) quiet emptied.1) in
    let counted = went emptied.2 in
    let uncounted : counted.0 ≡ emptied.0 = same_value (subst (λ b. UncountsIn (task table) emptied.0 (if b then sequence old.now.schema else None) (Ok counted.0)) is.uncounted counted.1) in
    let tested = went counted.2 in
    let left = went tested.2 in
    let now : new.now ≡ left.0 = ap (λ (p : Tally × Database). p.1) (same_value left.2) in
    let as_before : counted.0 ≡ old.now.trees = uncounted ∙ kept in
    let then_is = ap (λ s. without_table s table.tree) has ∙ is.after_is in
    let rows = subst (λ (s : Schema). KeepsRows s.tables counted.0 left.0.trees) then_is left.1.1 in
    (ap (λ (d : Database). d.schema) now ∙ left.1.0 ∙ then_is, subst (λ (d : Database). KeepsRows after.tables old.now.trees d.trees) (sym now) (subst (λ t. KeepsRows after.tables t left.0.trees) as_before rows))
