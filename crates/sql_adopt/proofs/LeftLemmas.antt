-- What is left where a crash may leave nothing more than before.
use Rattle.std.proofs.Common.{◌≡◌, ◌∙◌, IsTrue, ap, refl, subst, sym}
use Rattle.sqlite.specs.Effect.{Database}
use Rattle.sqlite.specs.State.{HasCleanDisk, IsLive, State}
use Rattle.sqlite.specs.Tree.{Trees}
use Rattle.sqlite_schema.specs.declared.schema.Schema.{Schema}
use Rattle.sqlite_catalog.specs.Listing.{IsSound}
use Rattle.sql_schema.specs.Schema.{schema_of}
use Rattle.sql_schema.specs.Steps.{LeavesNone}
use Rattle.sql_schema.specs.declared.edition.Edition.{Edition}
use Rattle.sql_schema.proofs.StepLemmas.{survived}
use Rattle.sql_adopt.specs.Adopted.{IsBankFileIn, IsLeft}
use Rattle.sql_adopt.proofs.SchemaLemmas.{one_schema}

-- The trees of the last commit are among what a crash may leave, and it may leave no others of an open connection.
pub trees_kept : (old new : State) → LeavesNone old new → HasCleanDisk new → new.may_leave new.committed.trees → ((db : Trees) → old.may_leave db → db ≡ old.committed.trees) → new.committed.trees ≡ old.committed.trees
trees_kept old new over clean stays settled = settled new.committed.trees (survived old new over clean new.committed.trees stays)

-- The same trees list the same tables, so nothing was changed.
module _ (e : Edition) (old new : State) (file : IsBankFileIn e old) (was_open : IsTrue new.is_open → IsTrue old.is_open) (clean : IsTrue new.is_open → new.now ≡ new.committed)
    (trees : IsTrue new.is_open → new.committed.trees ≡ old.committed.trees) (was_live : IsLive old) (live : IsLive new) where
  same_commit : IsTrue new.is_open → new.committed ≡ old.committed
  same_commit is_open =
      let same = trees is_open in
      let there : IsSound (schema_of e) old.committed.trees = subst (λ (d : Database). IsSound (schema_of e) d.trees) (sym file.settled) (subst (λ (s : Schema). IsSound s old.now.trees) file.schema (was_live (was_open is_open)).0) in
      let here : IsSound new.committed.schema old.committed.trees = subst (IsSound new.committed.schema) same (live is_open).1 in
      let schema : new.committed.schema ≡ old.committed.schema = sym (one_schema (schema_of e) new.committed.schema old.committed.trees refl there here) ∙ sym file.schema ∙ ap (λ (d : Database). d.schema) (sym file.settled) in
      λ i. record { schema = schema i; trees = same i }

  pub left_with : IsLeft old new
  left_with = record { was_open = was_open; now = λ is_open. clean is_open ∙ same_commit is_open ∙ file.settled; settled = λ is_open. sym (clean is_open) }
