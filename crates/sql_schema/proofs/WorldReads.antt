-- Reads of tables as reads of Worlds.
use Rattle.std.proofs.Common.{◌≡◌, Result, Ok, Err, IsTrue, refl, subst}
use Rattle.std.specs.Prelude.{IfOk}
use Rattle.std.proofs.lemmas.Result.{IfOk-weaker}
use Rattle.sqlite.specs.State.{HasCleanDisk, State}
use Rattle.bank_books.specs.WorldLists.{WorldLists}
use Rattle.book_kept.specs.Keepable.{IsKeepable}
use Rattle.book_kept.specs.Sheets.{Sheets, sheets_of}
use Rattle.sql_schema.specs.Held.{HoldsTables}
use Rattle.sql_schema.specs.Steps.{LeavesNone, Stays, Steps, WasOpen}
use Rattle.sql_schema.proofs.WorldLemmas.{moves_nothing, tables_of}
use Rattle.sql_schema.proofs.StepLemmas.{always_ok}
use Rattle.sql_schema.specs.Reads.{ReadsWorld}

-- a read of the tables is one of the World, where what it finds among the rows is so of the World
module _ {A E : Type 0} (old new : State) (finds : Sheets → A → Type 0) (says : WorldLists → A → Type 0) (result : Result A E)
    (means : (w : WorldLists) → IsKeepable w → (a : A) → finds (sheets_of w) a → says w a) where
  pub reads_inside : (HasCleanDisk new → IsTrue old.in_transaction → (s : Sheets) → HoldsTables old.now s → IfOk result (finds s))
      → Stays old new result → WasOpen old new result → LeavesNone old new → ReadsWorld old new says result
  reads_inside found steps stays survives = record {
    stated = λ clean inside w holds. IfOk-weaker result _ _ (means w holds.world.keepable) (found clean inside (sheets_of w) (tables_of old.now w holds));
    moves = moves_nothing old new result steps;
    stays_open = stays;
    survives = survives;
  }

  pub reads_world : (HasCleanDisk new → (s : Sheets) → HoldsTables old.now s → IfOk result (finds s))
      → Stays old new result → WasOpen old new result → LeavesNone old new → ReadsWorld old new says result
  reads_world found = reads_inside (λ clean inside. found clean)

-- what is made of what was read says something of a World
pub reads_made : {A E : Type 0} (old new : State) (finds : Sheets → Type 0) (says : WorldLists → A → Type 0) (made : A)
    → ((w : WorldLists) → IsKeepable w → finds (sheets_of w) → says w made) → (HasCleanDisk new → (s : Sheets) → HoldsTables old.now s → finds s)
    → Steps {X = A} {E = E} old new (λ s. s) (Ok made) → WasOpen {X = A} {E = E} old new (Ok made) → LeavesNone old new → ReadsWorld {A = A} {E = E} old new says (Ok made)
reads_made old new finds says made means found =
    reads_world old new (λ s a. finds s × (made ≡ a)) says (Ok made) (λ w can a it. subst (says w) it.1 (means w can it.0)) (λ clean s holds. (found clean s holds, refl))

-- the same, where it may not be made
pub reads_then : {A E : Type 0} (old new : State) (finds : Sheets → Type 0) (says : WorldLists → A → Type 0) (result : Result A E)
    → ((w : WorldLists) → IsKeepable w → finds (sheets_of w) → IfOk result (says w)) → (HasCleanDisk new → (s : Sheets) → HoldsTables old.now s → finds s)
    → Steps {X = Unit {0}} {E = E} old new (λ s. s) (Ok tt) → WasOpen {X = Unit {0}} {E = E} old new (Ok tt) → LeavesNone old new → ReadsWorld old new says result
reads_then {A} {E} old new finds says result means found steps stays survives = record {
  stated = λ clean inside w holds. means w holds.world.keepable (found clean (sheets_of w) (tables_of old.now w holds));
  moves = moves_nothing old new result (λ clean inside s holds. let it = steps clean inside s holds in (always_ok result _ it.0, it.1));
  stays_open = λ clean. let it = stays clean in (always_ok result _ it.0, it.1);
  survives = survives;
}

-- a fault that is answered says nothing of a World
pub reads_none : {A E : Type 0} (old new : State) (says : WorldLists → A → Type 0) (fault : E)
    → Steps {X = A} {E = E} old new (λ s. s) (Err fault) → WasOpen {X = A} {E = E} old new (Err fault) → LeavesNone old new → ReadsWorld {A = A} {E = E} old new says (Err fault)
reads_none old new says fault = reads_world old new (λ _ _. ⊥) says (Err fault) (λ w can _ none. absurd none) (λ clean s holds. tt)
