-- Steps one after another inside a transaction.
use Rattle.std.specs.Borrow.{MutBor}
use Rattle.std.proofs.Common.{◌≡◌, ◌++◌, ◌∷◌, ℕ, List, [], Result, Ok, IsTrue, OnOk, refl, subst}
use Rattle.sqlite.specs.Effect.{Database}
use Rattle.sqlite.specs.Held.{Held}
use Rattle.sqlite.specs.Schema.{Schema}
use Rattle.sqlite.specs.Table.{Table}
use Rattle.sqlite.specs.State.{Executes, HasCleanDisk, KeepsCommit, State}
use Rattle.sqlite_schema.specs.declared.schema.Index.{Index}
use Rattle.sqlite_trees.specs.declared.store.Store.{Ghosts}
use Rattle.book_kept.specs.Sheets.{Sheets}
use Rattle.sql_schema.specs.Steps.{LeavesNone, Step}
use Rattle.sql_schema.proofs.StepLemmas.{early, kept_then, ok_weaker}
use Rattle.sql_create.specs.Blank.{IsBlank}
use Rattle.sql_create.specs.Filled.{with_all}
use Rattle.sql_create.specs.Goes.{Goes}
use Rattle.sql_create.proofs.CreateLemmas.{IsDefinition, IsIndexDefinition, creates, creates_index}

-- a step that went through
abbrev pub WentBy : State → State → (Database → Type 0) → (Database → Type 0) → Type 0
WentBy old new From To = HasCleanDisk new → IsTrue old.in_transaction → From old.now → (IsTrue new.in_transaction × To new.now) × KeepsCommit old new

-- another after it
pub goes_then : {X E : Type 0} (old mid new : State) (From Via To : Database → Type 0) (result : Result X E) → WentBy old mid From Via → LeavesNone mid new → Goes mid new Via To result → Goes old new From To result
goes_then old mid new From Via To result first over second clean inside from =
    let one = first (early mid new _ over clean) inside from in
    let two = second clean one.0.0 one.0.1 in
    (two.0, kept_then old mid new one.1 two.1)

pub went_then : (old mid new : State) (From Via To : Database → Type 0) → WentBy old mid From Via → LeavesNone mid new → WentBy mid new Via To → WentBy old new From To
went_then old mid new From Via To first over second clean inside from =
    let one = first (early mid new _ over clean) inside from in
    let two = second clean one.0.0 one.0.1 in
    (two.0, kept_then old mid new one.1 two.1)

-- ---- tables that are made

-- one after another
pub makes_then : {X E : Type 0} {old mid new : State} {before via : Schema} (after : Schema) (result : Result X E) → WentBy old mid (IsBlank before) (IsBlank via) → LeavesNone mid new → Goes mid new (IsBlank via) (IsBlank after) result
    → Goes old new (IsBlank before) (IsBlank after) result
makes_then {old = old} {mid = mid} {new = new} {before = before} {via = via} after result = goes_then old mid new (IsBlank before) (IsBlank via) (IsBlank after) result

pub made_then : {old mid new : State} {before via after : Schema} → WentBy old mid (IsBlank before) (IsBlank via) → LeavesNone mid new → WentBy mid new (IsBlank via) (IsBlank after) → WentBy old new (IsBlank before) (IsBlank after)
made_then {old = old} {mid = mid} {new = new} {before = before} {via = via} {after = after} = went_then old mid new (IsBlank before) (IsBlank via) (IsBlank after)

-- the text was run
abbrev pub Ran : {X E : Type 0} → State → State → List ℕ → Result X E → Type 0
Ran old new text result = HasCleanDisk new → IsTrue old.in_transaction → OnOk result (IsTrue new.in_transaction × (count : ℕ) × Executes text [] old new (Ok count)) × KeepsCommit old new

abbrev pub RanBy : State → State → List ℕ → Type 0
RanBy old new text = HasCleanDisk new → IsTrue old.in_transaction → (IsTrue new.in_transaction × (count : ℕ) × Executes text [] old new (Ok count)) × KeepsCommit old new

module _ {text : List ℕ} {table : Table} {before after : Schema} (is : IsDefinition text table before after) {old new : State} where
  pub makes : {X E : Type 0} (result : Result X E) → Ran old new text result → Goes old new (IsBlank before) (IsBlank after) result
  makes result ran clean inside blank =
      let it = ran clean inside in
      (ok_weaker result _ _ (λ h. (h.0, creates text table before after is old new h.1 blank h.2)) it.0, it.1)

  pub made : RanBy old new text → WentBy old new (IsBlank before) (IsBlank after)
  made ran clean inside blank =
      let it = ran clean inside in
      ((it.0.0, creates text table before after is old new it.0.1 blank it.0.2), it.1)

module _ {text : List ℕ} {at : ℕ} {table : Table} {index : Index} {before after : Schema} (is : IsIndexDefinition text at table index before after) {old new : State} where
  pub makes_index : {X E : Type 0} (result : Result X E) → Ran old new text result → Goes old new (IsBlank before) (IsBlank after) result
  makes_index result ran clean inside blank =
      let it = ran clean inside in
      (ok_weaker result _ _ (λ h. (h.0, creates_index text at table index before after is old new h.1 blank h.2)) it.0, it.1)

  pub made_index : RanBy old new text → WentBy old new (IsBlank before) (IsBlank after)
  made_index ran clean inside blank =
      let it = ran clean inside in
      ((it.0.0, creates_index text at table index before after is old new it.0.1 blank it.0.2), it.1)

-- ---- rows that are written

-- a step by what it makes of the rows
pub step_as : {S X E : Type 0} {store : Ghosts S} {a b : MutBor (Held S)} {f g : Sheets → Sheets} {r : Result X E} → f ≡ g → Step store a b f r → Step store a b g r
step_as {store = store} {a = a} {b = b} {r = r} same = subst (λ after. Step store a b after r) same

pub with_last : {X : Type 0} (one : X → Sheets → Sheets) (xs : List X) (x : X) (s : Sheets) → with_all one (xs ++ x ∷ []) s ≡ one x (with_all one xs s)
with_last one [] x s = refl
with_last one (y ∷ xs) x s = with_last one xs x (one y s)
