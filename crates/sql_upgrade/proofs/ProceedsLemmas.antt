-- Steps one after another inside a transaction, on a connection that may be shut.
use Rattle.std.proofs.Common.{ℕ, List, Ok, Err, Result, IsTrue, OnOk}
use Rattle.sqlite.specs.Effect.{Database}
use Rattle.sqlite.specs.Schema.{Schema}
use Rattle.sqlite.specs.State.{HasCleanDisk, KeepsCommit, State}
use Rattle.sqlite.specs.Table.{Table}
use Rattle.sql_schema.proofs.StepLemmas.{early, kept_then, ok_weaker}
use Rattle.sql_schema.specs.Steps.{LeavesNone}
use Rattle.sql_create.specs.Goes.{Goes}
use Rattle.sql_create.proofs.GoesLemmas.{Ran, RanBy}
use Rattle.sql_upgrade.specs.Left.{HasSchema}
use Rattle.sql_upgrade.specs.Proceeds.{Proceeds}
use Rattle.sql_upgrade.proofs.DropLemmas.{IsRemoval, removes}

-- a step that went through
abbrev pub ProceededBy : State → State → (Database → Type 0) → (Database → Type 0) → Type 0
ProceededBy old new From To =
    HasCleanDisk new → IsTrue old.in_transaction → (IsTrue old.is_open → From old.now) → (IsTrue old.is_open × IsTrue new.in_transaction × To new.now) × KeepsCommit old new

-- another after it, which asks nothing of a connection that is shut
pub proceeds_on : {X E : Type 0} (old mid new : State) (From Via To : Database → Type 0) (result : Result X E) → ProceededBy old mid From Via → LeavesNone mid new → Goes mid new Via To result → Proceeds old new From To result
proceeds_on old mid new From Via To result first over second clean inside from =
    let one = first (early mid new _ over clean) inside from in
    let two = second clean one.0.1 one.0.2 in
    (ok_weaker result _ _ (λ h. (one.0.0, h.0, h.1)) two.0, kept_then old mid new one.1 two.1)

-- another of those that take tables away
pub takes_then : {X E : Type 0} {old mid new : State} {before via : Schema} (after : Schema) (result : Result X E) → ProceededBy old mid (HasSchema before) (HasSchema via) → LeavesNone mid new
    → Proceeds mid new (HasSchema via) (HasSchema after) result → Proceeds old new (HasSchema before) (HasSchema after) result
takes_then {old = old} {mid = mid} {new = new} after result first over second clean inside from =
    let one = first (early mid new _ over clean) inside from in
    let two = second clean one.0.1 (λ _. one.0.2) in
    (ok_weaker result _ _ (λ h. (one.0.0, h.1, h.2)) two.0, kept_then old mid new one.1 two.1)

pub taken_then : {old mid new : State} {before via after : Schema} → ProceededBy old mid (HasSchema before) (HasSchema via) → LeavesNone mid new → ProceededBy mid new (HasSchema via) (HasSchema after)
    → ProceededBy old new (HasSchema before) (HasSchema after)
taken_then {old = old} {mid = mid} {new = new} first over second clean inside from =
    let one = first (early mid new _ over clean) inside from in
    let two = second clean one.0.1 (λ _. one.0.2) in
    ((one.0.0, two.0.1, two.0.2), kept_then old mid new one.1 two.1)

-- ---- tables that are taken away

-- what is known of a text that was run
abbrev pub Opened : {X E : Type 0} → State → State → Result X E → Type 0
Opened old new result = HasCleanDisk new → IsTrue old.in_transaction → OnOk result (IsTrue old.is_open)

both_ok : {A E : Type 0} (r : Result A E) (P Q R : Type 0) → (P → Q → R) → OnOk r P → OnOk r Q → OnOk r R
both_ok (Ok x) P Q R f p q = f p q
both_ok (Err e) P Q R f p q = tt

module _ {text : List ℕ} {at : ℕ} {table : Table} {before after : Schema} (is : IsRemoval text at table before after) {old new : State} where
  pub takes : {X E : Type 0} (result : Result X E) → Ran old new text result → Opened old new result → Proceeds old new (HasSchema before) (HasSchema after) result
  takes result ran opened clean inside has =
      let it = ran clean inside in
      (both_ok result _ _ _ (λ is_open h. (is_open, h.0, (removes text at table before after is old new h.1 (has is_open) h.2).0)) (opened clean inside) it.0, it.1)

  pub taken : RanBy old new text → (HasCleanDisk new → IsTrue old.in_transaction → IsTrue old.is_open) → ProceededBy old new (HasSchema before) (HasSchema after)
  taken ran opened clean inside has =
      let it = ran clean inside in
      let is_open = opened clean inside in
      ((is_open, it.0.0, (removes text at table before after is old new it.0.1 (has is_open) it.0.2).0), it.1)
