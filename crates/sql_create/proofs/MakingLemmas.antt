-- A bank that is made, from the first table to the last row.
use Rattle.std.specs.Borrow.{MutBor}
use Rattle.std.proofs.Common.{◌≡◌, ◌∙◌, ℕ, Result, ap, subst, sym}
use Rattle.sqlite.specs.Effect.{Database}
use Rattle.sqlite.specs.Held.{Held, state}
use Rattle.sqlite.specs.State.{State}
use Rattle.sqlite.specs.Tree.{Trees}
use Rattle.sqlite_trees.specs.declared.store.Store.{Ghosts}
use Rattle.bank_books.specs.WorldLists.{WorldLists}
use Rattle.book_kept.specs.Keepable.{IsKeepable}
use Rattle.sql_schema.specs.Held.{AreOfWorld, HoldsBank, HoldsTables, HoldsWorld}
use Rattle.sql_schema.specs.Schema.{bank_schema}
use Rattle.sql_schema.specs.Steps.{Frame, Step}
use Rattle.sql_schema.proofs.StepLemmas.{ok_weaker}
use Rattle.sql_schema.proofs.WorldLemmas.{world_of}
use Rattle.sql_create.specs.Blank.{IsBlank, bare, no_schema}
use Rattle.sql_create.specs.Filled.{filled}
use Rattle.sql_create.specs.Goes.{Goes}
use Rattle.sql_create.specs.Made.{IsKeptAs}
use Rattle.sql_create.proofs.FilledLemmas.{filled_is}
use Rattle.sql_create.proofs.GoesLemmas.{WentBy, goes_then, went_then}
use Rattle.store_sql.proofs.WorldLemmas.{same_world}

pub bank_made : {S X E : Type 0} {store : Ghosts S} {b c d : MutBor (Held S)} {old : State} {version : ℕ} (w : WorldLists) (result : Result X E) → version ≡ w.version → IsKeepable w
    → WentBy old (state store b.now) (IsBlank no_schema) (IsBlank bank_schema) → Frame store b c → WentBy (state store b.now) (state store c.now) (IsBlank bank_schema) (λ db. HoldsTables db (bare version))
    → Step store c d (filled w) result → Goes old (state store d.now) (IsBlank no_schema) (λ db. HoldsWorld db w) result
bank_made {store = store} {b = b} {c = c} {d = d} {old = old} w result same can tables over row rows =
    let tabled = state store b.now in
    let begun = state store c.now in
    let new = state store d.now in
    goes_then old begun new (IsBlank no_schema) (λ db. HoldsTables db (bare w.version)) (λ db. HoldsWorld db w) result
    (went_then old tabled begun (IsBlank no_schema) (IsBlank bank_schema) (λ db. HoldsTables db (bare w.version)) tables over.survives
    (subst (λ v. WentBy tabled begun (IsBlank bank_schema) (λ db. HoldsTables db (bare v))) same row))
    rows.survives
    (λ clean inside holds.
    let it = rows.steps clean inside (bare w.version) holds in
    (ok_weaker result _ _ (λ h. (h.0, world_of new.now w can (subst (HoldsTables new.now) (filled_is w can) h.1))) it.0, it.1))

-- An open connection leaves after a crash what was committed last.
pub kept_as : (s : State) (w : WorldLists) → HoldsBank s w → ((trees : Trees) → s.may_leave trees → trees ≡ s.committed.trees) → IsKeptAs s w
kept_as s w holds settled =
    let durable : (trees : Trees) → s.may_leave trees → AreOfWorld w trees =
    λ trees may. subst (AreOfWorld w) (sym (settled trees may ∙ ap (λ (d : Database). d.trees) holds.settled)) holds.now.world in
    record {
      holds = holds;
      only = λ other bank. same_world other w s.now.trees bank.now.world holds.now.world;
      durable = durable;
      alone = λ left (trees, may, of). same_world left w trees of (durable trees may);
    }
