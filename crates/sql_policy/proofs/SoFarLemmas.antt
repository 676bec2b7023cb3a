-- Rows that are read one after another, each by a statement of its own.
use Rattle.std.proofs.Common.{◌≡◌, ◌<◌, ◌≤◌, ◌+◌, ℕ, List, [], ◌∷◌, ◌++◌, map, take, length, get_or, IsTrue, sym, ap, ◌∙◌, Ok, Result}
use Rattle.std.proofs.lemmas.List.{map-append, take_all, take_more}
use Rattle.std.specs.Borrow.{MutBor}
use Rattle.money.specs.declared.fault.Fault.{Fault}
use Rattle.sqlite.specs.Held.{Held, state}
use Rattle.sqlite.specs.State.{HasCleanDisk, KeepsCommit}
use Rattle.sqlite_trees.specs.declared.store.Store.{Ghosts}
use Rattle.sql_schema.specs.Steps.{Frame, LeavesNone, Reads, Step}
use Rattle.sql_schema.proofs.StepChains.{read_step, stepped, then_step}
use Rattle.sql_schema.proofs.StepLemmas.{always_ok, early, kept_then}
use Rattle.sql_schema.proofs.TableNames.{State, Sheets, HoldsTables}

-- the tables hold what they held, and of that these rows were read
abbrev pub ReadSoFar : {Y : Type 0} → State → State → (Sheets → List Y) → List Y → Type 0
ReadSoFar first now rows_of rows =
    HasCleanDisk now → IsTrue first.in_transaction → (s : Sheets) → HoldsTables first.now s → (IsTrue now.in_transaction × HoldsTables now.now s × (rows ≡ rows_of s)) × KeepsCommit first now

module _ {X Y : Type 0} (first mid last : State) (made : Sheets → X → Y) (xs : List X) (i : ℕ) where
  pub one_read : (x : X) (y : Y) (ys zs : List Y) → i < length xs → x ≡ get_or xs i x → zs ≡ ys ++ y ∷ [] → LeavesNone mid last → ReadSoFar first mid (λ s. map (made s) (take i xs)) ys
      → (HasCleanDisk last → (s : Sheets) → HoldsTables mid.now s → y ≡ made s x)
      → (HasCleanDisk last → IsTrue mid.in_transaction → (s : Sheets) → HoldsTables mid.now s → (IsTrue last.in_transaction × HoldsTables last.now s) × KeepsCommit mid last)
      → ReadSoFar first last (λ s. map (made s) (take (i + 1) xs)) zs
  one_read x y ys zs below at is survives read found steps clean inside s holds =
      let before = read (early mid last _ survives clean) inside s holds in
      let step = steps clean before.0.0 s before.0.1 in (
        (
          step.0.0,
          step.0.1,
          is ∙ ap (λ l. l ++ y ∷ []) before.0.2 ∙ ap (λ z. map (made s) (take i xs) ++ z ∷ []) (found clean s before.0.1 ∙ ap (made s) at)
              ∙ sym (map-append (made s) (take i xs) (get_or xs i x ∷ [])) ∙ ap (map (made s)) (sym (take_more xs i x below)),
        ),
        kept_then first mid last before.1 step.1,
      )

pub every_read : {X Y : Type 0} (f : X → Y) (xs : List X) (i : ℕ) (ys : List Y) → length xs ≤ i → ys ≡ map f (take i xs) → ys ≡ map f xs
every_read f xs i ys past is = is ∙ ap (map f) (take_all i xs past)

-- so the reads make one step
pub so_far : {S Y : Type 0} {store : Ghosts S} {a b : MutBor (Held S)} {rows_of : Sheets → List Y} {ys : List Y}
    → Frame store a b → ReadSoFar (state store a.now) (state store b.now) rows_of ys → Step {E = Fault} store a b (λ s. s) (Ok ys)
so_far frame read = stepped frame (λ clean inside s holds. let it = read clean inside s holds in ((it.0.0, it.0.1), it.1))

-- a read, and then a step that makes nothing of the rows
pub read_then : {S X Y E F : Type 0} {store : Ghosts S} {a b c : MutBor (Held S)} {x : X} {r : Result Y E} → Reads {E = F} store a b (Ok x) → Step store b c (λ s. s) r → Reads store a c r
read_then {store = store} {b = b} {c = c} {r = r} one two =
    let both = then_step (read_step one) two in
    record {
      same = both.same;
      survives = both.survives;
      stays = both.steps;
      was_open = λ clean. let it = one.was_open (early (state store b.now) (state store c.now) _ two.survives clean) in (always_ok r _ it.0, λ _. it.0);
    }
