-- Rows of an answer that are taken one after another: what was taken so far, and at the end the table.
use Rattle.std.proofs.Common.{◌≡◌, ℕ, List, [], ◌∷◌, ◌++◌, map, Contains, refl, ap, sym, subst, arith, ◌∙◌, ◌⊎◌, inl, inr, IsTrue}
use Rattle.std.specs.Prelude.{IsSome}
use Rattle.keyed_rows.proofs.Rows.{Contains-cons_cases, Contains-head, Contains-map, Contains-map_source, Contains-tail}
use Rattle.money.specs.declared.fault.Fault.{Fault}
use Rattle.money.specs.declared.fault.Fault.TheVariants.{Memory}
use Rattle.sqlite_resolve.specs.declared.compiled.Compiled.{Compiled}
use Rattle.sqlite_trees.specs.declared.store.Store.{Ghosts}
use Rattle.sqlite.specs.Clock.{timed}
use Rattle.sqlite.specs.Effect.{Database}
use Rattle.sqlite.specs.Given.{HasBegun, HasGiven}
use Rattle.sqlite.specs.Held.{Held, state}
use Rattle.sqlite.specs.Listing.{IsSourceOf, reads_listing, understood}
use Rattle.sqlite.specs.Order.{Row}
use Rattle.sqlite.specs.State.{CommitsShowing, FailsToQuery, IsStatement, IsUnchanged, KeepsCommit, Shown, State, Survives}
use Rattle.sqlite.specs.declared.error.Error.{Error}
use Rattle.sqlite.specs.Tree.{Trees}
use Rattle.sqlite.proofs.Callers.{EndsIn, begins_shown, given_begin}
use Rattle.sqlite.proofs.StateLemmas.{survives_weaker}
use Rattle.sql_schema.specs.Held.{Sheet, tree_of}
use Rattle.sql_schema.specs.HeldRows.{HoldsRows}
use Rattle.sql_schema.specs.Readable.{IsUnread}
use Rattle.sql_schema.specs.Schema.{schema_of}
use Rattle.sql_schema.specs.Steps.{LeavesNone}
use Rattle.sql_schema.specs.declared.edition.Edition.{Edition}
use Rattle.sql_schema.proofs.StepLemmas.{fails_kept, kept_back, kept_same, shown_open}
use Rattle.sql_whole.specs.Typed.{Each}
use Rattle.sql_whole.specs.Whole.{AreAll, HasBankTables, IsAnswered, IsQueryFor, TellsWhole}
use Rattle.sql_whole.proofs.PlainLemmas.{unreturned}
use Rattle.sql_whole.proofs.ReadsLemmas.{for_memory, still_bank}
use Rattle.sql_whole.proofs.WholeLemmas.{are_all, in_order_answered, plain_there}

-- a query for a whole table commits nothing, whatever the tables are
commits_none : (e : Edition) (text : List ℕ) (s : State) (db : Trees) → IsAnswered e text → ¬ CommitsShowing text [] s db
unfolding CommitsShowing
commits_none e text s db asks h = absurd (let none = subst IsSome (unreturned (schema_of e) s.now.schema text asks.unlisted asks.plain h.0 h.1.is) h.2 in cc)

pub leaves_none : (e : Edition) (text : List ℕ) (old new : State) → IsAnswered e text → Survives old new (CommitsShowing text [] old) → LeavesNone old new
leaves_none e text old new asks = survives_weaker old new _ _ (λ _ db. commits_none e text old db asks)

-- The answer has given rows, and these were read of them.
pub record Taken {S X : Type 0} (g : Ghosts S) (text : List ℕ) (conn : Held S) (stated : Row → Row) (cells : X → Row) (Fits : X → Type 0) (rows : List X) : Type 0 where
  pub given : List Row
  pub answer : HasGiven g text [] conn given
  pub same : map stated given ≡ map cells rows
  pub fit : Each Fits rows

map_last : {X Y : Type 0} (f : X → Y) (xs : List X) (x : X) → map f (xs ++ x ∷ []) ≡ map f xs ++ f x ∷ []
map_last f [] x = refl
map_last f (y ∷ ys) x = ap (λ zs. f y ∷ zs) (map_last f ys x)

pub each_last : {X : Type 0} (P : X → Type 0) (xs : List X) (x : X) → Each P xs → P x → Each P (xs ++ x ∷ [])
each_last {X = X} P [] x before holds y there = go (Contains-cons_cases x [] y there)
  where
    go : (x ≡ y) ⊎ Contains [] y → P y
    go (inl is) = subst P is holds
    go (inr none) = before y none
each_last {X = X} P (z ∷ zs) x before holds y there = go (Contains-cons_cases z (zs ++ x ∷ []) y there) (each_last P zs x (λ w h. before w (Contains-tail z zs w h)) holds y)
  where
    go : (z ≡ y) ⊎ Contains (zs ++ x ∷ []) y → (Contains (zs ++ x ∷ []) y → P y) → P y
    go (inl is) rest = subst P is (before z (Contains-head z zs))
    go (inr more) rest = rest more

pub none_there : {X : Type 0} (P : X → Type 0) → Each P []
none_there P x (k, within, is) = absurd (omega arith)

-- at the start
pub took_none : {S X : Type 0} (g : Ghosts S) (text : List ℕ) (conn : Held S) (stated : Row → Row) (cells : X → Row) (Fits : X → Type 0) (rows : List X) → rows ≡ [] → HasGiven g text [] conn [] → Taken g text conn stated cells Fits rows
took_none g text conn stated cells Fits rows none on = record { given = []; answer = on; same = ap (λ xs. map cells xs) (sym none); fit = subst (λ xs. Each Fits xs) (sym none) (none_there Fits) }

-- a query that has begun found the connection open
pub begun_open : {S : Type 0} (g : Ghosts S) (text : List ℕ) (old new : Held S) → HasBegun g text [] old new → IsTrue (state g old).is_open
begun_open g text old new (inl h) = h.1.0.was_open
begun_open g text old new (inr h) = shown_open text [] (state g old) (state g new) _ h.1

-- what a query that fails leaves
pub failed_kept : (e : Edition) (text : List ℕ) (asks : IsAnswered e text) (old new : State) (x : Error) → HasBankTables e old → FailsToQuery text [] old new x → KeepsCommit old new
failed_kept e text asks old new x has fails = elim (fails_kept text [] old new x (plain_there e text old asks.plain has) fails) [ inl same ↦ kept_same old new same | inr back ↦ kept_back old new back ]

-- one row more
pub took_more : {S X : Type 0} (g : Ghosts S) (text : List ℕ) (was now : Held S) (stated : Row → Row) (cells : X → Row) (Fits : X → Type 0) (rows : List X)
    → (t : Taken g text was stated cells Fits rows) (row : Row) → HasGiven g text [] now (t.given ++ row ∷ []) → (x : X) → stated row ≡ cells x → Fits x → Taken g text now stated cells Fits (rows ++ x ∷ [])
took_more g text was now stated cells Fits rows t row on x same fit = record {
  given = t.given ++ row ∷ [];
  answer = on;
  same = map_last stated t.given row ∙ ap (λ xs. xs ++ stated row ∷ []) t.same ∙ ap (λ c. map cells rows ++ c ∷ []) same ∙ sym (map_last cells rows x);
  fit = each_last Fits rows x t.fit fit;
}

module _ {S X : Type 0} (g : Ghosts S) (e : Edition) (shows stated : Row → Row) (cells : X → Row) (key : X → ℕ) (Fits : X → Type 0) (sheet : Sheet) (text : List ℕ) (tells : TellsWhole e shows stated cells key Fits sheet text)
    (was : Held S) (old : State) (has : HasBankTables e old) (same : IsUnchanged old (state g was)) where
  -- at the end
  pub took_all : (now : State) (rows : List X) (t : Taken g text was stated cells Fits rows) → Shown text [] (state g was) now t.given → AreAll shows cells key Fits sheet old.now.trees rows
  took_all now rows t shown =
      subst (λ (d : Database). AreAll shows cells key Fits sheet d.trees rows) same.0.now_is
      (are_all e shows stated cells key Fits sheet text tells (state g was) now t.given rows (still_bank e old (state g was) same has) shown t.same t.fit)

  unchanged : IsUnchanged (state g was) (state g was)
  unchanged = (record { was_open = same.0.is_open; is_open = same.0.is_open; now_is = refl; committed_is = refl; mode = refl }, record { changes = refl; last_rowid = refl }, refl)

  ends : (c : Compiled) (db : Database) (it : IsStatement (state g was) text [] c) → IsSourceOf (reads_listing (state g was).now.schema text) (state g was).now db → EndsIn c.command db (timed [] c.formats it.now)
  ends c db it source =
      let asks = tells.asks in
      let schema = sym (ap (λ (d : Database). d.schema) same.0.now_is ∙ has.schema) in
      let known = subst (IsQueryFor asks.query asks.names) (ap (λ s. understood s text) schema ∙ it.is) asks.is in
      subst (λ k. EndsIn k db (timed [] c.formats it.now)) (sym known) tt

  there : {Y : Type 0} (ys : List Y) (y : Y) (zs : List Y) → Contains ((ys ++ y ∷ []) ++ zs) y
  there [] y zs = Contains-head y zs
  there (w ∷ ws) y zs = Contains-tail w ((ws ++ y ∷ []) ++ zs) y (there ws y zs)

  -- a row that was given is one that the table holds, so that it can be read where each of those can
  pub took_unread : (given : List Row) (row : Row) → HasGiven g text [] was (given ++ row ∷ []) → (xs : List X) → HoldsRows shows cells key Fits xs (old.now.trees (tree_of sheet))
      → (Readable : X → Type 0) → ((x : X) → Contains xs x → Readable x) → (fault : Fault) → IsUnread cells Readable (stated row) fault → fault ≡ Memory
  took_unread given row on xs held Readable readable fault unread =
      let shown = begins_shown text [] (state g was) (state g was) (given ++ row ∷ []) (given_begin g text [] was (given ++ row ∷ []) on) unchanged ends in
      let held_now = subst (λ (d : Database). HoldsRows shows cells key Fits xs (d.trees (tree_of sheet))) (sym same.0.now_is) held in
      let answered = in_order_answered e shows stated cells key Fits sheet text tells (state g was) (state g was) ((given ++ row ∷ []) ++ shown.0) xs (still_bank e old (state g was) same has) held_now shown.1 in
      let one = subst (λ l. Contains l (stated row)) answered (Contains-map stated ((given ++ row ∷ []) ++ shown.0) row (there given row shown.0)) in
      let source = Contains-map_source cells xs (stated row) one in
      for_memory fault (fault ≡ Memory) (λ is. is) (λ other. unread other source.0 (readable source.0 source.1.0) (sym source.1.1))
