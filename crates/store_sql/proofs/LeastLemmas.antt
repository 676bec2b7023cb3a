-- The least account that is found by reads one after another.
use Rattle.std.proofs.Common.{◌≡◌, ◌<◌, ◌+◌, ℕ, List, [], ◌∷◌, drop, length, get_or, find, Ok, Option, IsTrue, ap, sym, ◌∙◌}
use Rattle.std.specs.Borrow.{MutBor}
use Rattle.std.proofs.lemmas.List.{drop_more}
use Rattle.sqlite.specs.Held.{Held, state}
use Rattle.sqlite.specs.State.{HasCleanDisk}
use Rattle.sqlite_trees.specs.declared.store.Store.{Ghosts}
use Rattle.bank_policy.specs.HeldRows.{HeldTriple}
use Rattle.bank_policy.specs.declared.rows.Member.{Member}
use Rattle.bank_books.specs.declared.records.AccountRecord.{AccountRecord}
use Rattle.book_kept.specs.Sheets.{Sheets}
use Rattle.sql_schema.specs.Held.{HoldsTables}
use Rattle.sql_schema.specs.Steps.{Step, Tells}
use Rattle.sql_schema.proofs.StepChains.{answered, then_step}
use Rattle.sql_schema.proofs.StepLemmas.{early}
use Rattle.store_sql.specs.LeastShown.{is_shown_by, least_by, lower}

-- The tables hold what they held, of which this is said. A connection that is open was open.
pub record SoFar {S : Type 0} (store : Ghosts S) (first now : MutBor (Held S)) (says : Sheets → Type 0) : Type 0 where
  pub step : Step {X = Unit {0}} {E = Unit {0}} store first now (λ s. s) (Ok tt)
  pub found : Tells {X = Unit {0}} {E = Unit {0}} (state store first.now) (state store now.now) says (Ok tt)
  pub was_open : HasCleanDisk (state store now.now) → IsTrue (state store now.now).is_open → IsTrue (state store first.now).is_open

pub next_so_far : {S X E : Type 0} {store : Ghosts S} {a b c : MutBor (Held S)} {says following : Sheets → Type 0} {x : X} → SoFar store a b says → Step {E = E} store b c (λ s. s) (Ok x)
    → (HasCleanDisk (state store c.now) → IsTrue (state store c.now).is_open → IsTrue (state store b.now).is_open)
    → (HasCleanDisk (state store c.now) → IsTrue (state store b.now).in_transaction → (s : Sheets) → HoldsTables (state store b.now).now s → says s → following s) → SoFar store a c following
next_so_far {store = store} {b = b} {c = c} so_far step opens next =
    let before = early (state store b.now) (state store c.now) _ step.survives in
    record {
      step = then_step so_far.step (answered step (Ok tt));
      found = λ clean inside s holds. let was = so_far.step.steps (before clean) inside s holds in next clean was.0.0 s was.0.1 (so_far.found (before clean) inside s holds);
      was_open = λ clean is_open. so_far.was_open (before clean) (opens clean is_open);
    }

-- the least of what the members of each of the triples hold, and of one more
abbrev pub least_of : List AccountRecord → ℕ → List HeldTriple → Option AccountRecord → Option AccountRecord
least_of accounts after [] best = best
least_of accounts after (h ∷ hs) best = least_of accounts after hs (least_by accounts after h.members best)

module _ (accounts : List AccountRecord) (after : ℕ) (best next all : Option AccountRecord) where
  pub by_next : (ms : List Member) (i : ℕ) (m : Member) → i < length ms → m ≡ get_or ms i m → next ≡ lower best (find (is_shown_by after m) accounts)
      → least_by accounts after (drop i ms) best ≡ all → least_by accounts after (drop (i + 1) ms) next ≡ all
  by_next ms i m below at is was =
      ap (least_by accounts after (drop (i + 1) ms)) (is ∙ ap (λ k. lower best (find (is_shown_by after k) accounts)) at) ∙ sym (ap (λ l. least_by accounts after l best) (drop_more ms i m below)) ∙ was

  pub of_next : (hs : List HeldTriple) (i : ℕ) (h : HeldTriple) → i < length hs → h ≡ get_or hs i h → next ≡ least_by accounts after h.members best
      → least_of accounts after (drop i hs) best ≡ all → least_of accounts after (drop (i + 1) hs) next ≡ all
  of_next hs i h below at is was =
      ap (least_of accounts after (drop (i + 1) hs)) (is ∙ ap (λ k. least_by accounts after k.members best) at) ∙ sym (ap (λ l. least_of accounts after l best) (drop_more hs i h below)) ∙ was
