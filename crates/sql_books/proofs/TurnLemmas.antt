-- A loop that adds the entries of an account turn by turn, as long as they are there.
use Rattle.std.specs.Borrow.{MutBor}
use Rattle.std.proofs.Common.{◌≡◌, ◌<◌, ◌+◌, ◌-◌, ◌++◌, ℕ, suc, List, [], ◌∷◌, IsTrue, Ok, OnOk, Option, Result, Some, None, ap, sym, arith, append-nil, append_assoc, ◌∙◌}
use Rattle.std.specs.List.{find}
use Rattle.std.specs.Option.{option_map_or}
use Rattle.sqlite.specs.Held.{Held, state}
use Rattle.sqlite.specs.State.{HasCleanDisk}
use Rattle.sqlite_trees.specs.declared.store.Store.{Ghosts}
use Rattle.bank_books.specs.declared.records.EntryRecord.{EntryRecord}
use Rattle.sql_schema.specs.Steps.{Reads, Step}
use Rattle.sql_schema.proofs.StepLemmas.{early, ok_weaker}
use Rattle.sql_schema.proofs.TableNames.{Sheets, HoldsTables}
use Rattle.sql_books.specs.Picks.{is_entry_at}
use Rattle.sql_books.specs.Turns.{entries_from}

module _ (entries : List EntryRecord) (account : ℕ) where
  abbrev from_row : ℕ → ℕ → Option EntryRecord → List EntryRecord
  from_row turn count o = option_map_or (λ e. e ∷ entries_from entries account (turn + 1) count) o []

  -- the next turn is looked for
  next : (a b : ℕ) → a < b → entries_from entries account a (b - a) ≡ from_row a (b - (a + 1)) (find (is_entry_at account a) entries)
  next a b below = let more : b - a ≡ suc (b - (a + 1)) = omega arith in ap (entries_from entries account a) more

  -- it is there, and was added
  pub turn_added : (a b : ℕ) (row : EntryRecord) (before made all : List EntryRecord) → a < b → Some row ≡ find (is_entry_at account a) entries → before ++ entries_from entries account a (b - a) ≡ all
      → made ≡ before ++ row ∷ [] → made ++ entries_from entries account (a + 1) (b - (a + 1)) ≡ all
  turn_added a b row before made all below is so_far made_is =
      let rest = entries_from entries account (a + 1) (b - (a + 1)) in
      ap (λ rows. rows ++ rest) made_is ∙ append_assoc before (row ∷ []) rest ∙ ap (λ o. before ++ from_row a (b - (a + 1)) o) is ∙ ap (λ rows. before ++ rows) (sym (next a b below)) ∙ so_far

  -- it is not there, and the entries end
  pub turn_missing : (a b : ℕ) (before all : List EntryRecord) → a < b → None ≡ find (is_entry_at account a) entries → before ++ entries_from entries account a (b - a) ≡ all → before ≡ all
  turn_missing a b before all below is so_far =
      sym (append-nil before) ∙ ap (λ o. before ++ from_row a (b - (a + 1)) o) is ∙ ap (λ rows. before ++ rows) (sym (next a b below)) ∙ so_far

-- before a read after a step that makes nothing of the rows, the disk was clean and the tables held them
pub before_read : {S X Y E F : Type 0} {store : Ghosts S} {a b c : MutBor (Held S)} {x : X} {r : Result Y E} → Step {E = F} store a b (λ s. s) (Ok x) → Reads store b c r
    → HasCleanDisk (state store c.now) → IsTrue (state store a.now).in_transaction → (s : Sheets) → HoldsTables (state store a.now).now s → HasCleanDisk (state store b.now) × HoldsTables (state store b.now).now s
before_read {store = store} {b = b} {c = c} step read clean inside s holds =
    let was = early (state store b.now) (state store c.now) _ read.survives clean in
    (was, (step.steps was inside s holds).0.1)

-- what a read after steps says of a connection that was open
pub then_open : {S X E : Type 0} {store : Ghosts S} {b c : MutBor (Held S)} {P Q : Type 0} {r : Result X E}
    → (HasCleanDisk (state store b.now) → P × (IsTrue (state store b.now).is_open → Q)) → Reads store b c r → HasCleanDisk (state store c.now) → OnOk r Q × (IsTrue (state store c.now).is_open → Q)
then_open {store = store} {b = b} {c = c} {r = r} before read clean =
    let was = (before (early (state store b.now) (state store c.now) _ read.survives clean)).1 in
    let it = read.was_open clean in
    (ok_weaker r _ _ was it.0, λ is_open. was (it.1 is_open))
