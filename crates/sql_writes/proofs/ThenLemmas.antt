-- Steps one after another.
use Rattle.std.specs.Prelude.{⊤}
use Rattle.std.specs.Borrow.{MutBor}
use Rattle.std.proofs.Common.{◌≡◌, ℕ, ◌+◌, ◌<◌, ◌||◌, not, nat_lt, List, Bool, Result, Ok, Err, IsErr, IsTrue, OnOk, ap, subst, true, false, refl}
use Rattle.std.proofs.lemmas.Bool.{lt-ltb}
use Rattle.sqlite.specs.Held.{Held, state}
use Rattle.sqlite.specs.State.{HasCleanDisk, KeepsCommit, State}
use Rattle.sqlite_trees.specs.declared.store.Store.{Ghosts}
use Rattle.keyed_rows.specs.Changed.{change_rows}
use Rattle.bank_terms.specs.Limits.{max_version}
use Rattle.bank_books.specs.Version.{changes_policy, has_version_for}
use Rattle.bank_books.specs.WorldLists.{WorldLists}
use Rattle.bank_books.specs.declared.row_write.RowWrite.{RowWrite}
use Rattle.book_kept.specs.Changes.{version_sheets}
use Rattle.book_kept.specs.Named.{IsUserRow}
use Rattle.book_kept.specs.Sheets.{Sheets, set_row, sheets_of, user_no}
use Rattle.book_kept.specs.declared.records.KeptUser.{KeptUser}
use Rattle.sql_schema.specs.Held.{HoldsTables}
use Rattle.sql_schema.specs.Held.Sheet.{users as in_users}
use Rattle.sql_schema.specs.Steps.{LeavesNone, Moves, Step, Steps}
use Rattle.sql_schema.proofs.StepLemmas.{early, kept_then, none_ok}
use Rattle.sql_schema.proofs.WorldLemmas.{tables_of}
use Rattle.sql_writes.specs.Known.{MovesKnown}
use Rattle.sql_writes.specs.declared.known.KnownRows.{KnownRows}
use Rattle.sql_writes.proofs.SetLemmas.{set_made}

-- a step that went through
abbrev pub SteppedBy : State → State → (Sheets → Sheets) → Type 0
SteppedBy old new after =
    HasCleanDisk new → IsTrue old.in_transaction → (s : Sheets) → HoldsTables old.now s →
    (IsTrue new.in_transaction × HoldsTables new.now (after s)) × KeepsCommit old new

-- another after it, where both together make of the rows what is said of them
pub steps_then : {X E : Type 0} (old mid new : State) (one two both : Sheets → Sheets) (says : Sheets → Type 0) (result : Result X E)
    → SteppedBy old mid one → (HasCleanDisk mid → IsTrue old.in_transaction → (s : Sheets) → HoldsTables old.now s → says s) → LeavesNone mid new → Steps mid new two result
    → ((s : Sheets) → HoldsTables old.now s → says s → two (one s) ≡ both s) → Steps old new both result
steps_then {X} {E} old mid new one two both says result first tells over second same clean inside s holds =
    let clean_then = early mid new _ over clean in
    let then = first clean_then inside s holds in
    let it = second clean then.0.0 (one s) then.0.1 in
    (subst (λ after. OnOk result (IsTrue new.in_transaction × HoldsTables new.now after)) (same s holds (tells clean_then inside s holds)) it.0, kept_then old mid new then.1 it.1)

-- a user who was found and is set made anew
pub user_changes : {X E : Type 0} (old mid new : State) (k : ℕ) (made : KeptUser → KeptUser) (kept now : KeptUser) (result : Result X E) → now ≡ made kept → user_no now ≡ user_no kept
    → (HasCleanDisk mid → (s : Sheets) → HoldsTables old.now s → IsUserRow s k kept) → SteppedBy old mid (λ s. s) → LeavesNone mid new
    → Steps mid new (λ s. record s { users = set_row user_no now s.users }) result → Steps old new (λ s. record s { users = change_rows user_no k made s.users }) result
user_changes old mid new k made kept now result is keeps found read over set =
    steps_then old mid new (λ s. s) (λ s. record s { users = set_row user_no now s.users }) (λ s. record s { users = change_rows user_no k made s.users }) (λ s. IsUserRow s k kept) result read
    (λ clean inside s holds. found clean s holds) over set
    (λ s holds row. ap (λ users. record s { users = users }) (set_made user_no k made s.users kept now (holds.rows in_users).ordered.distinct row is keeps))

-- the version that was read is raised
pub version_steps : {X E : Type 0} (old mid new : State) (version : ℕ) (result : Result X E) → (HasCleanDisk mid → (s : Sheets) → HoldsTables old.now s → version ≡ s.version)
    → SteppedBy old mid (λ s. s) → LeavesNone mid new → Steps mid new (λ s. record s { version = version + 1 }) result → Steps old new (version_sheets true) result
version_steps old mid new version result found read over set =
    steps_then old mid new (λ s. s) (λ s. record s { version = version + 1 }) (version_sheets true) (λ s. version ≡ s.version) result read (λ clean inside s holds. found clean s holds) over set
    (λ s holds is. ap (λ n. record s { version = n + 1 }) is)

-- both went through
pub stepped_then : (old mid new : State) (one two both : Sheets → Sheets) → SteppedBy old mid one → LeavesNone mid new → SteppedBy mid new two → ((s : Sheets) → two (one s) ≡ both s) → SteppedBy old new both
stepped_then old mid new one two both first over second same =
    steps_then {X = ⊤} {E = ⊤} old mid new one two both (λ s. ⊤) (Ok tt) first (λ clean inside s holds. tt) over second (λ s holds stated. same s)

-- below the last version there is one for every plan
pub has_room : (version : ℕ) → version < max_version → (plan : List RowWrite) → IsTrue (has_version_for plan version)
has_room version below plan = go (changes_policy plan) (lt-ltb version max_version below)
  where
    go : (b : Bool) → nat_lt version max_version ≡ true → IsTrue (not b || nat_lt version max_version)
    go true is = is
    go false is = refl

-- a refusal after one step moves nothing of a World
pub moves_stopped : {S X Y E F : Type 0} {store : Ghosts S} {a b : MutBor (Held S)} {f : Sheets → Sheets} {first : Result X F} (after : WorldLists → WorldLists) (r : Result Y E)
    → IsErr r → Step store a b f first → Moves (state store a.now) (state store b.now) after r
moves_stopped {store = store} {a = a} after r is one clean inside w holds = (none_ok r _ is, (one.steps clean inside (sheets_of w) (tables_of (state store a.now).now w holds)).1)

-- the same of a World of which rows are known
pub known_stopped : {S X Y E F : Type 0} {store : Ghosts S} {a b : MutBor (Held S)} {f : Sheets → Sheets} {first : Result X F} (known : KnownRows) (after : WorldLists → WorldLists) (r : Result Y E)
    → IsErr r → Step store a b f first → MovesKnown known (state store a.now) (state store b.now) after r
known_stopped known after r is one clean inside w holds of = moves_stopped after r is one clean inside w holds
