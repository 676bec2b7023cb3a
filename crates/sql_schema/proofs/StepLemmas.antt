-- Steps inside a transaction.
use Rattle.std.specs.Prelude.{Vec, IfOk, IfErr, IsErrAnd, Option, Some, None, option_map, slice_get}
use Rattle.std.specs.List.{cons_option}
use Rattle.std.specs.declared.alloc.Global.{Global}
use Rattle.std.proofs.Common.{◌≡◌, ◌⊎◌, inl, inr, ℕ, List, Ok, Err, IsErr, Result, IsTrue, OnOk, sym, ap, arith, ◌∙◌, subst, [], map}
use Rattle.sqlite_schema.specs.declared.command.Returning.{Returning}
use Rattle.sqlite.specs.Listing.{understood}
use Rattle.sqlite.specs.Clock.{timed}
use Rattle.sqlite.proofs.Callers.{IsPlain}
use Rattle.sqlite.specs.declared.error.Error.{Error}
use Rattle.sqlite.specs.Order.{Row}
use Rattle.sqlite.specs.Effect.{Database}
use Rattle.sqlite.specs.State.{ShowsRows, IsTooLate, State, Shown, FailsToQuery, FailsToShow, IsNotRun, HasCleanDisk, KeepsCommit, IsUnchanged, IsRolledBack, Executes, ExecutesInside, Survives}
use Rattle.sqlite.specs.Tree.{Trees}
use Rattle.book_kept.specs.Sheets.{Sheets}
use Rattle.money.specs.declared.fault.Fault.{Fault}
use Rattle.sql_schema.specs.Faults.{IsNameOf}
use Rattle.sql_schema.specs.Held.{HoldsTables}
use Rattle.sql_schema.specs.Schema.{bank_schema}
use Rattle.sql_schema.specs.ReadBack.{Refuses, Runs}
use Rattle.sql_schema.specs.Steps.{LeavesNone}

-- a query leaves the connection as it was
pub shown_same : (sql : List ℕ) (params : Row) (old new : State) (rows : List Row) → IsPlain (understood old.now.schema sql) → Shown sql params old new rows → IsUnchanged old new
unfolding Shown
shown_same sql params old new rows plain h =
    let none = (subst IsPlain h.1.is plain).0 in
    let it = subst (ShowsRows old new sql h.0 (timed params h.0.formats h.1.now) rows) none h.2 in it.3

pub kept_same : (old new : State) → IsUnchanged old new → KeepsCommit old new
kept_same old new h = record { was_open = λ _. h.0.was_open; committed = λ _. h.0.committed_is }

pub kept_back : (old new : State) → IsRolledBack old new → KeepsCommit old new
kept_back old new h = record { was_open = h.was_open; committed = λ is_open. (h.undone is_open).1 }

pub kept_then : (a b c : State) → KeepsCommit a b → KeepsCommit b c → KeepsCommit a c
kept_then a b c p q = record { was_open = λ h. p.was_open (q.was_open h); committed = λ h. q.committed h ∙ p.committed (q.was_open h) }

refused : (sql : _) (params : Row) (old new : State) (e : Error) → ExecutesInside 0 sql params old new (Err e) → KeepsCommit old new
refused sql params old new e (inl h) = elim h.1 [ inl same ↦ kept_same old new same | inr back ↦ kept_back old new back ]
refused sql params old new e (inr h) = kept_same old new h.2

pub fails_kept : (sql : List ℕ) (params : Row) (old new : State) (e : Error) → IsPlain (understood old.now.schema sql) → FailsToQuery sql params old new e → IsUnchanged old new ⊎ IsRolledBack old new
unfolding FailsToQuery IsNotRun
fails_kept sql params old new e plain (inl (inl h)) = inl h.1
fails_kept sql params old new e plain (inl (inr h)) = inr h.3
fails_kept sql params old new e plain (inr h) =
    let none = (subst IsPlain h.1.is plain).0 in
    inl (subst (FailsToShow old new sql h.0 (timed params h.0.formats h.1.now) e) none h.2).3

pub query_kept : (sql : List ℕ) (params : Row) (old new : State) (result : Result (Vec Row Global) Error) → IsPlain (understood old.now.schema sql)
    → IfOk result (λ rows. Shown sql params old new rows.items) → IfErr result (λ e. FailsToQuery sql params old new e ⊎ IsTooLate sql params old new e) → KeepsCommit old new
query_kept sql params old new (Ok rows) plain ok err = kept_same old new (shown_same sql params old new rows.items plain ok)
query_kept sql params old new (Err e) plain ok (inl err) = elim (fails_kept sql params old new e plain err) [ inl same ↦ kept_same old new same | inr back ↦ kept_back old new back ]
query_kept sql params old new (Err e) plain ok (inr late) = kept_same old new late.5

-- a connection that is open was open, whatever the text is
pub shown_open : (sql : List ℕ) (params : Row) (old new : State) (rows : List Row) → Shown sql params old new rows → IsTrue old.is_open
unfolding Shown
shown_open sql params old new rows h = go h.0.returning h.2
  where
    go : (r : Option Returning) → ShowsRows old new sql h.0 (timed params h.0.formats h.1.now) rows r → IsTrue old.is_open
    go None it = it.3.0.was_open
    go (Some what) it = it.1.shown.was_open

pub fails_open : (sql : List ℕ) (params : Row) (old new : State) (e : Error) → FailsToQuery sql params old new e → IsTrue new.is_open → IsTrue old.is_open
unfolding FailsToQuery IsNotRun
fails_open sql params old new e (inl (inl h)) is_open = h.1.0.was_open
fails_open sql params old new e (inl (inr h)) is_open = h.3.was_open is_open
fails_open sql params old new e (inr h) is_open = go h.0.returning h.2
  where
    go : (r : Option Returning) → FailsToShow old new sql h.0 (timed params h.0.formats h.1.now) e r → IsTrue old.is_open
    go None it = it.3.0.was_open
    go (Some what) (inl it) = it.1.0.was_open
    go (Some what) (inr it) = it.3.was_open is_open

pub query_open : (sql : List ℕ) (params : Row) (old new : State) (result : Result (Vec Row Global) Error)
    → IfOk result (λ rows. Shown sql params old new rows.items) → IfErr result (λ e. FailsToQuery sql params old new e ⊎ IsTooLate sql params old new e) → OnOk result (IsTrue old.is_open) × (IsTrue new.is_open → IsTrue old.is_open)
query_open sql params old new (Ok rows) ok err = let it = shown_open sql params old new rows.items ok in (it, λ _. it)
query_open sql params old new (Err e) ok (inl err) = (tt, fails_open sql params old new e err)
query_open sql params old new (Err e) ok (inr late) = (tt, λ _. late.5.0.was_open)

-- what a query and a write make of the tables
abbrev pub Stepped : {X E : Type 0} → State → State → Result X E → Sheets → Type 0
Stepped old new result s = OnOk result (IsTrue new.in_transaction × HoldsTables new.now s) × KeepsCommit old new

pub query_steps : (sql : List ℕ) (params : Row) (old new : State) (result : Result (Vec Row Global) Error) → IsPlain (understood bank_schema sql)
    → IfOk result (λ rows. Shown sql params old new rows.items) → IfErr result (λ e. FailsToQuery sql params old new e ⊎ IsTooLate sql params old new e)
    → IsTrue old.in_transaction → (s : Sheets) → HoldsTables old.now s → Stepped old new result s
query_steps sql params old new result plain ok err inside s holds = (go result ok, query_kept sql params old new result known ok err)
  where
    known : IsPlain (understood old.now.schema sql)
    known = subst (λ x. IsPlain (understood x sql)) (sym holds.schema) plain

    go : (r : Result (Vec Row Global) Error) → IfOk r (λ rows. Shown sql params old new rows.items) → OnOk r (IsTrue new.in_transaction × HoldsTables new.now s)
    go (Err e) h = tt
    go (Ok rows) h =
        let same = shown_same sql params old new rows.items known h in
        (same.0.mode ∙ inside, subst (λ (d : Database). HoldsTables d s) (sym same.0.now_is) holds)

pub write_steps : (sql : List ℕ) (params : Row) (old new : State) (result : Result ℕ Error) (s : Sheets) → ExecutesInside 0 sql params old new result
    → ((count : ℕ) → Executes sql params old new (Ok count) → HoldsTables new.now s) → Stepped old new result s
write_steps sql params old new (Err e) s h does = (tt, refused sql params old new e h)
write_steps sql params old new (Ok count) s h does = ((h.1.mode, does count h.0), record { was_open = λ _. h.1.was_open; committed = λ _. h.1.committed_is })

-- ---- the same of calls whose error is named

pub rows_open : (sql : List ℕ) (params : Row) (old new : State) (result : Result (Vec Row Global) Fault)
    → IfOk result (λ rows. Shown sql params old new rows.items) → IfErr result (IsNameOf (Refuses sql params old new)) → OnOk result (IsTrue old.is_open) × (IsTrue new.is_open → IsTrue old.is_open)
rows_open sql params old new (Ok rows) ok err = query_open sql params old new (Ok rows) ok tt
rows_open sql params old new (Err fault) ok err = query_open sql params old new (Err err.0) tt err.1

pub rows_steps : (sql : List ℕ) (params : Row) (old new : State) (result : Result (Vec Row Global) Fault) → IsPlain (understood bank_schema sql)
    → IfOk result (λ rows. Shown sql params old new rows.items) → IfErr result (IsNameOf (Refuses sql params old new))
    → IsTrue old.in_transaction → (s : Sheets) → HoldsTables old.now s → Stepped old new result s
rows_steps sql params old new (Ok rows) plain ok err inside s holds = query_steps sql params old new (Ok rows) plain ok tt inside s holds
rows_steps sql params old new (Err fault) plain ok err inside s holds = query_steps sql params old new (Err err.0) plain tt err.1 inside s holds

pub run_steps : (sql : List ℕ) (params : Row) (old new : State) (result : Result ℕ Fault) (s : Sheets) → Runs sql params old new result
    → ((count : ℕ) → Executes sql params old new (Ok count) → HoldsTables new.now s) → Stepped old new result s
run_steps sql params old new (Ok count) s h does = write_steps sql params old new (Ok count) s h does
run_steps sql params old new (Err fault) s h does = write_steps sql params old new (Err h.0) s h.1 does

-- ---- the first row of an answer

pub first_shown : {X : Type 0} (shown : X → Row) (o : Option X) (rows : List Row) → rows ≡ map shown (cons_option o []) → slice_get rows 0 ≡ option_map shown o
first_shown shown None rows is = ap (λ rs. slice_get rs 0) is
first_shown shown (Some x) rows is = ap (λ rs. slice_get rs 0) is

-- a fault that is handed on is what it was
pub handed_on : {X E : Type 0} (r : Result X E) (fault : E) (P : E → Type 0) → IsErrAnd r (λ e. e ≡ fault) → P fault → IfErr r P
handed_on (Ok x) fault P same holds = tt
handed_on (Err e) fault P same holds = subst P (sym same) holds

-- what holds whatever a call answered
pub always_ok : {A E : Type 0} (r : Result A E) (P : Type 0) → P → OnOk r P
always_ok (Ok x) P p = p
always_ok (Err e) P p = tt

-- nothing is said of what a refusal gives
pub none_ok : {A E : Type 0} (r : Result A E) (P : Type 0) → IsErr r → OnOk r P
none_ok (Ok x) P is = absurd cc
none_ok (Err e) P is = tt

-- a disk that is clean was clean
pub early : (a b : State) (P : Trees → Type 0) → Survives a b P → HasCleanDisk b → HasCleanDisk a
early a b P s clean = omega (arith, s.clean)

pub ok_weaker : {A E : Type 0} (r : Result A E) (P Q : Type 0) → (P → Q) → OnOk r P → OnOk r Q
ok_weaker (Ok x) P Q f h = f h
ok_weaker (Err e) P Q f h = tt

-- what a crash may leave after a call that commits nothing, it could before
pub survived : (a b : State) → LeavesNone a b → HasCleanDisk b → (db : Trees) → b.may_leave db → a.may_leave db
survived a b s clean db may = elim (s.crash clean db may) [ inl old ↦ old | inr none ↦ absurd none ]
