use Rattle.std.proofs.Common.{◌∙◌, ℕ, List, [], inl, inr, subst, sym}
use Rattle.sqlite.specs.Effect.{Database}
use Rattle.sqlite.specs.Held.{state}
use Rattle.sqlite.specs.Order.{Row}
use Rattle.sqlite.specs.State.{IsNotRun, KeepsCommit, State}
use Rattle.sqlite.specs.declared.error.Error.{Error}
use Rattle.sql_schema.specs.Held.{HoldsWorld}
use Rattle.sql_schema.proofs.StepLemmas.{kept_back, kept_same}
use Rattle.sql_writes.proofs.plan_writes.look.Goals as goal

-- a statement that is not found leaves the last commit
not_run : (old new : State) (sql : List ℕ) (params : Row) (e : Error) → IsNotRun old new sql params e → KeepsCommit old new
unfolding IsNotRun
not_run old new sql params e (inl h) = kept_same old new h.1
not_run old new sql params e (inr h) = kept_back old new h.3

pub returns-in-Ok-clause-moves : goal.returns-in-Ok-clause-moves
returns-in-Ok-clause-moves g c clean inside w holds =
    let old = state g.S.Store c.args.tx.now.conn.now in
    let new = state g.S.Store c.prepare.new.self.conn.now in
    let same = (c.in-Ok.ensures.ok clean).1 in
    ((same.0.mode ∙ inside, subst (λ (d : Database). HoldsWorld d w) (sym same.0.now_is) holds), kept_same old new same)

pub returns-in-Err-clause-moves : goal.returns-in-Err-clause-moves
returns-in-Err-clause-moves g c clean inside w holds =
    (tt, not_run (state g.S.Store c.args.tx.now.conn.now) (state g.S.Store c.prepare.new.self.conn.now) _ [] c.in-Err.error (c.in-Err.ensures.err clean []))

pub returns-in-Ok-clause-open : goal.returns-in-Ok-clause-open
returns-in-Ok-clause-open g c clean =
    let was = (c.in-Ok.ensures.ok clean).1.0.was_open in
    (was, λ _. was)

pub returns-in-Err-clause-open : goal.returns-in-Err-clause-open
returns-in-Err-clause-open g c clean =
    (tt, (not_run (state g.S.Store c.args.tx.now.conn.now) (state g.S.Store c.prepare.new.self.conn.now) _ [] c.in-Err.error (c.in-Err.ensures.err clean [])).was_open)
