use Rattle.std.proofs.Common.{◌≡◌, Result, subst, sym}
use Rattle.sqlite.specs.Held.{state}
use Rattle.sqlite.specs.State.{State}
use Rattle.sqlite.specs.Tree.{Trees}
use Rattle.sql_schema.specs.declared.edition.Edition.{Edition}
use Rattle.sql_schema.specs.declared.edition.Edition.TheVariants.{Third}
use Rattle.sql_whole.specs.Tables.{AreSlipCounts}
use Rattle.sql_whole.specs.Whole.{Reads}
use Rattle.sql_whole.proofs.slip_counts.all_slip_counts.Goals as goal

-- what is read in the schema version that this is
read_in : {X E : Type 0} (e : Edition) (old new : State) (r : Result X E) (says : Edition → Trees → X → Type 0) → e ≡ Third → Reads Third old new (says Third) r → Reads e old new (says e) r
read_in e old new r says is reads = subst (λ x. Reads x old new (says x) r) (sym is) reads

pub returns-in-Third-clause-whole : goal.returns-in-Third-clause-whole
returns-in-Third-clause-whole g c was =
    read_in c.args.edition (state g.S.Store c.args.conn.now) (state g.S.Store c.third_slip_counts.new.conn) c.third_slip_counts.result
    (λ e trees rows. AreSlipCounts e c.args.users.now trees rows.items) c.in-Third.is (c.third_slip_counts.ensures.whole c.args.users.now)
