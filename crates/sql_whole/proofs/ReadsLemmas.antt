-- Reads of whole tables, one after another.
use Rattle.std.proofs.Common.{◌≡◌, ◌≢◌, Ok, Err, IsErr, IsTrue, Result, refl, sym, ap, ◌∙◌, subst}
use Rattle.money.specs.declared.fault.Fault.{Fault}
use Rattle.money.specs.declared.fault.Fault.TheVariants.{Disk, Memory, Size, Stopped}
use Rattle.sqlite.specs.Effect.{Database, IsDatabase}
use Rattle.sqlite.specs.State.{HasCleanDisk, IsUnchanged, KeepsCommit, State}
use Rattle.sqlite.specs.Tree.{Trees}
use Rattle.sql_schema.specs.Held.{HoldsSheetsIn, tree_of}
use Rattle.sql_schema.specs.declared.edition.Edition.{Edition}
use Rattle.sql_schema.proofs.StepLemmas.{early, kept_then}
use Rattle.sql_schema.specs.Steps.{LeavesNone}
use Rattle.sql_whole.specs.Whole.{HasBankTables, IsKeptTable, OnReadable, Reads}

-- reads that went through and say this
abbrev pub Done : Edition → State → State → (Trees → Type 0) → Type 0
Done e old new says = HasCleanDisk new → HasBankTables e old → says old.now.trees × IsUnchanged old new × KeepsCommit old new

-- reads of which one failed
abbrev pub Gave : Edition → State → State → Type 0
Gave e old new = HasCleanDisk new → HasBankTables e old → KeepsCommit old new

unchanged_then : (a b c : State) → IsUnchanged a b → IsUnchanged b c → IsUnchanged a c
unchanged_then a b c p q = (
  record { was_open = p.0.was_open; is_open = q.0.is_open; now_is = q.0.now_is ∙ p.0.now_is; committed_is = q.0.committed_is ∙ p.0.committed_is; mode = q.0.mode ∙ p.0.mode },
  record { changes = q.1.changes ∙ p.1.changes; last_rowid = q.1.last_rowid ∙ p.1.last_rowid },
  q.2 ∙ p.2,
)

-- the tables are those of a bank still
pub still_bank : (e : Edition) (a b : State) → IsUnchanged a b → HasBankTables e a → HasBankTables e b
still_bank e a b same has = record {
  schema = ap (λ (d : Database). d.schema) same.0.now_is ∙ has.schema;
  sound = λ _. subst IsDatabase (sym same.0.now_is) (has.sound same.0.was_open);
  kept = λ t inside. subst (λ (d : Database). IsKeptTable (d.trees (tree_of t))) (sym same.0.now_is) (has.kept t inside);
}

pub done_then : (e : Edition) (a b c : State) (P Q : Trees → Type 0) → LeavesNone b c → Done e a b P → Done e b c Q → Done e a c (λ db. P db × Q db)
done_then e a b c P Q survives first second clean has =
    let p = first (early b c _ survives clean) has in
    let q = second clean (still_bank e a b p.1 has) in
    ((p.0, subst (λ (d : Database). Q d.trees) p.1.0.now_is q.0), unchanged_then a b c p.1 q.1, kept_then a b c p.2 q.2)

pub gave_then : (e : Edition) (a b c : State) (P : Trees → Type 0) → LeavesNone b c → Done e a b P → Gave e b c → Gave e a c
gave_then e a b c P survives first second clean has =
    let p = first (early b c _ survives clean) has in
    kept_then a b c p.2 (second clean (still_bank e a b p.1 has))

-- what a later read says of readable rows, it says of those that the tables held before
pub readable_then : (e : Edition) (a b c : State) (P : Trees → Type 0) (Q : Type 0) → LeavesNone b c → Done e a b P → OnReadable e b c Q → OnReadable e a c Q
readable_then e a b c P Q survives first second clean has s holds readable =
    let p = first (early b c _ survives clean) has in
    second clean (still_bank e a b p.1 has) s (subst (λ (d : Database). HoldsSheetsIn e d.trees s) (sym p.1.0.now_is) holds) readable

-- ---- reads that may ask no table, on a connection that an earlier one found open

-- tables that were not asked are as they were
pub still : (e : Edition) (s : State) (says : Trees → Type 0) → ((db : Trees) → says db) → IsTrue s.is_open → Done e s s says
still e s says is was clean has = (
  is s.now.trees,
  (record { was_open = was; is_open = was; now_is = refl; committed_is = refl; mode = refl }, record { changes = refl; last_rowid = refl }, refl),
  record { was_open = λ is_open. is_open; committed = λ is_open. refl },
)

module _ (e : Edition) (a b c : State) (P : Trees → Type 0) (survives : LeavesNone b c) (first : Done e a b P) where
  found_open : HasCleanDisk c → HasBankTables e a → IsTrue b.is_open
  found_open clean has = (first (early b c _ survives clean) has).1.0.is_open

  pub done_open : (Q : Trees → Type 0) → (IsTrue b.is_open → Done e b c Q) → Done e a c (λ db. P db × Q db)
  done_open Q second clean has = done_then e a b c P Q survives first (second (found_open clean has)) clean has

  pub gave_open : (IsTrue b.is_open → Gave e b c) → Gave e a c
  gave_open second clean has = gave_then e a b c P survives first (second (found_open clean has)) clean has

  pub readable_open : (Q : Type 0) → (IsTrue b.is_open → OnReadable e b c Q) → OnReadable e a c Q
  readable_open Q second clean has = readable_then e a b c P Q survives first (second (found_open clean has)) clean has

-- nothing more is said of what a refusal gives
pub gave_whole : {X E : Type 0} (e : Edition) (old new : State) (says : Trees → X → Type 0) (r : Result X E) → IsErr r → Gave e old new → Reads e old new says r
gave_whole e old new says (Ok x) is gave = absurd cc
gave_whole e old new says (Err x) is gave = λ clean has. (tt, tt, gave clean has)

pub done_whole : (e : Edition) (old new : State) (P Q : Trees → Type 0) → ((db : Trees) → P db → Q db) → Done e old new P → Done e old new Q
done_whole e old new P Q from done clean has = let it = done clean has in (from _ it.0, it.1, it.2)

-- a fault that can be no other than want of memory
pub for_memory : (fault : Fault) (P : Type 0) → (fault ≡ Memory → P) → (fault ≢ Memory → ⊥) → P
for_memory Memory P then never = then refl
for_memory Size P then never = absurd (never (λ is. cc))
for_memory Disk P then never = absurd (never (λ is. cc))
for_memory Stopped P then never = absurd (never (λ is. cc))
