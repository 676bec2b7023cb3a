-- A bank that was read and then written anew.
use Rattle.std.proofs.Common.{◌≡◌, ◌∙◌, ap, inl, inr, subst, sym}
use Rattle.sqlite.specs.Effect.{Database}
use Rattle.sqlite.specs.State.{HasCleanDisk, State, Survives}
use Rattle.sqlite.specs.Tree.{Trees}
use Rattle.sqlite.proofs.StateLemmas.{survives_then}
use Rattle.bank_books.specs.WorldLists.{WorldLists}
use Rattle.sql_schema.specs.Held.{AreOfWorld, HoldsBank}
use Rattle.sql_schema.specs.declared.edition.Edition.{Edition}
use Rattle.sql_schema.proofs.StepLemmas.{early}
use Rattle.sql_schema.specs.Steps.{LeavesNone}
use Rattle.sql_adopt.specs.Adopted.{Finds, IsBankFileIn, IsLeft}
use Rattle.sql_adopt.specs.Older.{IsOlderFile}
use Rattle.store_sql.proofs.WorldLemmas.{same_world}
use Rattle.sql_upgrade.specs.Carried.{Carries, IsCarriedOver, IsOf}

-- after a read that changed nothing
pub still_of : (e : Edition) (old mid : State) → IsBankFileIn e old → IsLeft old mid → IsOf e mid
still_of e old mid file left = record {
  schema = λ is_open. ap (λ (d : Database). d.schema) (left.now is_open) ∙ file.schema;
  settled = left.settled;
}

-- what commits nothing may leave anything more
pub survives_more : (old new : State) (Commits : Trees → Type 0) → LeavesNone old new → Survives old new Commits
survives_more old new Commits s = record {
  clean = s.clean;
  shield = s.shield;
  counts = s.counts;
  limit = s.limit;
  closes = s.closes;
  crash = λ clean trees may. elim (s.crash clean trees may) [ inl old ↦ inl old | inr none ↦ absurd none ];
}

module _ (edition : Edition) (old mid new : State) (w : WorldLists) (read : LeavesNone old mid) (found : HasCleanDisk mid → (e : Edition) → IsOlderFile e old → (edition ≡ e) × Finds e old.now w)
    (left : HasCleanDisk mid → (is : Edition) → IsBankFileIn is old → IsLeft old mid) (written : Survives mid new (λ trees. IsOf edition mid → AreOfWorld w trees)) where
  -- the file is in the schema version in which it was read
  pub is_of : HasCleanDisk mid → (e : Edition) → IsOlderFile e old → IsOf edition mid
  is_of clean e older = subst (λ x. IsOf x mid) (sym (found clean e older).0) (still_of e old mid older.file (left clean e older.file))

  pub carried_over : Survives old new (λ trees. HasCleanDisk new → (e : Edition) → IsOlderFile e old → IsCarriedOver e old trees)
  carried_over =
      survives_then old mid new _ _ _ (λ clean trees none. absurd none)
      (λ clean trees it _ e older.
      let was_clean = early mid new _ written clean in
      record { world = w; found = (found was_clean e older).1; holds = it (is_of was_clean e older) })
      read written

  pub carries : HasCleanDisk new → (e : Edition) → IsOlderFile e old → (IsOf edition mid → HoldsBank new w) → ((trees : Trees) → new.may_leave trees → trees ≡ new.committed.trees) → Carries e old new
  carries clean e older made settled =
      let was_clean = early mid new _ written clean in
      let of = is_of was_clean e older in
      let holds = made of in
      let durable : (trees : Trees) → new.may_leave trees → AreOfWorld w trees =
      λ trees may. subst (AreOfWorld w) (sym (settled trees may ∙ ap (λ (d : Database). d.trees) holds.settled)) holds.now.world in
      record {
        world = w;
        found = (found was_clean e older).1;
        holds = holds;
        durable = durable;
        alone = λ left (trees, may, other). same_world left w trees other (durable trees may);
      }
