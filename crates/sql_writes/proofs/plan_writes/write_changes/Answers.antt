use Rattle.std.proofs.Common.{◌≡◌, ◌∷◌, [], IsTrue, List, OnOk, Result, subst, sym}
use Rattle.sqlite.specs.State.{HasCleanDisk, KeepsCommit, State}
use Rattle.bank_books.specs.Effects.{all_written}
use Rattle.bank_books.specs.WorldLists.{WorldLists}
use Rattle.bank_books.specs.declared.row_write.RowWrite.{RowWrite}
use Rattle.sql_schema.specs.Held.{HoldsWorld}
use Rattle.sql_schema.specs.Steps.{LeavesNone}
use Rattle.sql_schema.proofs.StepLemmas.{early, kept_then}
use Rattle.sql_writes.specs.Known.{AreKnownOf, MovesKnown, TellsKnown}
use Rattle.sql_writes.specs.declared.known.KnownRows.{KnownRows}
use Rattle.sql_writes.proofs.plan_writes.write_changes.Goals as goal

-- two changes that are written as one, and the rest after them
module _ {X E : Type 0} (known after left : KnownRows) (first mid last : State) (plan rest : List RowWrite) (x y : RowWrite) (result : Result X E) (is : plan ≡ x ∷ y ∷ rest) (over : LeavesNone mid last) where
  abbrev Both : Type 0
  Both = HasCleanDisk mid → IsTrue first.in_transaction → (w : WorldLists) → HoldsWorld first.now w → AreKnownOf w known → (IsTrue mid.in_transaction × HoldsWorld mid.now (all_written (x ∷ y ∷ []) w)) × KeepsCommit first mid

  abbrev Learn : Type 0
  Learn = HasCleanDisk mid → IsTrue first.in_transaction → (w : WorldLists) → HoldsWorld first.now w → AreKnownOf w known → AreKnownOf (all_written (x ∷ y ∷ []) w) after

  written_then : Both → Learn → MovesKnown after mid last (all_written rest) result → MovesKnown known first last (all_written plan) result
  written_then two learns rests clean inside w holds of =
      let before = early mid last _ over clean in
      let x1 = two before inside w holds of in
      let x2 = rests clean x1.0.0 _ x1.0.1 (learns before inside w holds of) in
      (subst (λ (changes : List RowWrite). OnOk result (IsTrue last.in_transaction × HoldsWorld last.now (all_written changes w))) (sym is) x2.0, kept_then first mid last x1.1 x2.1)

  -- what is known after both, and after the rest
  known_then : Both → Learn → TellsKnown after mid last result (λ w. AreKnownOf (all_written rest w) left) → TellsKnown known first last result (λ w. AreKnownOf (all_written plan w) left)
  known_then two learns rests clean inside w holds of =
      let before = early mid last _ over clean in
      let x1 = two before inside w holds of in
      subst (λ (changes : List RowWrite). OnOk result (AreKnownOf (all_written changes w) left)) (sym is) (rests clean x1.0.0 _ x1.0.1 (learns before inside w holds of))

pub returns-in_ok-write_posting-in-Some-clause-moves : goal.returns-in_ok-write_posting-in-Some-clause-moves
returns-in_ok-write_posting-in-Some-clause-moves g c =
    written_then _ _ c.write_rest.new.known _ _ _ c.args.plan.now _ _ _ c.write_rest.result c.in-Some.ensures.begin c.write_rest.ensures.frame.survives c.in_ok-write_posting-in-Some.ensures.moves c.in_ok-write_posting-in-Some.ensures.known
    c.write_rest.ensures.moves

pub returns-in_ok-write_posting-in-Some-clause-known : goal.returns-in_ok-write_posting-in-Some-clause-known
returns-in_ok-write_posting-in-Some-clause-known g c =
    known_then _ _ _ _ _ _ c.args.plan.now _ _ _ c.write_rest.result c.in-Some.ensures.begin c.write_rest.ensures.frame.survives c.in_ok-write_posting-in-Some.ensures.moves c.in_ok-write_posting-in-Some.ensures.known c.write_rest.ensures.known

pub returns-in_ok-write_legs-in-Some-legs_of-clause-moves : goal.returns-in_ok-write_legs-in-Some-legs_of-clause-moves
returns-in_ok-write_legs-in-Some-legs_of-clause-moves g c =
    written_then _ _ c.write_rest-in-Some-legs_of.new.known _ _ _ c.args.plan.now _ _ _ c.write_rest-in-Some-legs_of.result c.in-Some-legs_of.ensures.begin c.write_rest-in-Some-legs_of.ensures.frame.survives
    c.in_ok-write_legs-in-Some-legs_of.ensures.moves c.in_ok-write_legs-in-Some-legs_of.ensures.known c.write_rest-in-Some-legs_of.ensures.moves

pub returns-in_ok-write_legs-in-Some-legs_of-clause-known : goal.returns-in_ok-write_legs-in-Some-legs_of-clause-known
returns-in_ok-write_legs-in-Some-legs_of-clause-known g c =
    known_then _ _ _ _ _ _ c.args.plan.now _ _ _ c.write_rest-in-Some-legs_of.result c.in-Some-legs_of.ensures.begin c.write_rest-in-Some-legs_of.ensures.frame.survives c.in_ok-write_legs-in-Some-legs_of.ensures.moves
    c.in_ok-write_legs-in-Some-legs_of.ensures.known c.write_rest-in-Some-legs_of.ensures.known
