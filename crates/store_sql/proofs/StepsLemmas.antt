-- Reads of tables as reads of Worlds.
use Rattle.std.proofs.Common.{◌≡◌, IsErr, IsTrue, Ok, Result, subst}
use Rattle.std.specs.Prelude.{IfOk}
use Rattle.std.specs.Borrow.{MutBor}
use Rattle.std.proofs.lemmas.Result.{IfOk-from_err, IfOk-weaker}
use Rattle.sqlite.specs.Held.{Held, state}
use Rattle.sqlite.specs.State.{HasCleanDisk}
use Rattle.sqlite_trees.specs.declared.store.Store.{Ghosts}
use Rattle.bank_books.specs.WorldLists.{WorldLists}
use Rattle.book_kept.specs.Keepable.{IsKeepable}
use Rattle.book_kept.specs.Sheets.{Sheets, sheets_of}
use Rattle.sql_schema.specs.Reads.{ReadsWorld}
use Rattle.sql_schema.specs.Steps.{FindsHeld, FindsHeldInside, Reads, Step}
use Rattle.sql_schema.proofs.StepChains.{read_answered, read_step, read_stopped, then_step}
use Rattle.sql_schema.proofs.StepLemmas.{always_ok, early}
use Rattle.sql_schema.proofs.WorldLemmas.{moves_nothing, tables_of}
use Rattle.sql_schema.proofs.WorldReads.{reads_world}

-- what is found among the rows is so of the World that they are of
pub read_found : {S A E : Type 0} {store : Ghosts S} {a b : MutBor (Held S)} {says : WorldLists → A → Type 0} {r : Result A E} (finds : Sheets → A → Type 0)
    → Reads store a b r → FindsHeld (state store a.now) (state store b.now) r finds → ((w : WorldLists) → IsKeepable w → (x : A) → finds (sheets_of w) x → says w x)
    → ReadsWorld (state store a.now) (state store b.now) says r
read_found {store = store} {a = a} {b = b} {says = says} {r = r} finds read found means =
    reads_world (state store a.now) (state store b.now) finds says r means found read.stays read.was_open read.survives

-- What is made of what was found says something of the World. Where it is not made, nothing is said.
pub made_inside : {S X A E F : Type 0} {store : Ghosts S} {a b : MutBor (Held S)} {says : WorldLists → A → Type 0} {first : Result X E} {x : X} {r : Result A F} (finds : Sheets → X → Type 0)
    → Reads store a b first → FindsHeldInside (state store a.now) (state store b.now) first finds → first ≡ Ok x → ((w : WorldLists) → IsKeepable w → finds (sheets_of w) x → IfOk r (says w))
    → ReadsWorld (state store a.now) (state store b.now) says r
made_inside {store = store} {a = a} {b = b} {r = r} finds read found is means =
    let it = read_answered (subst (Reads store a b) is read) r in
    record {
      stated = λ clean inside w holds. means w holds.world.keepable (subst (λ f. IfOk f (finds (sheets_of w))) is (found clean inside (sheets_of w) (tables_of (state store a.now).now w holds)));
      moves = moves_nothing (state store a.now) (state store b.now) r it.stays;
      stays_open = it.was_open;
      survives = it.survives;
    }

pub made_of : {S X A E F : Type 0} {store : Ghosts S} {a b : MutBor (Held S)} {says : WorldLists → A → Type 0} {first : Result X E} {x : X} {r : Result A F} (finds : Sheets → X → Type 0)
    → Reads store a b first → FindsHeld (state store a.now) (state store b.now) first finds → first ≡ Ok x → ((w : WorldLists) → IsKeepable w → finds (sheets_of w) x → IfOk r (says w))
    → ReadsWorld (state store a.now) (state store b.now) says r
made_of finds read found = made_inside finds read (λ clean inside. found clean)

-- of a read that was refused nothing is said
pub read_refused : {S X A E F : Type 0} {store : Ghosts S} {a b : MutBor (Held S)} {says : WorldLists → A → Type 0} {first : Result X E} {r : Result A F} → IsErr r → Reads store a b first
    → ReadsWorld (state store a.now) (state store b.now) says r
read_refused {store = store} {a = a} {b = b} {says = says} {r = r} is read =
    let it = read_stopped {r = r} is read in
    reads_world (state store a.now) (state store b.now) (λ _ _. ⊥) says r (λ w can x none. absurd none) (λ clean s holds. IfOk-from_err r _ is) it.stays it.was_open it.survives

-- what is found after a read that went through is so of the World, with what that read found
pub read_after : {S X A E F : Type 0} {store : Ghosts S} {a b c : MutBor (Held S)} {says : WorldLists → A → Type 0} {first : Result X E} {x : X} {r : Result A F} (knows : Sheets → X → Type 0) (finds : Sheets → A → Type 0)
    → Reads store a b first → FindsHeldInside (state store a.now) (state store b.now) first knows → first ≡ Ok x
    → Step store b c (λ s. s) r → FindsHeldInside (state store b.now) (state store c.now) r finds → (HasCleanDisk (state store c.now) → IsTrue (state store c.now).is_open → IsTrue (state store b.now).is_open)
    → ((w : WorldLists) → IsKeepable w → knows (sheets_of w) x → (y : A) → finds (sheets_of w) y → says w y) → ReadsWorld (state store a.now) (state store c.now) says r
read_after {store = store} {a = a} {b = b} {c = c} {r = r} knows finds read known is two found opens means =
    let before = early (state store b.now) (state store c.now) _ two.survives in
    let one = subst (Reads store a b) is read in
    let both = then_step (read_step one) two in
    record {
      stated = λ clean inside w holds.
          let held = tables_of (state store a.now).now w holds in
          let was = one.stays (before clean) inside (sheets_of w) held in
          IfOk-weaker r _ _ (means w holds.world.keepable (subst (λ f. IfOk f (knows (sheets_of w))) is (known (before clean) inside (sheets_of w) held))) (found clean was.0.0 (sheets_of w) was.0.1);
      moves = moves_nothing (state store a.now) (state store c.now) r both.steps;
      stays_open = λ clean. let was = one.was_open (before clean) in (always_ok r _ was.0, λ is_open. was.1 (opens clean is_open));
      survives = both.survives;
    }
