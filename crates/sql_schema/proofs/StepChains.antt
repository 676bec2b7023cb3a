-- Frames, reads and steps, one after another.
use Rattle.std.specs.Borrow.{MutBor}
use Rattle.std.proofs.Common.{◌∙◌, IsErr, Ok, Result}
use Rattle.sqlite.specs.Held.{Held, state}
use Rattle.sqlite.proofs.StateLemmas.{survives_then}
use Rattle.sqlite_trees.specs.declared.store.Store.{Ghosts}
use Rattle.book_kept.specs.Sheets.{Sheets}
use Rattle.sql_schema.specs.Steps.{Frame, Reads, Step, Steps}
use Rattle.sql_schema.proofs.StepLemmas.{always_ok, early, kept_then, none_ok}

pub then_frame : {S : Type 0} {store : Ghosts S} {a b c : MutBor (Held S)} → Frame store a b → Frame store b c → Frame store a c
then_frame {store = store} {a = a} {b = b} {c = c} one two = record {
  same = two.same ∙ one.same;
  survives = survives_then (state store a.now) (state store b.now) (state store c.now) _ _ _ (λ _ db none. none) (λ _ db none. none) one.survives two.survives;
}

pub stepped : {S X E : Type 0} {store : Ghosts S} {a b : MutBor (Held S)} {f : Sheets → Sheets} {r : Result X E} → Frame store a b → Steps (state store a.now) (state store b.now) f r → Step store a b f r
stepped frame steps = record { same = frame.same; survives = frame.survives; steps = steps }

-- the frame of a read
pub of_read : {S X E : Type 0} {store : Ghosts S} {a b : MutBor (Held S)} {r : Result X E} → Reads store a b r → Frame store a b
of_read read = record { same = read.same; survives = read.survives }

-- a step that makes nothing of the rows
pub read_step : {S X E : Type 0} {store : Ghosts S} {a b : MutBor (Held S)} {r : Result X E} → Reads store a b r → Step store a b (λ s. s) r
read_step read = record { same = read.same; survives = read.survives; steps = read.stays }

pub then_step : {S X Y E F : Type 0} {store : Ghosts S} {a b c : MutBor (Held S)} {f g : Sheets → Sheets} {x : X} {r : Result Y E}
    → Step {E = F} store a b f (Ok x) → Step store b c g r → Step store a c (λ s. g (f s)) r
then_step {store = store} {a = a} {b = b} {c = c} one two = record {
  same = two.same ∙ one.same;
  survives = survives_then (state store a.now) (state store b.now) (state store c.now) _ _ _ (λ _ db none. none) (λ _ db none. none) one.survives two.survives;
  steps = λ clean inside s holds.
      let x1 = one.steps (early (state store b.now) (state store c.now) _ two.survives clean) inside s holds in
      let x2 = two.steps clean x1.0.0 _ x1.0.1 in
      (x2.0, kept_then (state store a.now) (state store b.now) (state store c.now) x1.1 x2.1);
}

-- a step that is refused says the same whatever it was to make of the rows
pub stopped : {S X Y E F : Type 0} {store : Ghosts S} {a b : MutBor (Held S)} {f g : Sheets → Sheets} {first : Result X F} {r : Result Y E} → IsErr r → Step store a b f first → Step store a b g r
stopped {r = r} is one = record {
  same = one.same;
  survives = one.survives;
  steps = λ clean inside s holds. (none_ok r _ is, (one.steps clean inside s holds).1);
}

-- after a step that went through, whatever the answer is
pub answered : {S X Y E F : Type 0} {store : Ghosts S} {a b : MutBor (Held S)} {f : Sheets → Sheets} {x : X} → Step {E = F} store a b f (Ok x) → (r : Result Y E) → Step store a b f r
answered one r = record {
  same = one.same;
  survives = one.survives;
  steps = λ clean inside s holds. let it = one.steps clean inside s holds in (always_ok r _ it.0, it.1);
}

-- the same of reads
pub read_stopped : {S X Y E F : Type 0} {store : Ghosts S} {a b : MutBor (Held S)} {first : Result X F} {r : Result Y E} → IsErr r → Reads store a b first → Reads store a b r
read_stopped {r = r} is one = record {
  same = one.same;
  survives = one.survives;
  stays = λ clean inside s holds. (none_ok r _ is, (one.stays clean inside s holds).1);
  was_open = λ clean. (none_ok r _ is, (one.was_open clean).1);
}

pub read_answered : {S X Y E F : Type 0} {store : Ghosts S} {a b : MutBor (Held S)} {x : X} → Reads {E = F} store a b (Ok x) → (r : Result Y E) → Reads store a b r
read_answered one r = record {
  same = one.same;
  survives = one.survives;
  stays = λ clean inside s holds. let it = one.stays clean inside s holds in (always_ok r _ it.0, it.1);
  was_open = λ clean. let it = one.was_open clean in (always_ok r _ it.0, it.1);
}

pub then_read : {S X Y E F : Type 0} {store : Ghosts S} {a b c : MutBor (Held S)} {x : X} {r : Result Y E} → Reads {E = F} store a b (Ok x) → Reads store b c r → Reads store a c r
then_read {store = store} {b = b} {c = c} {r = r} one two =
    let both = then_step (read_step one) (read_step two) in
    record {
      same = both.same;
      survives = both.survives;
      stays = both.steps;
      was_open = λ clean. let it = one.was_open (early (state store b.now) (state store c.now) _ two.survives clean) in (always_ok r _ it.0, λ _. it.0);
    }
