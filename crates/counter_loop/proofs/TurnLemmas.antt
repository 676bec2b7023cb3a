-- One turn of a connection, from its reads and the step that ended it.
use Rattle.std.proofs.Common.{◌≡◌, ◌≤◌, ◌<◌, ℕ, Bool, true, false, List, [], ◌∷◌, length, Option, Some, Result, Ok, Err, refl, sym, ap, subst, ◌∙◌}
use Rattle.http_messages.specs.Inbox.{max_message_len}
use Rattle.http_messages.specs.Next.{IsPartial}
use Rattle.http_messages.specs.Parts.{MessageParts}
use Rattle.http_messages.specs.Step.{IsStep}
use Rattle.http_messages.specs.declared.engine.AnswerFault.{AnswerFault}
use Rattle.http_messages.specs.declared.step.Step.{Step}
use Rattle.http_messages.specs.declared.step.Step.TheVariants as step
use Rattle.http_connection.specs.Connection.{IsAnswered, closes_by, progress_of, side_of}
use Rattle.http_connection.specs.Parts.{ConnectionParts, closed}
use Rattle.http_connection.specs.declared.progress.Progress.{Progress}
use Rattle.http_connection.specs.declared.progress.Progress.TheVariants.{Answered, Closes, Waits}
use Rattle.store_rows.specs.Status.{Status}
use Rattle.counter_loop.specs.Boxes.{Drains, IsVisited, Reads}
use Rattle.counter_loop.specs.Service.{AnswersByBank}
use Rattle.counter_loop.specs.Turns.{IsTurnTaken, as_store_and_clock, is_last}
use Rattle.counter_door.specs.Ways.{IsEnded, Ways}
use Rattle.counter_loop.specs.declared.client.Client.{Client}
use Rattle.counter_loop.proofs.BoxLemmas.{Takes, reads_then, some_same, visited_drained, visited_taken}
use Rattle.counter_loop.proofs.StepLemmas.{taken_of, users_kept}

-- no turn follows a step that closes its connection, and no other
closes_last : (r : Result Step AnswerFault) → closes_by (progress_of r) ≡ is_last r false
closes_last (Ok step.Answered) = refl
closes_last (Ok step.Waiting) = refl
closes_last (Ok step.Closed) = refl
closes_last (Err fault) = refl

waits_by : (r : Result Step AnswerFault) → Waits ≡ progress_of r → r ≡ Ok step.Waiting
waits_by (Ok step.Answered) is = let x : Waits ≡ Answered = is in absurd cc
waits_by (Ok step.Waiting) is = refl
waits_by (Ok step.Closed) is = let x : Waits ≡ Closes = is in absurd cc
waits_by (Err fault) is = let x : Waits ≡ Closes = is in absurd cc

-- the same connection, with these parts
abbrev pub with_parts : {T : Type 0} → Client T → ConnectionParts → Client T
with_parts c parts = record c { connection = parts }

module _ {T E : Type 0} (begins : Option Ways → Bool) (ways : T → Option Ways) (status : E → Status) (users : E → List ℕ → Option ℕ) (may_give : E → ℕ → E → Type 0)
    (answers stops breaks : E → MessageParts → List ℕ → E → Type 0) (by_bank : AnswersByBank status users may_give answers stops breaks) where
  -- a step was taken over what was held after the reads
  pub record Stepped (d : Client T) (parts : ConnectionParts) (old new : E) (p : Progress) : Type 0 where
    pub is : IsAnswered answers stops breaks d.connection old parts new p
    pub bounded : length parts.held ≤ max_message_len

  pub stepped : (d : Client T) (parts : ConnectionParts) (old mid new : E) (p : Progress) → mid ≡ old → IsAnswered answers stops breaks d.connection mid parts new p → length parts.held ≤ max_message_len
      → Stepped d parts old new p
  stepped d parts old mid new p same is bounded = record { is = subst (λ e. IsAnswered answers stops breaks d.connection e parts new p) same is; bounded = bounded }

  taken_step : (c d : Client T) (parts : ConnectionParts) (old new : E) (p : Progress) → Reads ways c d → (s : Stepped d parts old new p) → (gave : List ℕ)
      → Takes begins ways status users may_give c (with_parts d parts) old new (is_last s.is.step false) gave
  taken_step c d parts old new p reads s gave =
      taken_of status users may_give answers stops breaks by_bank c.serial gave c.connection.held reads.came (side_of d.connection old) (side_of parts new) s.is.step false
      (ways c.stream) (ways d.stream) c.connection.unsent parts.unsent reads.moved (λ is. let x : false ≡ true = is in absurd cc) reads.held (ap Some reads.unsent) refl s.bounded s.is.is

  -- one turn, whichever way its step ended
  pub turn_stepped : (c d : Client T) (parts : ConnectionParts) (old new : E) (p : Progress) → c.connection.is_closing ≡ false → Reads ways c d → Stepped d parts old new p
      → IsVisited begins ways status users may_give (c.serial ∷ []) c (with_parts d parts) old new
  turn_stepped c d parts old new p open_still reads s =
      visited_taken begins ways status users may_give c (with_parts d parts) old new (is_last s.is.step false) open_still reads.serial (s.is.closing ∙ ap closes_by s.is.so ∙ closes_last s.is.step)
      (users_kept status users may_give answers stops breaks by_bank (side_of d.connection old) (side_of parts new) s.is.step s.is.is) (taken_step c d parts old new p reads s)

  -- nothing more was at hand after it
  pub turn_used_up : (c d f : Client T) (parts : ConnectionParts) (old new : E) (p : Progress) → c.connection.is_closing ≡ false → Reads ways c d → Stepped d parts old new p → Drains ways (with_parts d parts) f
      → IsVisited begins ways status users may_give (c.serial ∷ []) c f old new
  turn_used_up c d f parts old new p open_still reads s drains =
      visited_drained begins ways status users may_give c (with_parts d parts) f old new (c.serial ∷ []) (turn_stepped c d parts old new p open_still reads s) drains

  -- ---- a step that waits

  its_wait : (d : Client T) (parts : ConnectionParts) (old new : E) (p : Progress) → p ≡ Waits → (s : Stepped d parts old new p)
      → IsStep answers stops breaks (side_of d.connection old) (side_of parts new) (Ok step.Waiting)
  its_wait d parts old new p is s = subst (IsStep answers stops breaks (side_of d.connection old) (side_of parts new)) (waits_by s.is.step (sym is ∙ s.is.so)) s.is.is

  -- it leaves what it holds, too
  pub wait_reads : (c d : Client T) (parts : ConnectionParts) (old new : E) (p : Progress) → p ≡ Waits → c.connection.is_closing ≡ false → Reads ways c d → Stepped d parts old new p → Reads ways c (with_parts d parts)
  wait_reads c d parts old new p is open_still reads s =
      let w = its_wait d parts old new p is s in
      record {
        serial = reads.serial;
        closing = s.is.closing ∙ ap closes_by is ∙ sym open_still;
        unsent = some_same parts.unsent d.connection.unsent [] w.3 ∙ reads.unsent;
        came = reads.came;
        held = w.0.held ∙ reads.held;
        moved = reads.moved;
      }

  pub wait_same : (d : Client T) (parts : ConnectionParts) (old new : E) (p : Progress) → p ≡ Waits → Stepped d parts old new p → new ≡ old
  wait_same d parts old new p is s = (its_wait d parts old new p is s).0.engine

  pub wait_part : (d : Client T) (parts : ConnectionParts) (old new : E) (p : Progress) → p ≡ Waits → Stepped d parts old new p → IsPartial parts.held
  wait_part d parts old new p is s = (its_wait d parts old new p is s).1

  pub wait_less : (d : Client T) (parts : ConnectionParts) (old new : E) (p : Progress) → p ≡ Waits → Stepped d parts old new p → length parts.held < max_message_len
  wait_less d parts old new p is s = (its_wait d parts old new p is s).2

  -- ---- and a read after it, by which its client ended, or its stream failed

  taken_at_end : (c d f : Client T) (parts : ConnectionParts) (old new : E) (p : Progress) → p ≡ Waits → Reads ways c d → Stepped d parts old new p → Reads ways c f → Reads ways (with_parts d parts) f
      → f.connection.held ≡ parts.held → IsEnded (ways f.stream) → (gave : List ℕ) → Takes begins ways status users may_give c (with_parts f (closed f.connection)) old new true gave
  taken_at_end c d f parts old new p is reads s all last held ended gave =
      let w = its_wait d parts old new p is s in
      subst (λ l. IsTurnTaken status (users old) may_give c.serial gave (ways c.stream) (ways f.stream) c.connection.held l c.connection.unsent f.connection.unsent (as_store_and_clock old) (as_store_and_clock new) true) (sym held)
      (taken_of status users may_give answers stops breaks by_bank c.serial gave c.connection.held all.came (side_of d.connection old) (side_of parts new) (Ok step.Waiting) true
      (ways c.stream) (ways f.stream) c.connection.unsent f.connection.unsent all.moved (λ is. ended) (sym w.0.held ∙ sym held ∙ all.held) (ap Some reads.unsent) (ap Some (sym last.unsent)) s.bounded w)

  pub turn_ended : (c d f : Client T) (parts last_parts : ConnectionParts) (old new : E) (p : Progress) → p ≡ Waits → c.connection.is_closing ≡ false → Reads ways c d → Stepped d parts old new p
      → Reads ways (with_parts d parts) f → f.connection.held ≡ parts.held → IsEnded (ways f.stream) → last_parts ≡ closed f.connection
      → IsVisited begins ways status users may_give (c.serial ∷ []) c (with_parts f last_parts) old new
  turn_ended c d f parts last_parts old new p is open_still reads s last held ended closes =
      let all = reads_then ways c (with_parts d parts) f (wait_reads c d parts old new p is open_still reads s) last in
      subst (λ (x : ConnectionParts). IsVisited begins ways status users may_give (c.serial ∷ []) c (with_parts f x) old new) (sym closes)
      (visited_taken begins ways status users may_give c (with_parts f (closed f.connection)) old new true open_still all.serial refl
      (users_kept status users may_give answers stops breaks by_bank (side_of d.connection old) (side_of parts new) s.is.step s.is.is)
      (taken_at_end c d f parts old new p is reads s all last held ended))
