use Rattle.std.proofs.Common.{◌∙◌, refl, subst}
use Rattle.sqlite.specs.Held.{state}
use Rattle.sqlite.specs.Steps.{over_memory}
use Rattle.sqlite.proofs.Callers.{memory_is_clean}
use Rattle.bank_books.specs.WorldLists.{WorldLists}
use Rattle.bank_meaning.specs.Sums.{PassesChecks}
use Rattle.sql_schema.specs.Held.{HoldsBank}
use Rattle.sample_service.proofs.tables.sql_sample.Goals as goal

-- memory is always clean, and never shut
pub returns-in-Ok : goal.returns-in-Ok
returns-in-Ok c =
    let clean = memory_is_clean c.in-Ok.store.conn in
    let kept = c.in-Ok.ensures.kept clean in
    record {
      passes = subst PassesChecks c.in_ok-world.ensures (record { in_order = c.world_is_in_order.ensures; books = c.in-Ok.ensures.bank.books; sound = c.in-Ok.ensures.bank.policy.0; separated = c.in-Ok.ensures.bank.policy.1 });
      holds = (λ _ _. subst (λ (w : WorldLists). HoldsBank (state over_memory c.in-Ok.store.conn) w) c.in_ok-world.ensures kept.holds, λ _. c.in-Ok.ensures.known _);
      only = λ w h. kept.only w (h.0 clean refl) ∙ c.in_ok-world.ensures;
    }
