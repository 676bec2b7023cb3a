-- By the clauses of what was served by the counter that was made of the cache.
use Rattle.std.proofs.Common.{ap, ap₂, inl, inr, refl, ◌∙◌}
use Rattle.store_cached.specs.Standing.{below, cached_status}
use Rattle.cli_counter.proofs.PartLemmas.{at, by_parts}
use Rattle.cli_counter.proofs.attending.attend_with_cache.Goals as goal

pub returns : goal.returns
returns g c = inl (record {
  began = c.in-Ok.cached;
  ended = c.into_parts-cached.result.0;
  over = c.in-Ok.ensures.below;
  empty = c.in-Ok.ensures.empty;
  unread = c.in-Ok.ensures.unread;
  attended = by_parts _ (cached_status g.S.StoreState.status) g.C.Clock.may_give c.args.places c.args.at.place _ _ _ _ _ _ _ _ _ _ _ _ _ c.attend_at-left.result.1
      (ap g.G.Gate.users c.in-Ok-new.ensures.gate) c.in-Ok-new.ensures.store c.in-Ok-new.ensures.clock c.into_parts-cached.ensures.store c.into_parts-cached.ensures.clock c.attend_at-left.ensures;
  uncovered = c.into_below-2.ensures;
})

pub returns-in-Err-new : goal.returns-in-Err-new
returns-in-Err-new g c =
    inr (refl, refl, ap₂ at (c.into_below.ensures ∙ ap below c.in-Err-new.ensures.returned.0 ∙ c.in-Ok.ensures.below) c.in-Err-new.ensures.returned.1, refl)
