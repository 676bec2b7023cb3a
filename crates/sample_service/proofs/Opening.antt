-- Stores of the sample bank's opening books.
use Rattle.std.proofs.Common.{◌≡◌, ◌∙◌, [], ℕ, Option, Some, None, Result, arith, inl, inr, subst, sym}
use Rattle.bank_books.specs.WorldLists.{WorldLists}
use Rattle.bank_meaning.specs.Sums.{PassesChecks}
use Rattle.store_cached.specs.Fresh.{AreFresh}
use Rattle.store_cached.specs.Standing.{below, cached_status, known_version, remembered}
use Rattle.store_cached.specs.declared.cached.Cached.{Cached}
use Rattle.exit_lines.specs.Streams.{Streams}
use Rattle.http_messages.specs.declared.serving.ServeFault.{ServeFault}
use Rattle.http_messages.specs.declared.serving.Served.{Served}
use Rattle.sample_bank.specs.Opening.{sample_opening}
use Rattle.sample_service.specs.Serving.{IsOpening, IsSampleServed, IsSampleServedWithCache}
use Rattle.store_rows.specs.ListStore.{list_status}
use Rattle.store_rows.specs.Status.{Status}
use Rattle.store_rows.specs.declared.list_store.ListStore.{ListStore}

-- one that represents these books alone
pub opens_with : (store : ListStore) (world : WorldLists) → world ≡ sample_opening → PassesChecks world → (list_status store).holds world
    → ((w : WorldLists) → (list_status store).holds w → w ≡ world) → IsOpening list_status store
opens_with store world same passes holds only = record {
  passes = subst PassesChecks same passes;
  holds = subst (λ (w : WorldLists). (list_status store).holds w) same holds;
  only = λ w h. only w h ∙ same;
}

-- one with a cache over such a store that keeps nothing yet
pub opens_with_cache : {S : Type 0} (status : S → Status) (cached : Cached S) (store : S) → below cached ≡ store → remembered cached ≡ [] → known_version cached ≡ None
    → IsOpening status store → IsOpening (cached_status status) cached
opens_with_cache status cached store same empty unread opens = record {
  passes = opens.passes;
  holds = (
    subst (λ s. (status s).holds sample_opening) (sym same) opens.holds,
    λ _. (subst (AreFresh sample_opening) (sym empty) (λ entry has. absurd (omega (arith, has.1))), rw unread search),
  );
  only = λ w h. opens.only w (subst (λ s. (status s).holds w) same h.0);
}

-- What was served with a cache in front was served over a store together with its cache.
pub served_through : {S : Type 0} (status : S → Status) (moment : ℕ) (old new : Streams) (left : Option S) (result : Result Served ServeFault)
    → IsSampleServedWithCache status moment old new left result
    → (ended : Option (Cached S)) × IsSampleServed (cached_status status) moment old new ended result
served_through status moment old new None result served = (None, served)
served_through status moment old new (Some left) result (opened, opens, inl through) =
    (Some through.ended, (through.began, opens_with_cache status through.began opened through.over through.empty through.unread opens, through.served))
served_through status moment old new (Some left) result (opened, opens, inr (refused, same, unread)) = (None, (refused, unread))
