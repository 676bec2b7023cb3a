-- What is said above a cache that kept nothing as it began, said of the store below it.
use Rattle.std.proofs.Common.{◌≡◌, ℕ, List, [], Option, None, Result, arith, subst, sym}
use Rattle.bank_books.specs.WorldLists.{WorldLists}
use Rattle.store_rows.specs.Status.{Status, Tells}
use Rattle.store_cached.specs.Standing.{Suits, below, cached_status, known_version, remembered}
use Rattle.store_cached.specs.declared.cached.Cached.{Cached}
use Rattle.counter_api.specs.Day.{IsDay}
use Rattle.counter_api.specs.Run.{MarkedMessage}
use Rattle.counter_api.proofs.DayLemmas.{day_of_serve, replied_by_serve}
use Rattle.counter_clocks.specs.Standing.{gives_its_own, standing_at}
use Rattle.exit_lines.specs.Streams.{Streams}
use Rattle.http_messages.specs.declared.serving.ServeFault.{ServeFault}
use Rattle.http_messages.specs.declared.serving.Served.{Served}
use Rattle.counter_service.specs.Serving.{IsServedOver, IsServedThroughCache, most_messages}

suits_none : {S : Type 0} (c : Cached S) (w : WorldLists) → remembered c ≡ [] → known_version c ≡ None → Suits (known_version c) (remembered c) w
suits_none c w empty unread =
    subst (λ version. Suits version (remembered c) w) (sym unread)
    (subst (λ entries. Suits None entries w) (sym empty) ((λ entry there. absurd (omega (arith, there.1))), tt))

module _ {S : Type 0} (status : S → Status) where
  day_below : (users : List ℕ → Option ℕ) (began ended : Cached S) (ms : List MarkedMessage) → remembered began ≡ [] → known_version began ≡ None
      → IsDay users (cached_status status began) (cached_status status ended) ms → IsDay users (status (below began)) (status (below ended)) ms
  day_below users began ended ms empty unread day =
      let holds : (w : WorldLists) → (status (below began)).holds w → (cached_status status began).holds w = λ w held. (held, λ clean. suits_none began w empty unread) in
      record {
        honest = day.honest;
        moved = λ clean w held. (day.moved clean w (holds w held)).0;
        leaves = λ clean w held. day.leaves clean w (holds w held);
        whole = λ clean w held. day.whole clean w (holds w held);
        in_range = day.in_range;
        headline = day.headline;
      }

  pub day_uncovered : (users : List ℕ → Option ℕ) (began ended : Cached S) (opened left : S) (ms : List MarkedMessage) → below began ≡ opened → left ≡ below ended → remembered began ≡ [] → known_version began ≡ None
      → IsDay users (cached_status status began) (cached_status status ended) ms → IsDay users (status opened) (status left) ms
  day_uncovered users began ended opened left ms over uncovered empty unread day =
      subst (λ s. IsDay users (status s) (status left) ms) over
      (subst (λ s. IsDay users (status (below began)) (status s) ms) (sym uncovered) (day_below users began ended ms empty unread day))

  pub tells_uncovered : (began ended : Cached S) (opened left : S) → below began ≡ opened → left ≡ below ended → remembered began ≡ [] → known_version began ≡ None
      → (P : WorldLists → Type 0) → Tells (cached_status status began) (cached_status status ended) P → Tells (status opened) (status left) P
  tells_uncovered began ended opened left over uncovered empty unread P tells clean w held =
      tells (subst (λ s. (status s).is_honest) uncovered clean) w (subst (λ s. (status s).holds w) (sym over) held, λ honest. suits_none began w empty unread)

  pub through : (users : List ℕ → Option ℕ) (began ended : Cached S) (opened left : S) (moment : ℕ) (old new : Streams) (result : Result Served ServeFault)
      → below began ≡ opened → left ≡ below ended → remembered began ≡ [] → known_version began ≡ None
      → IsServedOver (cached_status status) users began moment old new ended result → IsServedThroughCache status users opened moment old new left result
  through users began ended opened left moment old new result over uncovered empty unread served = record {
    began = began;
    ended = ended;
    over = over;
    empty = empty;
    unread = unread;
    served = served;
    uncovered = uncovered;
    day = day_uncovered users began ended opened left _ over uncovered empty unread
        (day_of_serve (cached_status status) users gives_its_own most_messages
        (record { left = old.input.bytes; written = old.output.bytes; store = began; clock = standing_at moment })
        (record { left = new.input.bytes; written = new.output.bytes; store = ended; clock = served.clock })
        result served.exit);
    replied = tells_uncovered began ended opened left over uncovered empty unread _
        (replied_by_serve (cached_status status) users gives_its_own most_messages
        (record { left = old.input.bytes; written = old.output.bytes; store = began; clock = standing_at moment })
        (record { left = new.input.bytes; written = new.output.bytes; store = ended; clock = served.clock })
        result served.exit);
  }
