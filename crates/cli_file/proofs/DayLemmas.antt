-- From the run of a store to the day of the bank in its file.
use Rattle.std.proofs.Common.{◌≡◌, ℕ, List, [], Option, None, inl, inr, arith, sym, subst}
use Rattle.sqlite_disk.specs.declared.Disk.{Ghosts}
use Rattle.sqlite_wal.specs.Recovery.{Image}
use Rattle.sqlite.specs.declared.FileStore.{FileStore}
use Rattle.sqlite.specs.Files.{file_state}
use Rattle.sqlite.specs.Held.{Held}
use Rattle.sqlite.specs.State.{HasCleanDisk}
use Rattle.bank_books.specs.WorldLists.{WorldLists}
use Rattle.store_rows.specs.Status.{Status, Tells}
use Rattle.store_cached.specs.Standing.{Suits, below, cached_status, known_version, remembered}
use Rattle.store_cached.specs.declared.cached.Cached.{Cached}
use Rattle.counter_api.specs.Day.{IsDay}
use Rattle.counter_api.specs.Run.{MarkedMessage, requests_of}
use Rattle.counter_api.proofs.RunLemmas.{more_pending}
use Rattle.cli_file.specs.BankDay.{IsBankDay}
use Rattle.cli_file.specs.Crash.{IsLeftByCrash}
use Rattle.cli_file.specs.Files.{BankStore, IsFound, file_status}
use Rattle.cli_file.specs.Opened.{IsBankImage, IsOpenedFrom}
use Rattle.cli_file.proofs.CrashLemmas.{acts_once_over_crash, left_by_crash}

-- ---- below a cache that kept nothing as it began

suits_none : {S : Type 0} (c : Cached S) (w : WorldLists) → remembered c ≡ [] → known_version c ≡ None → Suits (known_version c) (remembered c) w
suits_none c w empty unread =
    subst (λ version. Suits version (remembered c) w) (sym unread)
    (subst (λ entries. Suits None entries w) (sym empty) ((λ entry there. absurd (omega (arith, there.1))), tt))

day_below : {S : Type 0} (status : S → Status) (users : List ℕ → Option ℕ) (began ended : Cached S) (ms : List MarkedMessage) → remembered began ≡ [] → known_version began ≡ None
    → IsDay users (cached_status status began) (cached_status status ended) ms → IsDay users (status (below began)) (status (below ended)) ms
day_below status users began ended ms empty unread day =
    let holds : (w : WorldLists) → (status (below began)).holds w → (cached_status status began).holds w = λ w held. (held, λ clean. suits_none began w empty unread) in
    record {
      honest = day.honest;
      moved = λ clean w held. (day.moved clean w (holds w held)).0;
      leaves = λ clean w held. day.leaves clean w (holds w held);
      whole = λ clean w held. day.whole clean w (holds w held);
      in_range = day.in_range;
      headline = day.headline;
    }

module _ {S : Type 0} (status : S → Status) where
  -- what is said above a cache that kept nothing as it began is said of the store below it
  pub tells_below : (began ended : Cached S) (opened left : S) → below began ≡ opened → left ≡ below ended → remembered began ≡ [] → known_version began ≡ None
      → (P : WorldLists → Type 0) → Tells (cached_status status began) (cached_status status ended) P → Tells (status opened) (status left) P
  tells_below began ended opened left over uncovered empty unread P tells clean w held =
      tells (subst (λ s. (status s).is_honest) uncovered clean) w (subst (λ s. (status s).holds w) (sym over) held, λ honest. suits_none began w empty unread)

  pub day_uncovered : (users : List ℕ → Option ℕ) (began ended : Cached S) (opened left : S) (ms : List MarkedMessage) → below began ≡ opened → left ≡ below ended → remembered began ≡ [] → known_version began ≡ None
      → IsDay users (cached_status status began) (cached_status status ended) ms → IsDay users (status opened) (status left) ms
  day_uncovered users began ended opened left ms over uncovered empty unread day =
      subst (λ s. IsDay users (status s) (status left) ms) over
      (subst (λ s. IsDay users (status (below began)) (status s) ms) (sym uncovered) (day_below status users began ended ms empty unread day))

-- ---- the day

module _ {D : Type 0} {g : Ghosts D} (users : List ℕ → Option ℕ) (opened : Held (FileStore D g)) (begun ended : BankStore D g) (ms : List MarkedMessage) (found : IsFound opened begun)
    (day : IsDay users (file_status begun) (file_status ended) ms) (AreReplied : WorldLists → Type 0) (replied : Tells (file_status begun) (file_status ended) AreReplied) where
  pub bank_day : (image : Image) (w : WorldLists) → IsBankImage image w → IsOpenedFrom image opened → HasCleanDisk (file_state ended.conn) → IsBankDay users w ms AreReplied (file_status ended)
  bank_day image w of from clean =
      let began_clean : HasCleanDisk (file_state begun.conn) = day.honest clean in
      let bank = found.bank image w of from began_clean in
      let holds : (file_status begun).holds w = (λ honest is_open. bank.holds is_open, λ honest. found.begins.known w) in
      let leaves : (left : WorldLists) → (file_status ended).may_leave left → IsLeftByCrash w (requests_of users ms) left =
      λ left may. elim (day.leaves clean w holds left may) [
        | inl is ↦ inl is
        | inr pending ↦ elim (more_pending users (file_status begun).may_leave (λ l. l ≡ w) w ms (λ l was. inl (bank.alone l was)) left pending) [
          | inl is ↦ inl is
          | inr is ↦ left_by_crash users w ms left is
        ]
      ] in
      record {
        checked = bank.checked;
        in_range = day.in_range;
        headline = day.headline w bank.checked;
        replied = replied clean w holds;
        holds = day.moved clean w holds;
        leaves = leaves;
        sent_again = λ left may. acts_once_over_crash w (requests_of users ms) left (leaves left may);
        whole = day.whole clean w holds (λ trees may. (w, bank.durable trees may));
      }
