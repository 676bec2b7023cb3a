-- What an open finds in a file that says that its pages end in sums.
use Rattle.std.proofs.Common.{◌≡◌, ◌⊎◌, ◌≤◌, ◌<◌, ◌+◌, ◌-◌, ◌*◌, ◌%◌, ◌∙◌, ℕ, true, false, inl, inr, arith, List, [], length, take, slice_index, Option, Some, None, unwrap_or, cond, eqb, refl, sym, ap, ap₂, subst, subst₂, get_or-take, length-take-le, le-ltb, take_all, zero-add}
use Rattle.std.proofs.lemmas.List.{get_or_past}
use Rattle.std.proofs.lemmas.Bool.{cases_Bool, cases_lt}
use Rattle.std.proofs.Math.Logic.{∥∥₁_elim, ∥∥₁_map}
use Rattle.std.proofs.Math.Path.{fun_ext}
use native.Mathlib.Nat.{ℕ_set}
use Rattle.sqlite_disk.specs.declared.Disk.{Ghosts}
use Rattle.sqlite_pages.specs.PageMap.{PageMap}
use Rattle.sqlite_pool.specs.File.{IsSoundFile, header_in}
use Rattle.sqlite_pool.specs.Stored.{Adopts, is_among, reserved, sealed, stored_size, trimmed}
use Rattle.sqlite_pool.specs.StoredLaws.{trimmed_some}
use Rattle.sqlite_pool.proofs.ProbeLemmas.{reserved_word, size_by_log}
use Rattle.sqlite_wal.specs.Format.{part}
use Rattle.sqlite_wal.specs.PageSize.{size_in_file}
use Rattle.sqlite_wal.specs.Recovery.{AreFramesOf, Image, IsIgnored, Pages, pages_after}
use Rattle.sqlite_wal.specs.Recovery as raw
use Rattle.sqlite_wal.proofs.AppendLemmas.{page_from_pages, some_value}
use Rattle.sqlite_wal.proofs.PartLemmas.{part_within, slice_index-part}
use Rattle.sqlite_wal.proofs.RecoveryLemmas.{recovers_once, replays_once}
use Rattle.sqlite.specs.declared.FileStore.{FileStore}
use Rattle.sqlite.specs.Files.{HoldsDatabase}
use Rattle.sqlite.specs.Held.{Held}
use Rattle.cli_file.specs.Laws.{OpensUndamaged, OpensWithItsSums}
use Rattle.cli_file.specs.Sums.{EachEndsInSum, EndsInSum, SaysItsSums}
use Rattle.cli_file.proofs.OpenedLemmas.{opens_as_its_bank}

-- ---- the length of a page

small_sum : (size : ℕ) → reserved size ≤ 8
small_sum size = elim (cases_Bool (eqb (size % 16) 8)) [ inl eight ↦ rw eight (omega arith) | inr other ↦ rw other (omega arith) ]

module _ (size : ℕ) (image : Image) (pages : PageMap) (found : Adopts size image pages) (sound : IsSoundFile size pages) where
  -- page 1, of which the header is a beginning
  header_is : (page : List ℕ) → found.stored 1 ≡ Some page → header_in pages ≡ take 100 (take size page)
  header_is page is =
      let used : pages 1 ≡ Some (take size page) = ap (λ (p : PageMap). p 1) (sym found.shows) ∙ trimmed_some size found.stored 1 page is in
      ap (λ (o : Option (List ℕ)). take 100 (unwrap_or o [])) used

  -- the header has more than its first 20 bytes
  long_enough : 20 < size
  long_enough =
      let (page, is) = some_value (found.stored 1) found.whole.first in
      let head = header_is page is in
      elim (cases_lt 20 size) [
        | inl long ↦ long
        | inr short ↦
            let long : length page ≡ stored_size size = found.whole.sized 1 page is in
            let used : length (take size page) ≡ size = length-take-le size page (omega (arith, long)) in
            let whole : take 100 (take size page) ≡ take size page = take_all 100 (take size page) (omega (arith, used, short)) in
            let none = λ (k : ℕ) (past : 20 ≤ k). ap (λ (b : List ℕ). slice_index b k) (head ∙ whole) ∙ get_or_past (take size page) k 0 (omega (arith, used, short, past)) in
            absurd (omega (arith, sound.header.1.fractions, none 20 (omega arith), none 21 (omega arith), none 22 (omega arith), none 23 (omega arith)))
      ]

  -- with no frame to replay, the header is that of the database file
  named_by_file : IsIgnored image.log → size_in_file image.db ≡ stored_size size
  named_by_file ignored =
      let whole = stored_size size in
      let none = replays_once whole image.log found.found.frames 0 found.found.replays (inl (ignored, refl)) in
      let (page, is) = some_value (found.stored 1) found.whole.first in
      let alone : pages_after whole image.log image.db 0 1 ≡ Some page = ap (λ (p : Pages). p 1) (ap (pages_after whole image.log image.db) (sym none) ∙ found.found.gives) ∙ is in
      let start : (1 - 1) * whole ≡ 0 = omega arith in
      let front : part image.db 0 whole ≡ page = ap (λ (at : ℕ). part image.db at whole) (sym start) ∙ (page_from_pages whole image.log image.db 0 1 page alone).0 in
      let large = long_enough in
      let long = part_within image.db 0 whole (omega arith) (ap length front ∙ found.whole.sized 1 page is) in
      let head : header_in pages ≡ take 100 (take size (part image.db 0 whole)) = header_is page is ∙ ap (λ (b : List ℕ). take 100 (take size b)) (sym front) in
      let byte : (k : ℕ) → k < 18 → slice_index (header_in pages) k ≡ slice_index image.db k = λ k low. ap (λ (b : List ℕ). slice_index b k) head
      ∙ get_or-take 100 (take size (part image.db 0 whole)) k 0 (omega arith) ∙ get_or-take size (part image.db 0 whole) k 0 (omega arith)
      ∙ slice_index-part image.db 0 whole k (omega arith) ∙ ap (slice_index image.db) (zero-add k) in
      let named = ap₂ (λ (a b : ℕ). a * 256 + b) (byte 16 (omega arith)) (byte 17 (omega arith)) in
      rw (le-ltb (length image.db) 18 (omega arith)) (ap (λ (n : ℕ). cond (eqb n 1) 65536 n) (sym named) ∙ sound.header.0.size)

  module _ (len : ℕ) (says : SaysItsSums len image) where
    pub len_is : stored_size size ≡ len
    len_is = elim found.found.replays [
      | inl ignored ↦ sym (named_by_file ignored.0) ∙ sym (says.size.1 ignored.0)
      | inr taken ↦ elim (cases_lt (length image.log) 56) [
        | inl short ↦ sym (named_by_file (inl short)) ∙ sym (says.size.1 (inl short))
        | inr long ↦
            let read : ¬ IsIgnored image.log = λ ignored. elim ignored [ inl short ↦ omega arith | inr unsigned ↦ unsigned taken.0.head.signed ] in
            sym (size_by_log size image pages found read) ∙ sym (says.size.0 read)
      ]
    ]

    pub size_is : size ≡ len - 8
    size_is =
        let all = len_is in
        let large = says.is_size.0 in
        let small = small_sum size in
        let word = reserved_word size image pages found (omega (arith, all, large, small)) sound in
        let said = says.sums found.stored word.0 (subst (λ (l : ℕ). raw.Recovers l image found.stored) all found.found) word.1 (word.2 ∙ all) in
        omega (arith, word.3, said, all)

-- ---- the pages

module _ (size : ℕ) (image : Image) (pages : PageMap) (found : Adopts size image pages) (len : ℕ) (all : stored_size size ≡ len) (used : size ≡ len - 8) where
  pub stored_at : raw.Recovers len image found.stored
  stored_at = subst (λ (l : ℕ). raw.Recovers l image found.stored) all found.found

  pub logged_at : AreFramesOf len image.log found.numbers
  logged_at = subst (λ (l : ℕ). AreFramesOf l image.log found.numbers) all found.frames

  pub each_ends : (n : ℕ) (page : List ℕ) → found.stored n ≡ Some page → is_among found.numbers n ≡ false → EndsInSum len page
  each_ends n page there free = subst (λ (s : ℕ). page ≡ sealed (take s page)) used (found.sealed n page there free)

  pub each_ends_in_sum : EachEndsInSum len image
  each_ends_in_sum stored recovers =
      let same = recovers_once len image stored found.stored recovers stored_at in
      (found.numbers, logged_at, λ n page there free. each_ends n page (ap (λ (p : Pages). p n) (sym same) ∙ there) free)

pub opens_with_its_sums : {D : Type 0} {g : Ghosts D} (conn : Held (FileStore D g)) → OpensWithItsSums conn
opens_with_its_sums conn len image says from clean =
    elim (from.found clean).reads [
      | inr nothing ↦ absurd (says.there nothing.0)
      | inl (size, pages, wanted, found, ours, trees) ↦
          let all = ∥∥₁_elim ours (ℕ_set _ _) (λ o. len_is size image pages found o.file.sound len says) in
          let used = ∥∥₁_elim ours (ℕ_set _ _) (λ o. size_is size image pages found o.file.sound len says) in
          each_ends_in_sum size image pages found len all used
    ]

-- ---- damage

-- a page that is there ends in its sum, or is in the log; so it is as it was
same_page : (len n : ℕ) (logged : List ℕ) (is was : Option (List ℕ)) → (is ≡ None → was ≡ None)
    → ((page : List ℕ) → is ≡ Some page → EndsInSum len page ⊎ (is_among logged n ≡ true) → was ≡ Some page)
    → ((page : List ℕ) → is ≡ Some page → is_among logged n ≡ false → EndsInSum len page) → is ≡ was
same_page len n logged None was ends same sealed = sym (ends refl)
same_page len n logged (Some page) was ends same sealed =
    sym (same page refl (elim (cases_Bool (is_among logged n)) [ inl among ↦ inr among | inr other ↦ inl (sealed page refl other) ]))

pub opens_undamaged : {D : Type 0} {g : Ghosts D} (conn : Held (FileStore D g)) → OpensUndamaged conn
opens_undamaged conn len old new w held says_old says_new none from clean =
    elim (from.found clean).reads [
      | inr nothing ↦ absurd (says_new.there nothing.0)
      | inl (size, pages, wanted, found, ours, trees) ↦
          let all = ∥∥₁_elim ours (ℕ_set _ _) (λ o. len_is size new pages found o.file.sound len says_new) in
          let used = ∥∥₁_elim ours (ℕ_set _ _) (λ o. size_is size new pages found o.file.sound len says_new) in
          let read = recovers_once len new found.stored none.is (stored_at size new pages found len all used) none.found_is in
          let same : none.is ≡ none.was = fun_ext λ n. same_page len n found.numbers (none.is n) (none.was n) (none.ends n)
          (none.same found.numbers (logged_at size new pages found len all used) n)
          (λ page there free. each_ends size new pages found len all used n page (ap (λ (p : Pages). p n) read ∙ there) free) in
          let still : HoldsDatabase old held.trees → HoldsDatabase new held.trees = λ it.
          let was = it.2 in
          let all_old = len_is it.0 old was.pages was.found was.ours.file.sound len says_old in
          let used_old = size_is it.0 old was.pages was.found was.ours.file.sound len says_old in
          let read_old = recovers_once len old was.found.stored none.was (stored_at it.0 old was.pages was.found len all_old used_old) none.found_was in
          let size_same : size ≡ it.0 = used ∙ sym used_old in
          let pages_same : pages ≡ was.pages =
          sym found.shows ∙ ap₂ trimmed size_same (read ∙ same ∙ sym read_old) ∙ was.found.shows in (
            it.0,
            it.1,
            record {
              pages = was.pages;
              wanted = was.wanted;
              schema = was.schema;
              found = subst₂ (λ (s : ℕ) (p : PageMap). Adopts s new p) size_same pages_same found;
              ours = was.ours;
              reads = was.reads;
              sound = was.sound;
            },
          ) in
          opens_as_its_bank conn new w (record { trees = held.trees; held = ∥∥₁_map held.held still; of_world = held.of_world }) from clean
    ]
