-- What laws and clauses suppose is met by what it is named for.
use Rattle.std.proofs.Common.{◌≡◌, ◌⊎◌, ◌∙◌, ℕ, true, false, inl, inr, arith, List, [], ◌∷◌, length, Some, None, refl, sym, ap}
use Rattle.std.proofs.lemmas.Bool.{false≢true}
use Rattle.std.proofs.lemmas.List.Elements.{All-cons, All-head, All-nil, All-tail}
use Rattle.sqlite_disk.specs.declared.Disk.{Ghosts}
use Rattle.sqlite_disk.specs.declared.Files.{Files}
use Rattle.sqlite_pool.specs.Header.{first_page}
use Rattle.sqlite_pool.specs.Stored.{is_among, sealed, sum_bytes}
use Rattle.sqlite_wal.specs.Format.{be32, part}
use Rattle.sqlite_wal.specs.Recovery.{AreFramesOf, Image, IsBlank, IsIgnored, Pages, Recovers, pages_after}
use Rattle.sqlite_wal.proofs.AppendLemmas.{page_from_pages}
use Rattle.sqlite_wal.proofs.RecoveryLemmas.{replays_once}
use Rattle.sqlite_wal.specs.PageSize.{size_in_file}
use Rattle.sqlite.specs.Files.{SaysSums, image_of}
use Rattle.bank_meaning.specs.Sums.{IsProper}
use Rattle.cli_file.specs.Pages.{page_of_new}
use Rattle.cli_file.specs.Premises.{AreFilesWithSumsCovered, AreFoundAsLeft, AreMadeInRange, IsAsItWasOrShows, IsDamageCovered, PremisesAreMet}
use Rattle.cli_file.specs.Sums.{EachEndsInSum, EndsInSum, NoneCollides, SaysItsSums}

-- ---- a new file with sums

new_image : Image
new_image = record { log = []; db = page_of_new true }

-- what its page has, byte by byte
long : length (page_of_new true) ≡ 512
unfolding first_page sealed sum_bytes
long = refl

size_named : size_in_file (page_of_new true) ≡ 512
unfolding first_page sealed sum_bytes
size_named = refl

reserves : be32 (part (page_of_new true) 0 512) 20 ≡ 0x0840_2020
unfolding first_page sealed sum_bytes be32 part
reserves = refl

no_log : IsIgnored []
no_log = inl (omega arith)

not_blank : (first : List ℕ) → IsBlank first (record { log = []; db = page_of_new true }) → ⊥
not_blank first (inl none) = omega (arith, long, none)
not_blank first (inr (replays, half)) = elim half.1 [ inl short ↦ omega (arith, long, short) | inr begun ↦ omega (arith, begun.0) ]

new_sums : SaysSums 512 (record { log = []; db = page_of_new true })
new_sums pages first recovers is whole =
    let none = replays_once 512 [] recovers.frames 0 recovers.replays (inl (no_log, refl)) in
    let given : pages_after 512 [] (page_of_new true) 0 1 ≡ Some first =
    ap (λ k. pages_after 512 [] (page_of_new true) k 1) (sym none) ∙ ap (λ (p : Pages). p 1) recovers.gives ∙ is in
    ap (λ page. be32 page 20) (sym (page_from_pages 512 [] (page_of_new true) 0 1 first given).0) ∙ reserves

new_says : SaysItsSums 512 (record { log = []; db = page_of_new true })
new_says = record {
  there = λ nothing. elim nothing [ inl plain ↦ not_blank _ plain | inr summed ↦ not_blank _ summed ];
  is_size = (omega arith, omega arith, refl, refl);
  size = (λ read. absurd (read no_log), λ ignored. sym size_named);
  sums = new_sums;
}

-- with no log there is no frame that a page could be in
asked : (len : ℕ) (db : List ℕ) (pages : Pages) (n : ℕ) (page : List ℕ) → Recovers len (record { log = []; db = db }) pages → EachEndsInSum len (record { log = []; db = db })
    → pages n ≡ Some page → EndsInSum len page
asked len db pages n page recovers each there = let found = each pages recovers in go found.0 found.1 found.2
  where
    go : (logged : List ℕ) → AreFramesOf len [] logged → ((n : ℕ) (page : List ℕ) → pages n ≡ Some page → is_among logged n ≡ false → EndsInSum len page) → EndsInSum len page
    go [] frames sums = sums n page there refl
    go (x ∷ xs) frames sums = let none = replays_once len [] (length (x ∷ xs)) 0 frames.0 (inl (no_log, refl)) in absurd (omega (arith, none))

files_covered : AreFilesWithSumsCovered
files_covered = record {
  new = new_says;
  each = λ len image there is_size size sums. record { there = there; is_size = is_size; size = size; sums = sums };
  asked = asked;
}

-- ---- damage

shown : (len : ℕ) (old new : Image) (was is : Pages) → Recovers len old was → Recovers len new is → ((n : ℕ) → is n ≡ None → was n ≡ None)
    → ((n : ℕ) (page : List ℕ) → is n ≡ Some page → IsAsItWasOrShows len new n page was) → NoneCollides len old new
shown len old new was is found_was found_is ends shows = record {
  was = was;
  is = is;
  found_was = found_was;
  found_is = found_is;
  ends = ends;
  same = λ logged frames n page there sound. go logged frames n page sound (shows n page there);
}
  where
    go : (logged : List ℕ) → AreFramesOf len new.log logged → (n : ℕ) (page : List ℕ) → EndsInSum len page ⊎ (is_among logged n ≡ true) → IsAsItWasOrShows len new n page was
        → was n ≡ Some page
    go logged frames n page sound (inl same) = same
    go logged frames n page (inl ends_in_sum) (inr other) = absurd (other.0 ends_in_sum)
    go logged frames n page (inr in_log) (inr other) = absurd (false≢true (sym (other.1 logged frames) ∙ in_log))

damage_covered : IsDamageCovered
damage_covered = record {
  none = λ len image pages found. shown len image image pages pages found found (λ n ends. ends) (λ n page there. inl there);
  shown = shown;
}

-- ---- requests

made_in_range : AreMadeInRange
made_in_range [] made proper = All-nil (λ m. IsProper m.request)
made_in_range (m ∷ ms) made proper =
    All-cons (λ m. IsProper m.request) m ms (All-head (λ m. m.mark ≡ None → IsProper m.request) m ms proper (All-head (λ m. m.mark ≡ None) m ms made))
    (made_in_range ms (All-tail (λ m. m.mark ≡ None) m ms made) (All-tail (λ m. m.mark ≡ None → IsProper m.request) m ms proper))

pub premises_are_met : PremisesAreMet
premises_are_met = record { files = files_covered; damage = damage_covered; requests = made_in_range }

-- ---- closed files

pub found_as_left : {D : Type 0} (g : Ghosts D) (files : Files D) → AreFoundAsLeft g files
found_as_left g files = record {
  closed = ((image_of g files, inl refl, inl refl), (image_of g files, inl refl, inr refl));
  crashed = λ image left. ((image, inr left, inl refl), (image, inr left, inr refl));
}
