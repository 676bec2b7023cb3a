-- The bytes of a first page.
use Rattle.std.proofs.Common.{◌≡◌, ◌∙◌, ◌++◌, ℕ, Bool, true, false, List, [], refl, sym, ap, ap₂, replicate, take}
use Rattle.std.proofs.lemmas.List.{append-nil}
use borrow.Rule.Slice.PartMut.{post_of, put_mid}
use Rattle.sqlite_pool.specs.Header.{first_page}
use Rattle.sqlite_pool.specs.Stored.{sealed, sum_bytes}
use Rattle.cli_file.specs.Pages.{page_of_new}
use Rattle.cli_file.specs.declared.page.TheConstants.{PLAIN, WITH_SUM}

pub plain_is : PLAIN ++ replicate 405 0 ≡ page_of_new false
unfolding first_page sealed
plain_is = refl

pub used_is : take 504 (WITH_SUM ++ replicate 405 0) ≡ first_page 504
unfolding first_page
used_is = refl

pub summed_is : first_page 504 ++ sum_bytes (first_page 504) ≡ page_of_new true
unfolding first_page sealed
summed_is = refl

pub plain_page : (sums : Bool) (page : List ℕ) → sums ≡ false → page ≡ PLAIN ++ replicate 405 0 → page ≡ page_of_new sums
plain_page sums page none is = is ∙ plain_is ∙ ap page_of_new (sym none)

-- the sum is written after the bytes that it is of
pub summed_page : (sums : Bool) (page sum written : List ℕ) → sums ≡ true → page ≡ WITH_SUM ++ replicate 405 0 → sum ≡ sum_bytes (take 504 page) → written ≡ sum
    → put_mid 504 8 page written ≡ page_of_new sums
summed_page sums page sum written asked is of_page same =
    let front : take 504 page ≡ first_page 504 = ap (take 504) is ∙ used_is in
    let rest : post_of 504 8 page ≡ [] = ap (post_of 504 8) is in
    let sum_is : written ≡ sum_bytes (first_page 504) = same ∙ of_page ∙ ap sum_bytes front in
    ap₂ (λ (f r : List ℕ). f ++ (written ++ r)) front rest ∙ ap (λ (w : List ℕ). first_page 504 ++ (w ++ [])) sum_is
    ∙ ap (λ (w : List ℕ). first_page 504 ++ w) (append-nil (sum_bytes (first_page 504))) ∙ summed_is ∙ ap page_of_new (sym asked)
