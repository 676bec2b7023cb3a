-- What is written after the bytes that a room holds, and what is dropped before them.
use Rattle.std.proofs.Common.{◌≡◌, ℕ, ◌+◌, ◌-◌, ◌≤◌, List, ◌++◌, length, take, drop, sym, ap, ◌∙◌, arith}
use lib.Seq.{paste}
use Rattle.std.proofs.lemmas.List.Edits.{take-paste}
use Rattle.std.proofs.lemmas.List.{length-drop, drop-take, length-take-le, take-append-le}
use Rattle.std.proofs.Math.Seq.{take-append-add}
use borrow.Rule.Slice.PartMut.{put_mid, post_of}

pub take_put : (a k n : ℕ) (xs ys : List ℕ) → a ≤ length xs → n ≤ length ys → take (a + n) (put_mid a k xs ys) ≡ take a xs ++ take n ys
take_put a k n xs ys within fits =
    let len : a ≡ length (take a xs) = sym (length-take-le a xs within) in
    ap (λ m. take (m + n) (put_mid a k xs ys)) len ∙ take-append-add (take a xs) (ys ++ post_of a k xs) n ∙ ap (λ l. take a xs ++ l) (take-append-le n ys (post_of a k xs) fits)

pub front_dropped : (xs : List ℕ) (held n : ℕ) → n ≤ held → held ≤ length xs → take (held - n) (paste xs 0 (drop n xs) (held - n)) ≡ drop n (take held xs)
front_dropped xs held n front within =
    let size : held - n ≤ length (drop n xs) = omega (arith, length-drop n xs) in
    let zero_more : held - n ≡ 0 + (held - n) = omega arith in
    let parts : held ≡ n + (held - n) = omega arith in
    ap (λ k. take k (paste xs 0 (drop n xs) (held - n))) zero_more ∙ take-paste xs 0 (drop n xs) (held - n) (omega arith) size
    ∙ sym (drop-take n (held - n) xs) ∙ ap (λ k. drop n (take k xs)) (sym parts)
