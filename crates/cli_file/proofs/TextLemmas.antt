-- What reading a list gives, by the bytes that its reader has left.
use Rattle.std.proofs.Common.{◌≡◌, ◌≤◌, ◌+◌, ◌∙◌, ◌++◌, ap, subst, arith, ℕ, List, [], Option, Some, None, IfSome, length, take}
use Rattle.std.specs.Io.Take.{take_remaining}
use Rattle.std.specs.Option.{option_map}
use Rattle.std.specs.declared.io.Take.{Take}
use Rattle.std.proofs.lemmas.List.{length-take, take_all}
use Rattle.cli_file.specs.Texts.{IsTextOf}

-- a beginning of this length that is shorter than what was asked for is all of it
whole : (most : ℕ) (left : List ℕ) → length (take (most + 1) left) ≤ most → take (most + 1) left ≡ left
whole most left short =
    let length_of : length (take (most + 1) left) ≡ _ = length-take (most + 1) left in
    take_all (most + 1) left (omega (arith, length_of, short))

text_of_known : (most n : ℕ) (known : Option (List ℕ)) (before text : List ℕ) → n ≡ most + 1 → before ≡ [] → IfSome (option_map (take n) known) (λ xs. text ≡ before ++ xs) → length text ≤ most
    → IsTextOf known text
text_of_known most n None before text limit none is short = tt
text_of_known most n (Some left) before text limit none is short =
    let same : text ≡ take (most + 1) left = is ∙ ap (λ (b : List ℕ). b ++ take n left) none ∙ ap (λ (k : ℕ). take k left) limit in
    same ∙ whole most left (subst (λ (t : List ℕ). length t ≤ most) same short)

pub text_known : {R : Type 0} (most : ℕ) (remaining : R → Option (List ℕ)) (reader : R) (taken : Take R) (before text : List ℕ) → taken.limit ≡ most + 1 → taken.inner ≡ reader → before ≡ []
    → IfSome (take_remaining remaining taken) (λ xs. text ≡ before ++ xs) → length text ≤ most → IsTextOf (remaining reader) text
text_known {R} most remaining reader taken before text limit inner none is short =
    subst (λ (r : R). IsTextOf (remaining r) text) inner (text_of_known most taken.limit (remaining taken.inner) before text limit none is short)
