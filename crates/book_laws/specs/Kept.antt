-- What is written stays as it was written.
use Rattle.std.specs.Prelude.{◌≡◌, ◌⊎◌, ⊤, List, [], ◌∷◌}
use Rattle.bank_books.specs.WorldLists.{WorldLists}

-- The first rows are a subsequence of the second: none of them was changed, taken away or moved past another.
abbrev pub AreKept : {X : Type 0} → List X → List X → Type 0
AreKept [] ys = ⊤
AreKept (x ∷ xs) [] = ⊥
AreKept (x ∷ xs) (y ∷ ys) = ((x ≡ y) × AreKept xs ys) ⊎ AreKept (x ∷ xs) ys

-- Clark and Wilson's rule C4 asks for a log that is only added to: entries, cash lines and proofs are that here.
pub record OnlyAdds (before after : WorldLists) : Type 0 where
  pub entries : AreKept before.entries after.entries
  pub lines : AreKept before.lines after.lines
  pub proofs : AreKept before.proofs after.proofs
