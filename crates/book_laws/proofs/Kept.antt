-- Rows that are kept: all of them, through what is kept of what was kept, and beside one more.
use Rattle.std.proofs.Common.{ℕ, List, [], ◌∷◌, Bool, true, false, cond, inl, inr, refl, ◌∙◌}
use Rattle.std.specs.Prelude.{nat_le}
use Rattle.keyed_rows.specs.Ordered.{add_row}
use Rattle.bank_books.specs.WorldLists.{WorldLists}
use Rattle.book_laws.specs.Kept.{AreKept, OnlyAdds}

pub kept_same : {X : Type 0} (xs : List X) → AreKept xs xs
kept_same [] = tt
kept_same (x ∷ xs) = inl (refl, kept_same xs)

pub kept_then : {X : Type 0} (xs ys zs : List X) → AreKept xs ys → AreKept ys zs → AreKept xs zs
kept_then [] ys zs p q = tt
kept_then (x ∷ xs) [] zs p q = absurd p
kept_then (x ∷ xs) (y ∷ ys) [] p q = absurd q
kept_then (x ∷ xs) (y ∷ ys) (z ∷ zs) p (inr q) = inr (kept_then (x ∷ xs) (y ∷ ys) zs p q)
kept_then (x ∷ xs) (y ∷ ys) (z ∷ zs) (inl p) (inl q) = inl (p.0 ∙ q.0, kept_then xs ys zs p.1 q.1)
kept_then (x ∷ xs) (y ∷ ys) (z ∷ zs) (inr p) (inl q) = inr (kept_then (x ∷ xs) ys zs p q.1)

pub kept_beside : {X : Type 0} (key : X → ℕ) (e : X) (xs : List X) → AreKept xs (add_row key e xs)
kept_beside key e [] = tt
kept_beside key e (x ∷ xs) = go (nat_le (key x) (key e)) (kept_beside key e xs)
  where
    go : (b : Bool) → AreKept xs (add_row key e xs) → AreKept (x ∷ xs) (cond b (x ∷ add_row key e xs) (e ∷ x ∷ xs))
    go true rest = inl (refl, rest)
    go false rest = inr (inl (refl, kept_same xs))

pub adds_nothing : (w : WorldLists) → OnlyAdds w w
adds_nothing w = record { entries = kept_same w.entries; lines = kept_same w.lines; proofs = kept_same w.proofs }

pub adds_then : (a b c : WorldLists) → OnlyAdds a b → OnlyAdds b c → OnlyAdds a c
adds_then a b c first second = record {
  entries = kept_then a.entries b.entries c.entries first.entries second.entries;
  lines = kept_then a.lines b.lines c.lines first.lines second.lines;
  proofs = kept_then a.proofs b.proofs c.proofs first.proofs second.proofs;
}
