-- Sets and their members, one after another.
use Rattle.std.proofs.Common.{◌≡◌, ◌≤◌, ◌<◌, ◌+◌, ℕ, List, [], ◌∷◌, ◌++◌, map, take, drop, length, get_or, sym, ap, ap₂, subst, arith, ◌∙◌, append_assoc, append-nil, length-append, length-drop, take-add}
use Rattle.std.specs.Prelude.{IfSome, Option, Some}
use Rattle.std.specs.List.{enumerate_from, flat_map}
use Rattle.std.proofs.lemmas.List.{map-append, take_more}
use Rattle.bank_policy.specs.SetRow.{SetRow}
use Rattle.bank_policy.specs.declared.rows.Member.{Member}
use Rattle.book_kept.specs.Records.{member_row, member_rows}
use Rattle.book_kept.specs.declared.records.MemberRow.{MemberRow}

pub enumerate-append : (n : ℕ) (xs : List Member) (x : Member) → enumerate_from n (xs ++ x ∷ []) ≡ enumerate_from n xs ++ (n + length xs, x) ∷ []
enumerate-append n [] x = ap (λ k. (k, x) ∷ []) (omega arith)
enumerate-append n (y ∷ xs) x = ap (λ l. (n, y) ∷ l) (enumerate-append (n + 1) xs x ∙ ap (λ k. enumerate_from (n + 1) xs ++ (k, x) ∷ []) (omega arith))

pub flat_map-append : {X Y : Type 0} (f : X → List Y) (xs : List X) (x : X) → flat_map f (xs ++ x ∷ []) ≡ flat_map f xs ++ f x
flat_map-append f [] x = append-nil (f x)
flat_map-append f (y ∷ xs) x = ap (λ l. f y ++ l) (flat_map-append f xs x) ∙ sym (append_assoc (f y) (flat_map f xs) (f x))

-- the first rows are the members of a set at their places
pub record AreOwn (set : ℕ) (rows : List MemberRow) (i : ℕ) (own : List Member) : Type 0 where
  pub front : take i rows ≡ map (member_row set) (enumerate_from 1 own)
  pub count : length own ≡ i

pub own_more : (set : ℕ) (rows : List MemberRow) (i : ℕ) (row : MemberRow) (m : Member) (own new : List Member) → i < length rows → row ≡ get_or rows i row → row ≡ member_row set (length own + 1, m)
    → AreOwn set rows i own → new ≡ own ++ m ∷ [] → AreOwn set rows (i + 1) new
own_more set rows i row m own new below at placed before is = record {
  front = take_more rows i row below ∙ ap₂ (λ l r. l ++ r ∷ []) before.front (sym at ∙ placed ∙ ap (λ n. member_row set (n, m)) (omega arith))
      ∙ sym (map-append (member_row set) (enumerate_from 1 own) ((1 + length own, m) ∷ [])) ∙ ap (map (member_row set)) (sym (enumerate-append 1 own m) ∙ ap (enumerate_from 1) (sym is));
  count = ap length is ∙ length-append own (m ∷ []) ∙ ap (λ n. n + 1) before.count;
}

-- the members before a place are those of the sets so far
pub record AreSoFar (numbers : List ℕ) (members : List MemberRow) (i at : ℕ) (sets : List SetRow) : Type 0 where
  pub numbers_are : map (λ s. s.set) sets ≡ take i numbers
  pub members_are : flat_map member_rows sets ≡ take at members
  pub within : at ≤ length members

pub set_more : (numbers : List ℕ) (members : List MemberRow) (i at next : ℕ) (own : List Member) (sets new : List SetRow) → i < length numbers
    → take (length own) (drop at members) ≡ map (member_row (get_or numbers i 0)) (enumerate_from 1 own) → length own ≤ length (drop at members) → AreSoFar numbers members i at sets
    → next ≡ at + length own → new ≡ sets ++ record { set = get_or numbers i 0; members = own } ∷ [] → AreSoFar numbers members (i + 1) next new
set_more numbers members i at next own sets new below front fits before next_is is = record {
  numbers_are = ap (map (λ (s : SetRow). s.set)) is ∙ map-append (λ (s : SetRow). s.set) sets _ ∙ ap (λ l. l ++ get_or numbers i 0 ∷ []) before.numbers_are ∙ sym (take_more numbers i 0 below);
  members_are = ap (flat_map member_rows) is ∙ flat_map-append member_rows sets (record { set = get_or numbers i 0; members = own }) ∙ ap₂ (λ l r. l ++ r) before.members_are (sym front)
      ∙ sym (take-add at (length own) members) ∙ ap (λ n. take n members) (sym next_is);
  within = let left = length-drop at members in omega (arith, left, fits, before.within, next_is);
}

-- ---- the members of one set, where another follows or none

pub some_is : {X : Type 0} (o : Option X) (x : X) (P : X → Type 0) → IfSome o P → o ≡ Some x → P x
some_is o x P h is = subst (λ found. IfSome found P) is h
