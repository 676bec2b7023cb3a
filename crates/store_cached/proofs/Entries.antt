-- What a cache that keeps fresh entries returns, and what it keeps.
use Rattle.std.proofs.Common.{◌≡◌, ◌≢◌, ◌==◌, ◌-◌, ℕ, Bool, true, false, if◌then◌else◌, List, [], ◌∷◌, take, refl, sym, ap, subst, inl, inr, arith, Option, Some, None, option_map, ◌∙◌, Result, Ok, Err, IfOk, IsSome}
use Rattle.std.specs.Result.{result_ok}
use Rattle.std.specs.Map.{lookup, lookup_entry, remove_entry}
use Rattle.std.proofs.lemmas.Bool.{eq-eqb, eqb-true, ne_eqb}
use Rattle.std.specs.Option.{option_and_then, option_map_or}
use Rattle.bank_books.specs.WorldLists.{WorldLists}
use Rattle.store_cached.proofs.Keys.{same, same_is_key, same_key}
use Rattle.store_cached.specs.Fresh.{AreFresh, Fits, HasRows, IsFirst, SameRows, entry_of, rows_kept}
use Rattle.store_cached.specs.declared.entry.Kept.{Kept}
use Rattle.store_cached.specs.declared.entry.Key.{Key}
use Rattle.store_cached.specs.declared.entry.Rows.{Rows}
use Rattle.store_cached.specs.declared.entry.Rows.TheVariants.{Triples, Relations}
use Rattle.lru.proofs.CallerLemmas.{Contains-lookup, Contains-lookup_entry, Contains-promoted, Contains-put_entries}
use Rattle.lru.proofs.Pairs.{lookup-lookup_entry}
use Rattle.lru.specs.LruCache.{LruCache, promoted, put_entries}

-- where the rows are those of the key, a copy of them is, too
pub copy-HasRows : (w : WorldLists) (key : Key) (rows copy : Rows) → SameRows rows copy → HasRows w key rows → HasRows w key copy
copy-HasRows w key (Triples rows) (Triples copy) same h = (h.0, same ∙ h.1)
copy-HasRows w key (Triples rows) (Relations copy) same h = absurd same
copy-HasRows w key (Relations rows) (Triples copy) same h = absurd same
copy-HasRows w key (Relations rows) (Relations copy) same h = (h.0, same ∙ h.1)

-- a look-up of the cache is one of the definitions
entry_of-lookup : (entries : List (Key × Kept)) (k : Key) → lookup (same k) entries ≡ entry_of k entries
entry_of-lookup [] k = refl
entry_of-lookup (entry ∷ entries) k = rw (same_is_key k entry.0, entry_of-lookup entries k) refl

abbrev rows_of : ℕ → Kept → Option Rows
rows_of version kept = if kept.version == version then Some kept.rows else None

looked_up : (entries : List (Key × Kept)) (k : Key) (version : ℕ) (o : Option Kept) → o ≡ lookup (same k) entries → option_and_then (rows_of version) o ≡ rows_kept k version entries
looked_up entries k version o is = ap (option_and_then (rows_of version)) (is ∙ entry_of-lookup entries k)

pub rows_found : (entries : List (Key × Kept)) (k : Key) (version : ℕ) (kept : Kept) → Some kept ≡ lookup (same k) entries → kept.version ≡ version → Some kept.rows ≡ rows_kept k version entries
rows_found entries k version kept found now = sym (rw (eq-eqb kept.version version now) at (sym (looked_up entries k version (Some kept) found)))

pub rows_outdated : (entries : List (Key × Kept)) (k : Key) (version : ℕ) (kept : Kept) → Some kept ≡ lookup (same k) entries → kept.version ≢ version → None ≡ rows_kept k version entries
rows_outdated entries k version kept found other = sym (rw (ne_eqb kept.version version other) at (sym (looked_up entries k version (Some kept) found)))

pub rows_missing : (entries : List (Key × Kept)) (k : Key) (version : ℕ) → None ≡ lookup (same k) entries → None ≡ rows_kept k version entries
rows_missing entries k version none = looked_up entries k version None none

-- the entry whose rows were found
pub kept_found : (entries : List (Key × Kept)) (k : Key) (version : ℕ) (rows : Rows) → Some rows ≡ rows_kept k version entries
    → (kept : Kept) × (lookup (same k) entries ≡ Some kept) × (kept.version ≡ version) × (kept.rows ≡ rows)
kept_found entries k version rows found = by (lookup (same k) entries) refl
  where
    by : (o : Option Kept) → lookup (same k) entries ≡ o → (kept : Kept) × (lookup (same k) entries ≡ Some kept) × (kept.version ≡ version) × (kept.rows ≡ rows)
    by None is =
        let none : Some rows ≡ None = found ∙ sym (looked_up entries k version None (sym is)) in
        absurd (cc)
    by (Some kept) is = tested (kept.version == version) refl (found ∙ sym (looked_up entries k version (Some kept) (sym is)))
      where
        tested : (b : Bool) → (kept.version == version) ≡ b → Some rows ≡ (if b then Some kept.rows else None) → (kept : Kept) × (lookup (same k) entries ≡ Some kept) × (kept.version ≡ version) × (kept.rows ≡ rows)
        tested true same one = (kept, is, eqb-true kept.version version same, cc)
        tested false other none = absurd (cc)

pub entry_looked_up : (entries : List (Key × Kept)) (k : Key) → IsSome (entry_of k entries) → IsSome (lookup (same k) entries)
entry_looked_up entries k there = rw (entry_of-lookup entries k) there

-- what a look-up finds at the present version is the World's
pub found-fresh : (w : WorldLists) (entries : List (Key × Kept)) (k : Key) (kept : Kept) → lookup (same k) entries ≡ Some kept → kept.version ≡ w.version → AreFresh w entries → HasRows w k kept.rows
found-fresh w entries k kept found present fresh =
    let at = Contains-lookup (same k) entries kept found in
    subst (λ (x : Key). HasRows w x kept.rows) (sym (same_key k at.0 at.2)) ((fresh (at.0, kept) at.1).same_rows present)

pub promoted-fresh : (w : WorldLists) (entries : List (Key × Kept)) (k : Key) → AreFresh w entries → AreFresh w (promoted (same k) entries)
promoted-fresh w entries k fresh entry there = fresh entry (Contains-promoted (same k) entries entry there)

put-fits : (w : WorldLists) (k : Key) (kept : Kept) (entry : Key × Kept) → kept.version ≡ w.version → HasRows w k kept.rows → entry.1 ≡ kept → entry.0 ≡ k → Fits w entry
put-fits w k kept entry present rows value at =
    let now : entry.1.version ≡ w.version = ap (λ (x : Kept). x.version) value ∙ present in
    let as_kept : HasRows w k entry.1.rows = subst (λ (x : Kept). HasRows w k x.rows) (sym value) rows in
    record {
      not_later = omega arith;
      same_rows = λ _. subst (λ (x : Key). HasRows w x entry.1.rows) (sym at) as_kept;
    }

pub put-fresh : (w : WorldLists) (c : LruCache Key Kept) (k : Key) (kept : Kept) → kept.version ≡ w.version → HasRows w k kept.rows → AreFresh w c.entries → AreFresh w (put_entries same c k kept)
put-fresh w c k kept present rows fresh entry there = elim (Contains-put_entries same c k kept entry there) [
  | inl old ↦ fresh entry old
  | inr put ↦ elim put.1 [
    | inl new ↦ put-fits w k kept entry present rows put.0 new
    | inr (x, was, alike) ↦ put-fits w k kept entry present rows put.0 (sym (same_key k entry.0 alike))
  ]
]

-- the key that is put is first, also where an equal one was kept
pub put-first : (c : LruCache Key Kept) (k : Key) (kept : Kept) → IsFirst k kept.version (put_entries same c k kept)
put-first c k kept = by (lookup_entry (same k) c.entries) refl
  where
    by : (o : Option (Key × Kept)) → lookup_entry (same k) c.entries ≡ o → IsFirst k kept.version (option_map_or (λ (e : Key × Kept). (e.0, kept) ∷ remove_entry (same k) c.entries) o ((k, kept) ∷ take (c.cap - 1) c.entries))
    by None is = (refl, refl)
    by (Some e) is = (sym (same_key k e.0 (Contains-lookup_entry (same k) c.entries e is).1), refl)

-- what was found is first once it is promoted
pub promoted-first : (entries : List (Key × Kept)) (k : Key) (kept : Kept) → lookup (same k) entries ≡ Some kept → IsFirst k kept.version (promoted (same k) entries)
promoted-first entries k kept found = by (lookup_entry (same k) entries) refl
  where
    by : (o : Option (Key × Kept)) → lookup_entry (same k) entries ≡ o → IsFirst k kept.version (option_map_or (λ (e : Key × Kept). e ∷ remove_entry (same k) entries) o entries)
    by None is =
        let none : None ≡ Some kept = ap (option_map (λ (e : Key × Kept). e.1)) (sym is) ∙ lookup-lookup_entry (same k) entries ∙ found in
        absurd (cc)
    by (Some e) is =
        let one : Some e.1 ≡ Some kept = ap (option_map (λ (e : Key × Kept). e.1)) (sym is) ∙ lookup-lookup_entry (same k) entries ∙ found in
        let value : e.1 ≡ kept = cc in
        (sym (same_key k e.0 (Contains-lookup_entry (same k) entries e is).1), ap (λ (x : Kept). x.version) value)

-- the copy that was made
pub copied : {E : Type 0} (rows copy : Rows) (r : Result Rows E) → IfOk r (SameRows rows) → result_ok r ≡ Some copy → SameRows rows copy
copied rows copy (Ok made) same is = let one : made ≡ copy = cc in subst (SameRows rows) one same
copied rows copy (Err refused) same is = absurd (cc)
