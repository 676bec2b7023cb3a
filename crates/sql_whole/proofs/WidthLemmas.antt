-- How many columns a row has that is typed and in which none is missing.
use Rattle.std.proofs.Common.{◌≡◌, ◌≤◌, ◌<◌, ◌+◌, ℕ, zero, suc, List, [], ◌∷◌, length, drop, Bool, true, false, not, ◌&&◌, ◌||◌, Option, Some, inl, inr, refl, sym, ap, arith, ◌∙◌}
use Rattle.std.proofs.lemmas.Bool.{and_parts, cases_order}
use Rattle.std.proofs.lemmas.List.{get_or_past}
use Rattle.sqlite.specs.declared.types.Value.{Value}
use Rattle.sqlite.specs.declared.types.Value.TheVariants.{Null, Int, Real, Text, Blob}
use Rattle.sqlite.specs.Order.{Row}
use Rattle.sqlite_schema.specs.Names.{is_key}
use Rattle.sqlite_schema.specs.Rules.{are_present, are_typed}
use Rattle.sqlite_schema.specs.declared.schema.Column.{Column}
use Rattle.sqlite_sql.specs.Ops.{is_null}
use Rattle.sqlite_value.specs.Order.{column}
use Rattle.sql_schema.specs.ReadBack.{columns_from}

-- a typed row has no more columns than its table
pub no_wider : (key : Option ℕ) (at : ℕ) (columns : List Column) (values : Row) → are_typed key at columns values ≡ true → length values ≤ length columns
no_wider key at [] [] h = omega arith
no_wider key at [] (v ∷ vs) h = absurd cc
no_wider key at (c ∷ cs) [] h = omega arith
no_wider key at (c ∷ cs) (v ∷ vs) h = let rest : length vs ≤ length cs = no_wider key (at + 1) cs vs (and_parts _ _ h).1 in omega (arith, rest)

-- the last column may not be missing
abbrev pub ends_needed : Option ℕ → ℕ → List Column → Bool
ends_needed key at [] = false
ends_needed key at (c ∷ []) = not (is_key key at) && c.not_null
ends_needed key at (c ∷ d ∷ cs) = ends_needed key (at + 1) (d ∷ cs)

null_past : (row : Row) (at : ℕ) → length row ≤ at → column row at ≡ Null
null_past row at past = get_or_past row at Null past

needed : (k n : Bool) (v : Value) → (not k && n) ≡ true → (k || not n || not (is_null v)) ≡ true → v ≡ Null → ⊥
needed true n v need h is = cc
needed false false v need h is = cc
needed false true v need h is = let no : not (is_null v) ≡ false = ap (λ x. not (is_null x)) is in cc

-- so a row with all of them is as wide
pub no_narrower : (key : Option ℕ) (at : ℕ) (columns : List Column) (row : Row) → ends_needed key at columns ≡ true → are_present key at columns row ≡ true → at + length columns < length row
no_narrower key at [] row need h = absurd cc
no_narrower key at (c ∷ []) row need h =
    let short : length row ≤ at + 1 → at + 1 < length row = λ h'. absurd (needed (is_key key at) c.not_null (column row (at + 1)) need (and_parts _ _ h).0 (null_past row (at + 1) h')) in
    elim (cases_order (length row) (at + 1)) [
      | inl same ↦ short (omega (arith, same))
      | inr other ↦ elim other [ inl less ↦ short (omega (arith, less)) | inr more ↦ more ]
    ]
no_narrower key at (c ∷ d ∷ cs) row need h = let rest : at + 1 + length (d ∷ cs) < length row = no_narrower key (at + 1) (d ∷ cs) row need (and_parts _ _ h).1 in omega (arith, rest)

-- ---- a row by its columns

shift : (v : Value) (row : Row) (at count : ℕ) → columns_from (suc at) count (v ∷ row) ≡ columns_from at count row
shift v row at zero = refl
shift v row at (suc count) = ap (λ r. column row at ∷ r) (shift v row (suc at) count)

pub all_columns : (row : Row) (count : ℕ) → length row ≡ count → columns_from 0 count row ≡ row
all_columns [] zero is = refl
all_columns [] (suc count) is = absurd (omega (arith, is))
all_columns (v ∷ row) zero is = absurd (omega (arith, is))
all_columns (v ∷ row) (suc count) is = ap (λ r. v ∷ r) (shift v row 0 count ∙ all_columns row count (omega (arith, is)))

-- all but the rowid
pub columns_after : (row : Row) (count : ℕ) → length row ≡ count + 1 → columns_from 1 count row ≡ drop 1 row
columns_after [] count is = absurd (omega (arith, is))
columns_after (v ∷ row) count is = shift v row 0 count ∙ all_columns row count (omega (arith, is))

null_is : (v : Value) → is_null v ≡ true → v ≡ Null
null_is Null h = refl
null_is (Int n) h = absurd cc
null_is (Real x) h = absurd cc
null_is (Text t) h = absurd cc
null_is (Blob b) h = absurd cc

-- all of it, where the column of the key is NULL
pub columns_by_key : (row : Row) (more : ℕ) (columns : List Column) → length row ≡ more + 2 → are_typed (Some 0) 0 columns (drop 1 row) ≡ true → 0 < length columns
    → column row 0 ∷ Null ∷ columns_from 2 more row ≡ row
columns_by_key [] more columns is typed some = absurd (omega (arith, is))
columns_by_key (id ∷ []) more columns is typed some = absurd (omega (arith, is))
columns_by_key (id ∷ v ∷ row) more [] is typed some = absurd (omega (arith, some))
columns_by_key (id ∷ v ∷ row) more (c ∷ cs) is typed some =
    let null : v ≡ Null = null_is v (and_parts _ _ typed).0 in
    ap (λ x. id ∷ x ∷ columns_from 2 more (id ∷ v ∷ row)) (sym null)
    ∙ ap (λ r. id ∷ v ∷ r) (shift id (v ∷ row) 1 more ∙ shift v row 0 more ∙ all_columns row more (omega (arith, is)))
