-- What a plan makes of a World, write by write.
use Rattle.std.proofs.Common.{◌≡◌, ℕ, ◌+◌, if◌then◌else◌, ◌≤◌, Bool, true, false, not, ◌||◌, nat_lt, List, [], ◌∷◌, ◌++◌, refl, ap, subst, sym, ◌∙◌, arith}
use Rattle.std.proofs.Math.Bool.{or-false}
use Rattle.std.proofs.lemmas.List.Folds.{list_any-append}
use Rattle.bank_books.specs.Effects.{all_written, applied, in_full, written}
use Rattle.bank_books.specs.Version.{changes_policy, has_version_for, is_of_policy, with_version}
use Rattle.bank_terms.specs.Limits.{max_version}
use Rattle.bank_books.specs.WorldLists.{WorldLists}
use Rattle.bank_books.specs.declared.row_write.RowWrite.{RowWrite}
use Rattle.bank_books.specs.declared.row_write.RowWrite.TheVariants as write

-- one more write, whatever it is
all_written-append : (rows : List RowWrite) (row : RowWrite) (w : WorldLists) → all_written (rows ++ row ∷ []) w ≡ written row (all_written rows w)
all_written-append [] row w = refl
all_written-append (r ∷ rows) row w = all_written-append rows row (written r w)

-- a write leaves the version alone, and does not see it
written-with_version : (b : Bool) (row : RowWrite) (w : WorldLists) → with_version b (written row w) ≡ written row (with_version b w)
written-with_version false row w = refl
written-with_version true (write.Account row) w = refl
written-with_version true (write.Entry row) w = refl
written-with_version true (write.Line row) w = refl
written-with_version true (write.Proof row) w = refl
written-with_version true (write.Release row) w = refl
written-with_version true (write.Day d) w = refl
written-with_version true (write.Used k) w = refl
written-with_version true (write.Slip row) w = refl
written-with_version true (write.Session s) w = refl
written-with_version true (write.Policy p) w = refl

still : (rows : List RowWrite) (row : RowWrite) → is_of_policy row ≡ false → changes_policy (rows ++ row ∷ []) ≡ changes_policy rows
still rows row not_of_policy =
    list_any-append is_of_policy rows (row ∷ [])
    ∙ ap (λ b. changes_policy rows || (b || false)) not_of_policy
    ∙ or-false (changes_policy rows)

in_full-append : (rows : List RowWrite) (row : RowWrite) (w : WorldLists) → is_of_policy row ≡ false → in_full (rows ++ row ∷ []) w ≡ written row (in_full rows w)
in_full-append rows row w not_of_policy =
    ap (λ b. with_version b (all_written (rows ++ row ∷ []) w)) (still rows row not_of_policy)
    ∙ ap (with_version (changes_policy rows)) (all_written-append rows row w)
    ∙ written-with_version (changes_policy rows) row (all_written rows w)

-- a plan that the version has room for is carried out
pub applied-full : (rows : List RowWrite) (w : WorldLists) → has_version_for rows w.version ≡ true → applied rows w ≡ in_full rows w
applied-full rows w room = ap (λ b. if b then in_full rows w else w) room

-- one more write that is none of the policy, such as a release that is used up
pub applied-append : (rows : List RowWrite) (row : RowWrite) (w : WorldLists) → is_of_policy row ≡ false → has_version_for rows w.version ≡ true
    → applied (rows ++ row ∷ []) w ≡ written row (applied rows w)
applied-append rows row w not_of_policy room =
    applied-full (rows ++ row ∷ []) w (ap (λ b. not b || nat_lt w.version max_version) (still rows row not_of_policy) ∙ room)
    ∙ in_full-append rows row w not_of_policy
    ∙ ap (written row) (sym (applied-full rows w room))

all_written-version : (rows : List RowWrite) (w : WorldLists) → (all_written rows w).version ≡ w.version
all_written-version [] w = refl
all_written-version (row ∷ rows) w = all_written-version rows (written row w) ∙ same row
  where
    same : (r : RowWrite) → (written r w).version ≡ w.version
    same (write.Account x) = refl
    same (write.Entry x) = refl
    same (write.Line x) = refl
    same (write.Proof x) = refl
    same (write.Release x) = refl
    same (write.Day d) = refl
    same (write.Used k) = refl
    same (write.Slip x) = refl
    same (write.Session s) = refl
    same (write.Policy p) = refl

in_full-version : (rows : List RowWrite) (w : WorldLists) → w.version ≤ max_version → has_version_for rows w.version ≡ true → (in_full rows w).version ≤ max_version
in_full-version rows w within room = by (changes_policy rows) refl
  where
    raised : (v u : ℕ) → u ≡ v → nat_lt v max_version ≡ true → u + 1 ≤ max_version
    raised v u same h = grind arith

    kept : (v u : ℕ) → u ≡ v → v ≤ max_version → u ≤ max_version
    kept v u same h = omega arith

    by : (b : Bool) → changes_policy rows ≡ b → (in_full rows w).version ≤ max_version
    by true is =
        subst (λ b. (with_version b (all_written rows w)).version ≤ max_version) (sym is)
        (raised w.version _ (all_written-version rows w) (subst (λ b. (not b || nat_lt w.version max_version) ≡ true) is room))
    by false is =
        subst (λ b. (with_version b (all_written rows w)).version ≤ max_version) (sym is) (kept w.version _ (all_written-version rows w) within)

-- every plan leaves the version in its limits: one that it has no room for changes nothing
pub version_stays : (rows : List RowWrite) (w : WorldLists) → w.version ≤ max_version → (applied rows w).version ≤ max_version
version_stays rows w within = by (has_version_for rows w.version) refl
  where
    by : (b : Bool) → has_version_for rows w.version ≡ b → (applied rows w).version ≤ max_version
    by true room = subst (λ v. v.version ≤ max_version) (sym (applied-full rows w room)) (in_full-version rows w within room)
    by false none = subst (λ b. (if b then in_full rows w else w).version ≤ max_version) (sym none) within
