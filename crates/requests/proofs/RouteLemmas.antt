-- A router of routes without parameters finds the route with the path's text, so one of the table's paths answers by the table.
use Rattle.std.proofs.Common.{◌≡◌, ℕ, suc, zero, ◌-◌, ◌<◌, ◌≤◌, Bool, true, false, ◌&&◌, cond, List, [], ◌∷◌, Option, Some, None, length, map, All, IsUtf8, refl, sym, ap, ◌∙◌, subst, arith}
use Rattle.std.specs.Prelude.{◌==◌, bytes_eq, option_map}
use Rattle.std.specs.List.{find, list_all}
use Rattle.std.proofs.lemmas.Bool.{ne_eqb, and_parts, ltb-true}
use Rattle.std.specs.Char.{is_ascii}
use Rattle.std.proofs.lemmas.List.Sums.{AllPass-from_list_all}
use Rattle.std.proofs.lemmas.Slice.Eq.{bytes_eq-Decides}
use Rattle.std.proofs.lemmas.Str.{IsUtf8-from_ascii}
use Rattle.std.proofs.lemmas.Str.Ascii.{IsAscii-from_all}
use Rattle.matchit.specs.Rows.{RowsOf, param_token, catch_all_token}
use Rattle.matchit.specs.Seek.{own, step, or_else, seek, param_step, first, same_text, has_slash}
use Rattle.matchit.specs.Router.{RouteOf}
use Rattle.requests.specs.RouterRows.{row_for}
use Rattle.requests.specs.Routes.{paths, route_at}
use Rattle.requests.specs.declared.routes.Route.{Route}

by_not_true : (b : Bool) → ¬ (b ≡ true) → b ≡ false
by_not_true true never = absurd (never refl)
by_not_true false never = refl

abbrev nothing : {K : Type 0} → RowsOf K
nothing = []

module _ {K : Type 0} where
  -- each row is of ASCII bytes, and so it has no parameter
  abbrev AreLiteral : RowsOf K → Type 0
  AreLiteral [] = Unit {0}
  AreLiteral ((text, key) ∷ rest) = (list_all is_ascii text ≡ true) × AreLiteral rest

  -- the key of the row with this text
  abbrev row_of : RowsOf K → List ℕ → Option K
  row_of [] path = None
  row_of ((text, key) ∷ rest) path = cond (same_text text path) (Some key) (row_of rest path)

  param_none : (path : List ℕ) → (param_step (nothing {K = K}) path).1 ≡ []
  unfolding param_step
  param_none path = by_test (has_slash path)
    where
      by_test : (c : Bool) → (cond {A = ℕ × RowsOf K} c (0, []) (length path, [])).1 ≡ []
      by_test true = refl
      by_test false = refl

  seek-none : (n : ℕ) (rs : RowsOf K) (path : List ℕ) → rs ≡ [] → seek n rs path ≡ None
  unfolding seek
  seek-none n [] [] e = refl
  seek-none (suc n) [] (b ∷ path) e = seek-none n [] path refl
  seek-none zero [] (b ∷ path) e =
      let x = seek-none 0 [] path refl in
      let y = seek-none ((param_step {K = K} [] (b ∷ path)).0 - 1) (param_step {K = K} [] (b ∷ path)).1 path (param_none (b ∷ path)) in
      (λ i. or_else (x i) (or_else (y i) None))
  seek-none n (r ∷ rs) path e = absurd cc

  step-none : (token : ℕ) (rs : RowsOf K) → 256 ≤ token → AreLiteral rs → step token rs ≡ []
  step-none token [] high a = refl
  step-none token (([], key) ∷ rest) high a = step-none token rest high a.1
  step-none token ((x ∷ t, key) ∷ rest) high a =
      ap (λ b. cond b ((t, key) ∷ step token rest) (step token rest)) (ne_eqb x token (λ e. absurd (omega (arith, ltb-true x 128 (and_parts _ _ a.0).0)))) ∙ step-none token rest high a.1

  step-literal : (b : ℕ) (rs : RowsOf K) → AreLiteral rs → AreLiteral (step b rs)
  step-literal b [] a = tt
  step-literal b (([], key) ∷ rest) a = step-literal b rest a.1
  step-literal b ((x ∷ t, key) ∷ rest) a = by_test (x == b) (step-literal b rest a.1)
    where
      by_test : (c : Bool) → AreLiteral (step b rest) → AreLiteral (cond c ((t, key) ∷ step b rest) (step b rest))
      by_test true later = ((and_parts _ _ a.0).1, later)
      by_test false later = later

  row-step : (b : ℕ) (rs : RowsOf K) (path : List ℕ) → row_of (step b rs) path ≡ row_of rs (b ∷ path)
  row-step b [] path = refl
  row-step b (([], key) ∷ rest) path = row-step b rest path
  row-step b ((x ∷ t, key) ∷ rest) path = by_test (x == b) (row-step b rest path)
    where
      by_test : (c : Bool) → row_of (step b rest) path ≡ row_of rest (b ∷ path)
          → row_of (cond c ((t, key) ∷ step b rest) (step b rest)) path ≡ cond (c && same_text t path) (Some key) (row_of rest (b ∷ path))
      by_test true later = ap (λ o. cond (same_text t path) (Some key) o) later
      by_test false later = later

  own-row : (rs : RowsOf K) → own rs ≡ row_of rs []
  own-row [] = refl
  own-row (([], key) ∷ rest) = refl
  own-row ((x ∷ t, key) ∷ rest) = own-row rest

  or_none : (o : Option K) → or_else o None ≡ o
  or_none None = refl
  or_none (Some k) = refl

  -- without parameters, the route of a path is the row with the path's text
  first-literal : (rs : RowsOf K) (path : List ℕ) → AreLiteral rs → first rs path ≡ row_of rs path
  unfolding seek
  first-literal rs [] a = own-row rs
  first-literal rs (b ∷ path) a =
      let x = first-literal (step b rs) path (step-literal b rs a) ∙ row-step b rs path in
      let y = seek-none ((param_step (step param_token rs) (b ∷ path)).0 - 1) (param_step (step param_token rs) (b ∷ path)).1 path
      (ap (λ (s : RowsOf K). (param_step s (b ∷ path)).1) (step-none param_token rs (omega arith) a) ∙ param_none (b ∷ path)) in
      let z = ap own (step-none catch_all_token rs (omega arith) a) in
      (λ i. or_else (x i) (or_else (y i) (z i))) ∙ or_none (row_of rs (b ∷ path))

rows_literal : (table : List (List ℕ × Route)) → list_all (λ (row : List ℕ × Route). list_all is_ascii row.0) table ≡ true → AreLiteral (map row_for table)
rows_literal [] e = tt
rows_literal ((path, asked) ∷ table) e = let parts = and_parts _ _ e in (parts.0, rows_literal table parts.1)

paths_literal : AreLiteral (map row_for paths)
paths_literal = rows_literal paths refl

row_found : (table : List (List ℕ × Route)) (path : List ℕ)
    → option_map (λ (route : RouteOf Route). route.value) (row_of (map row_for table) path)
    ≡ option_map (λ (row : List ℕ × Route). row.1) (find (λ (row : List ℕ × Route). bytes_eq row.0 path) table)
row_found [] path = refl
row_found ((text, asked) ∷ table) path = by_test (bytes_eq text path) (row_found table path)
  where
    by_test : (c : Bool)
        → option_map (λ (route : RouteOf Route). route.value) (row_of (map row_for table) path)
        ≡ option_map (λ (row : List ℕ × Route). row.1) (find (λ (row : List ℕ × Route). bytes_eq row.0 path) table)
        → option_map (λ (route : RouteOf Route). route.value) (cond c (Some (row_for (text, asked)).1) (row_of (map row_for table) path))
        ≡ option_map (λ (row : List ℕ × Route). row.1) (cond c (Some (text, asked)) (find (λ (row : List ℕ × Route). bytes_eq row.0 path) table))
    by_test true later = refl
    by_test false later = later

-- a router of the table's paths answers by the table
pub table_found : (path : List ℕ) → option_map (λ (route : RouteOf Route). route.value) (first (map row_for paths) path) ≡ route_at path
unfolding route_at
table_found path =
    ap (option_map (λ (route : RouteOf Route). route.value)) (first-literal (map row_for paths) path paths_literal)
    ∙ row_found paths path

all_ascii : (text : List ℕ) → list_all is_ascii text ≡ true → All (λ b. b < 128) text
all_ascii text e i d within = ltb-true _ 128 (AllPass-from_list_all is_ascii text e i d within)

text_of_ascii : (text : List ℕ) → list_all is_ascii text ≡ true → IsUtf8 text
text_of_ascii text e = IsUtf8-from_ascii text (IsAscii-from_all text (all_ascii text e))

-- a text of the table is no target that is no text
no_text_in : (table : List (List ℕ × Route)) (target : List ℕ) → AreLiteral (map row_for table) → ¬ (IsUtf8 target)
    → option_map (λ (row : List ℕ × Route). row.1) (find (λ (row : List ℕ × Route). bytes_eq row.0 target) table) ≡ None
no_text_in [] target plain no_text = refl
no_text_in ((path, asked) ∷ table) target plain no_text =
    let differ : bytes_eq path target ≡ false =
    by_not_true _ (λ same. no_text (subst IsUtf8 ((bytes_eq-Decides path target).0 same) (text_of_ascii path plain.0))) in
    ap (λ c. option_map (λ (row : List ℕ × Route). row.1) (cond c (Some (path, asked)) (find (λ (row : List ℕ × Route). bytes_eq row.0 target) table))) differ
    ∙ no_text_in table target plain.1 no_text

-- a target that is no text asks for nothing
pub no_text_at : (target : List ℕ) → ¬ (IsUtf8 target) → None ≡ route_at target
unfolding route_at
no_text_at target no_text = sym (no_text_in paths target paths_literal no_text)
