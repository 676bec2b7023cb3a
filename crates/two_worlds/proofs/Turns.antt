-- Two Worlds have the same entries of an account by branch and number exactly where they have the same by turn.
use Rattle.std.proofs.Common.{◌≡◌, ℕ, ◌+◌, ◌-◌, ◌≤◌, List, [], ◌∷◌, length, Bool, true, false, cond, refl, ap, ap₂, arith, sym, subst, ◌∙◌, ◌==◌, Option, Some, None, Contains, ◌⊎◌, inl, inr}
use Rattle.std.specs.List.{cons_option, count_by, filter, filter_map, find, range_with_len}
use Rattle.std.proofs.lemmas.Bool.{and_from, and_parts, eq-eqb, eqb-true, false≢true}
use Rattle.std.proofs.lemmas.List.FromFn.{get_or-range_with_len, length-range_with_len}
use Rattle.std.proofs.lemmas.List.Kept.{IsNonDecreasingBy-filter}
use Rattle.std.proofs.lemmas.List.Sums.{length-filter, sum_by-cons}
use Rattle.bank_policy.proofs.RowsTell.{from_filter, in_filter}
use Rattle.bank_meaning.proofs.LastWordRows.{same_rows}
use Rattle.bank_books.specs.Balances.{turn_count}
use Rattle.bank_books.specs.Conditions.{home_of}
use Rattle.bank_books.specs.Keys.{entry_key}
use Rattle.bank_books.specs.WorldLists.{WorldLists}
use Rattle.bank_books.specs.declared.rows.Entry.{Entry}
use Rattle.keyed_rows.proofs.Rows.{Contains-cons_cases, Contains-tail, count_some, find-found}
use Rattle.certify.proofs.RemovedRows.{AreDistinct-filter}
use Rattle.world_reads.specs.BookReads.{is_entry_at}
use Rattle.counter_ops.specs.Touched.{account_item}
use Rattle.bank_meaning.specs.Sums.{PassesChecks}
use Rattle.two_worlds.specs.View.{nothing, view_of}
use Rattle.two_worlds.specs.Views.{ViewsGoByTurn, by_turn}
use Rattle.two_worlds.proofs.Grown.{find_passing}

-- ---- what a look-up by each of some numbers finds

one_row : {X : Type 0} (x y : X) → ◌≡◌ {A = Option X} (Some x) (Some y) → x ≡ y
one_row x y same = cc

no_row : {X : Type 0} (x : X) → ◌≡◌ {A = Option X} None (Some x) → ⊥
no_row x none = cc

in_found : {X : Type 0} (h : ℕ → Option X) (ns : List ℕ) (n : ℕ) (x : X) → Contains ns n → h n ≡ Some x → Contains (filter_map h ns) x
in_found h [] n x (k, within, is) some = absurd (omega arith)
in_found {X} h (m ∷ ns) n x there some = go (Contains-cons_cases m ns n there) (h m) refl (λ following. in_found h ns n x following some)
  where
    go : (m ≡ n) ⊎ Contains ns n → (o : Option X) → h m ≡ o → (Contains ns n → Contains (filter_map h ns) x) → Contains (cons_option o (filter_map h ns)) x
    go (inl here) (Some y) is rest = (0, omega arith, one_row y x (sym is ∙ ap h here ∙ some))
    go (inl here) None is rest = absurd (no_row x (sym is ∙ ap h here ∙ some))
    go (inr following) (Some y) is rest = Contains-tail y (filter_map h ns) x (rest following)
    go (inr following) None is rest = rest following

from_found : {X : Type 0} (h : ℕ → Option X) (ns : List ℕ) (x : X) → Contains (filter_map h ns) x → (n : ℕ) × (h n ≡ Some x)
from_found h [] x (k, within, is) = absurd (omega arith)
from_found {X} h (m ∷ ns) x there = go (h m) refl there (from_found h ns x)
  where
    go : (o : Option X) → h m ≡ o → Contains (cons_option o (filter_map h ns)) x → (Contains (filter_map h ns) x → (n : ℕ) × (h n ≡ Some x)) → (n : ℕ) × (h n ≡ Some x)
    go None is at rest = rest at
    go (Some y) is at rest = elim (Contains-cons_cases y (filter_map h ns) x at) [ inl here ↦ (m, is ∙ ap Some here) | inr following ↦ rest following ]

-- a row that passes is found, where no other does
only_one : {X : Type 0} (p : X → Bool) (xs : List X) (x : X) → count_by p xs ≤ 1 → Contains xs x → p x ≡ true → find p xs ≡ Some x
only_one p [] x one (k, within, is) passes = absurd (omega arith)
only_one {X} p (y ∷ ys) x one there passes =
    go (p y) refl (Contains-cons_cases y ys x there) (subst (λ n. n ≤ 1) (sum_by-cons (λ z. cond (p z) 1 0) y ys) one) (λ few following. only_one p ys x few following passes)
  where
    too_many : (n : ℕ) → 1 ≤ n → 1 + n ≤ 1 → ⊥
    too_many n some few = omega arith

    fewer : (n : ℕ) → 0 + n ≤ 1 → n ≤ 1
    fewer n few = omega arith

    go : (b : Bool) → p y ≡ b → (y ≡ x) ⊎ Contains ys x → cond (p y) 1 0 + count_by p ys ≤ 1 → (count_by p ys ≤ 1 → Contains ys x → find p ys ≡ Some x) → cond b (Some y) (find p ys) ≡ Some x
    go true at (inl here) few rest = ap Some here
    go true at (inr following) few rest = absurd (too_many (count_by p ys) (count_some p ys x following passes) (subst (λ b. cond b 1 0 + count_by p ys ≤ 1) at few))
    go false at (inl here) few rest = absurd (false≢true (sym at ∙ ap p here ∙ passes))
    go false at (inr following) few rest = rest (fewer (count_by p ys) (subst (λ b. cond b 1 0 + count_by p ys ≤ 1) at few)) following

in_range : (n count : ℕ) → 1 ≤ n → n ≤ count → Contains (range_with_len 1 count) n
in_range n count low high =
    let long = length-range_with_len 1 count in
    (n - 1, omega arith, get_or-range_with_len 1 count (n - 1) n (omega arith) ∙ omega arith)

-- ---- by turn, of the view

by_turn_seen : (w : WorldLists) (key : ℕ) → by_turn w key ≡ (let s = view_of w (account_item key) in filter_map (λ turn. find (is_entry_at key turn) s.entries) (range_with_len 1 (length s.entries)))
by_turn_seen w key =
    let count = sym (length-filter (λ e. e.account == key) w.entries) in
    let found = λ (turn : ℕ). sym (find_passing (is_entry_at key turn) (λ e. e.account == key) (λ e is. (and_parts (e.account == key) (e.turn == turn) is).0) w.entries) in
    λ i. filter_map (λ turn. found turn i) (range_with_len 1 (count i))

still_there : (w v : WorldLists) (key : ℕ) → PassesChecks w → by_turn w key ≡ by_turn v key → (e : Entry) → Contains (filter (λ e. e.account == key) w.entries) e
    → Contains (filter (λ e. e.account == key) v.entries) e
still_there w v key bank same e there =
    let found = from_filter (λ e. e.account == key) w.entries e there in
    let of = eqb-true e.account key found.1 in
    let numbered = (bank.books.history_agrees (home_of w.accounts key)).numbered.turns key refl in
    let here : find (is_entry_at key e.turn) w.entries ≡ Some e =
    only_one (is_entry_at key e.turn) w.entries e (numbered.once e.turn) found.0 (and_from (e.account == key) (e.turn == e.turn) found.1 (eq-eqb e.turn e.turn refl)) in
    let turn = in_range e.turn (turn_count key w.entries) (numbered.low e found.0 of) (numbered.high e found.0 of) in
    let listed = subst (λ es. Contains es e) same (in_found (λ n. find (is_entry_at key n) w.entries) (range_with_len 1 (turn_count key w.entries)) e.turn e turn here) in
    let back = from_found (λ n. find (is_entry_at key n) v.entries) (range_with_len 1 (turn_count key v.entries)) e listed in
    let there' = find-found (is_entry_at key back.0) v.entries e back.1 in
    in_filter (λ e. e.account == key) v.entries e there'.0 (and_parts (e.account == key) (e.turn == back.0) there'.1).0

pub views_go_by_turn : ViewsGoByTurn
views_go_by_turn w v key bank bank' = (
  λ same. (
    ap (λ s. s.account) same,
    by_turn_seen w key ∙ ap (λ s. filter_map (λ turn. find (is_entry_at key turn) s.entries) (range_with_len 1 (length s.entries))) same ∙ sym (by_turn_seen v key),
  ),
  λ parts.
      let p = λ (e : Entry). e.account == key in
      let entries = same_rows entry_key (filter p w.entries) (filter p v.entries) (IsNonDecreasingBy-filter entry_key p w.entries bank.in_order.books.entries)
      (IsNonDecreasingBy-filter entry_key p v.entries bank'.in_order.books.entries) (AreDistinct-filter entry_key p w.entries bank.books.in_range.keys.entries)
      (AreDistinct-filter entry_key p v.entries bank'.books.in_range.keys.entries) (still_there w v key bank parts.1) (still_there v w key bank' (sym parts.1)) in
      ap₂ (λ a es. record nothing { account = a; entries = es }) parts.0 entries,
)
