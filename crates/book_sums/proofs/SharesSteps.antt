-- What the parts before a place add up to, and the sums that are kept before every 64th part.
use Rattle.std.proofs.Common.{◌≡◌, ℕ, ◌+◌, ◌-◌, ◌*◌, ◌/◌, ◌^◌, ◌<◌, ◌≤◌, ℤ, pos, neg_ℤ, ◌+ℤ◌, ◌≤ℤ◌, List, [], ◌∷◌, ◌++◌, length, map, take, drop, get_or, true, inl, inr, ap, arith, sym, subst, ◌∙◌}
use Rattle.std.specs.List.{All}
use Rattle.std.proofs.Math.Seq.{take-add}
use Rattle.std.proofs.lemmas.Bool.{cases_lt}
use Rattle.std.proofs.lemmas.Int.{ints}
use Rattle.std.proofs.lemmas.List.{get_or_append_left, get_or_push, length-take-le, length_push, map-append}
use Rattle.std.proofs.lemmas.List.Elements.{All-take}
use Rattle.keyed_rows.specs.Totals.{total}
use Rattle.keyed_rows.proofs.TotalLemmas.{total-append}
use Rattle.book_sums.specs.declared.shares.Part.{Part}
use Rattle.book_sums.specs.Shares.{AreShares, AreSumsOfSteps, IsPart, total_before}
use Rattle.book_sums.proofs.SharesBetween.{within_amounts}

-- the parts before a later place add up to those before an earlier one and those between
pub total_before-add : (i m : ℕ) (parts : List Part) → total_before (i + m) parts ≡ total_before i parts +ℤ total (map (λ p. p.amount) (take m (drop i parts)))
total_before-add i m parts =
    ap (λ l. total (map (λ (p : Part). p.amount) l)) (take-add i m parts)
    ∙ ap total (map-append (λ (p : Part). p.amount) (take i parts) (take m (drop i parts)))
    ∙ total-append (map (λ (p : Part). p.amount) (take i parts)) (map (λ (p : Part). p.amount) (take m (drop i parts)))

-- parts add 2 to the 63rd each at most
pub record IsWithin (n : ℕ) (sum : ℤ) : Type 0 where
  pub low : neg_ℤ (pos (2 ^ 63 * n)) ≤ℤ sum
  pub high : sum ≤ℤ pos (2 ^ 63 * n)

pub total_before_within : (n : ℕ) (parts : List Part) → All IsPart parts → n ≤ length parts → IsWithin n (total_before n parts)
total_before_within n parts all inside =
    let bounds = within_amounts (λ _. true) (take n parts) (All-take IsPart n parts all) in
    subst (λ m. IsWithin m (total_before n parts)) (length-take-le n parts inside) record { low = bounds.0; high = bounds.1 }

-- 128 bits hold what as many parts as memory holds add up to
pub few : (n : ℕ) (sum : ℤ) → n < 2 ^ 63 → neg_ℤ (pos (2 ^ 63 * n)) ≤ℤ sum → neg_ℤ (pos (2 ^ 126)) ≤ℤ sum
few n sum short low = omega (arith, ints)

pub many : (n : ℕ) (sum : ℤ) → n < 2 ^ 63 → sum ≤ℤ pos (2 ^ 63 * n) → sum ≤ℤ pos (2 ^ 126)
many n sum short high = omega (arith, ints)

-- a sum is what the parts before a place add up to, and 128 bits hold it
pub record IsSumBefore (place : ℕ) (parts : List Part) (sum : ℤ) : Type 0 where
  pub is : sum ≡ total_before place parts
  pub low : neg_ℤ (pos (2 ^ 126)) ≤ℤ sum
  pub high : sum ≤ℤ pos (2 ^ 126)

-- the sum before a place, from that before an earlier one and the amounts between them
pub sum_from : (start place : ℕ) (parts : List Part) (kept rest : ℤ) → All IsPart parts → start ≤ place → place ≤ length parts → length parts < 2 ^ 63 →
    kept ≡ total_before start parts → rest ≡ total (map (λ p. p.amount) (take (place - start) (drop start parts))) → IsSumBefore place parts (kept +ℤ rest)
sum_from start place parts kept rest all earlier inside short kept_is rest_is =
    let whole : start + (place - start) ≡ place = omega arith in
    let is : kept +ℤ rest ≡ total_before place parts =
    ap (λ z. z +ℤ rest) kept_is ∙ ap (λ z. total_before start parts +ℤ z) rest_is
    ∙ sym (total_before-add start (place - start) parts) ∙ ap (λ n. total_before n parts) whole in
    let bounds = total_before_within place parts all inside in
    let below : place < 2 ^ 63 = omega arith in
    record {
      is = is;
      low = subst (λ z. neg_ℤ (pos (2 ^ 126)) ≤ℤ z) (sym is) (few place (total_before place parts) below bounds.low);
      high = subst (λ z. z ≤ℤ pos (2 ^ 126)) (sym is) (many place (total_before place parts) below bounds.high);
    }

-- at a look-up, from the last sum that is kept before the place
pub sum_looked_up : (place : ℕ) (seen parts view : List Part) (sums : List ℤ) (kept rest : ℤ) → seen ≡ parts → parts ≡ view → AreShares parts sums →
    place ≤ length view → length seen < 2 ^ 63 → kept ≡ get_or sums (place / 64) kept →
    rest ≡ total (map (λ p. p.amount) (take (place - place / 64 * 64) (drop (place / 64 * 64) seen))) → IsSumBefore place view (kept +ℤ rest)
sum_looked_up place seen parts view sums kept rest seen_is view_is shares inside short kept_is rest_is =
    let there : seen ≡ view = seen_is ∙ view_is in
    let here : AreShares view sums = subst (λ l. AreShares l sums) view_is shares in
    sum_from (place / 64 * 64) place view kept rest here.in_range (omega arith) inside (subst (λ l. length l < 2 ^ 63) there short)
    (kept_is ∙ here.steps.sum (place / 64) kept (omega arith))
    (subst (λ l. rest ≡ total (map (λ (p : Part). p.amount) (take (place - place / 64 * 64) (drop (place / 64 * 64) l)))) there rest_is)

-- the sum of no parts
pub AreSumsOfSteps-none : (parts : List Part) (sums after : List ℤ) → sums ≡ [] → after ≡ sums ++ pos 0 ∷ [] → AreSumsOfSteps 0 parts after
AreSumsOfSteps-none parts sums after none after_is = record {
  one_more = omega (arith, ap length after_is, length_push sums (pos 0), ap length none);
  sum = λ k d within.
      let first : 0 ≡ k = omega arith in
      ap (λ l. get_or l k d) after_is ∙ get_or_push sums (pos 0) d k (omega (arith, ap length none, within))
      ∙ ap (λ n. total_before (n * 64) parts) first;
}

-- one step more
pub AreSumsOfSteps-more : (steps : ℕ) (parts : List Part) (sums after : List ℤ) (sum : ℤ) → AreSumsOfSteps steps parts sums →
    after ≡ sums ++ sum ∷ [] → sum ≡ total_before ((steps + 1) * 64) parts → AreSumsOfSteps (steps + 1) parts after
AreSumsOfSteps-more steps parts sums after sum before after_is is = record {
  one_more = omega (arith, ap length after_is, length_push sums sum, before.one_more);
  sum = λ k d within. ap (λ l. get_or l k d) after_is ∙ elim (cases_lt k (steps + 1)) [
    | inl less ↦
        get_or_append_left sums (sum ∷ []) d k (omega (arith, before.one_more, less))
        ∙ before.sum k d (omega (arith, less))
    | inr rest ↦
        let here : steps + 1 ≡ k = omega (arith, within, rest) in
        get_or_push sums sum d k (omega (arith, before.one_more, here))
        ∙ is ∙ ap (λ n. total_before (n * 64) parts) here
  ];
}
