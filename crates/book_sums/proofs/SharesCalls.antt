-- The parts of a group by the keys that a call computes.
use Rattle.std.proofs.Common.{◌≡◌, ℕ, ◌+◌, ◌*◌, ◌^◌, ◌<◌, ◌≤◌, ℤ, pos, neg_ℤ, ◌+ℤ◌, ◌≤ℤ◌, List, length, ◌==◌, ◌&&◌, ap, sym, subst, ◌∙◌}
use Rattle.std.specs.Prelude.{nat_le}
use Rattle.std.specs.List.{All}
use Rattle.book_sums.specs.declared.shares.Part.{Part}
use Rattle.book_sums.specs.Shares.{IsPart, count_between, group_count, group_total, is_between, total_at, total_before, total_between, total_up_to}
use Rattle.book_sums.proofs.SharesBetween.{EndsAt, EndsBelow, between_places, count_by-PassBetween, total-PassBetween, within_amounts}
use Rattle.book_sums.proofs.SharesGroups.{count_of_tests, greatest, is_at, is_of_group, is_up_to, total_of_tests}
use Rattle.book_sums.proofs.SharesSteps.{few, many}

pub group_added : (group first last : ℕ) (parts : List Part) → first ≡ 2 ^ 32 * group + 0 → last ≡ 2 ^ 32 * group + greatest → All IsPart parts →
    total_between first last parts ≡ group_total group parts
group_added group first last parts first_is last_is all =
    ap (λ k. total_between k last parts) first_is ∙ ap (λ k. total_between (2 ^ 32 * group + 0) k parts) last_is
    ∙ total_of_tests IsPart (is_between (2 ^ 32 * group + 0) (2 ^ 32 * group + greatest)) (λ p. p.group == group) (λ p. p.amount) parts (is_of_group group) all

pub group_counted : (group first last : ℕ) (parts : List Part) → first ≡ 2 ^ 32 * group + 0 → last ≡ 2 ^ 32 * group + greatest → All IsPart parts →
    count_between first last parts ≡ group_count group parts
group_counted group first last parts first_is last_is all =
    ap (λ k. count_between k last parts) first_is ∙ ap (λ k. count_between (2 ^ 32 * group + 0) k parts) last_is
    ∙ count_of_tests IsPart (is_between (2 ^ 32 * group + 0) (2 ^ 32 * group + greatest)) (λ p. p.group == group) parts (is_of_group group) all

pub added_up_to : (group number first last : ℕ) (parts : List Part) → number < 2 ^ 32 → first ≡ 2 ^ 32 * group + 0 → last ≡ 2 ^ 32 * group + number → All IsPart parts →
    total_between first last parts ≡ total_up_to group number parts
added_up_to group number first last parts small first_is last_is all =
    ap (λ k. total_between k last parts) first_is ∙ ap (λ k. total_between (2 ^ 32 * group + 0) k parts) last_is
    ∙ total_of_tests IsPart (is_between (2 ^ 32 * group + 0) (2 ^ 32 * group + number)) (λ p. p.group == group && nat_le p.number number) (λ p. p.amount) parts (is_up_to group number small) all

pub added_at : (group number first last : ℕ) (parts : List Part) → number < 2 ^ 32 → first ≡ 2 ^ 32 * group + number → last ≡ 2 ^ 32 * group + number → All IsPart parts →
    total_between first last parts ≡ total_at group number parts
added_at group number first last parts small first_is last_is all =
    ap (λ k. total_between k last parts) first_is ∙ ap (λ k. total_between (2 ^ 32 * group + number) k parts) last_is
    ∙ total_of_tests IsPart (is_between (2 ^ 32 * group + number) (2 ^ 32 * group + number)) (λ p. p.group == group && p.number == number) (λ p. p.amount) parts (is_at group number small) all

-- the two places are found in copies of the parts, which the value is the view of
pub counted_between : (first last i j : ℕ) (seen other parts view : List Part) → first ≤ last → seen ≡ parts → other ≡ parts → parts ≡ view →
    i ≤ length seen → j ≤ length other → EndsBelow seen first i → EndsAt other last j → i + count_between first last view ≡ j
counted_between first last i j seen other parts view ordered seen_is other_is view_is i_in j_in low high =
    let here : seen ≡ view = seen_is ∙ view_is in
    let there : other ≡ view = other_is ∙ view_is in
    count_by-PassBetween (is_between first last) view i j
    (between_places view first last i j ordered (subst (λ l. i ≤ length l) here i_in) (subst (λ l. j ≤ length l) there j_in)
    (subst (λ l. EndsBelow l first i) here low) (subst (λ l. EndsAt l last j) there high))

-- a difference of what the parts before two places add up to, and its bounds
pub record IsAdded (sum least most : ℤ) (first last : ℕ) (parts : List Part) : Type 0 where
  pub is : least +ℤ sum ≡ most
  pub low : neg_ℤ (pos (2 ^ 126)) ≤ℤ sum
  pub high : sum ≤ℤ pos (2 ^ 126)

pub added_between : (first last i j : ℕ) (seen other parts view : List Part) → first ≤ last → seen ≡ parts → other ≡ parts → parts ≡ view →
    i ≤ length seen → j ≤ length other → EndsBelow seen first i → EndsAt other last j →
    (least most : ℤ) → least ≡ total_before i view → most ≡ total_before j view → All IsPart view → length seen < 2 ^ 63 →
    IsAdded (total_between first last view) least most first last view
added_between first last i j seen other parts view ordered seen_is other_is view_is i_in j_in low high least most least_is most_is all short =
    let here : seen ≡ view = seen_is ∙ view_is in
    let there : other ≡ view = other_is ∙ view_is in
    let i_below : i ≤ length view = subst (λ l. i ≤ length l) here i_in in
    let j_below : j ≤ length view = subst (λ l. j ≤ length l) there j_in in
    let bounds = within_amounts (is_between first last) view all in
    let few_parts : length view < 2 ^ 63 = subst (λ l. length l < 2 ^ 63) here short in
    record {
      is =
          ap (λ z. z +ℤ total_between first last view) least_is
          ∙ total-PassBetween (is_between first last) (λ p. p.amount) view i j
          (between_places view first last i j ordered i_below j_below (subst (λ l. EndsBelow l first i) here low) (subst (λ l. EndsAt l last j) there high))
          ∙ sym most_is;
      low = few (length view) (total_between first last view) few_parts bounds.0;
      high = many (length view) (total_between first last view) few_parts bounds.1;
    }
