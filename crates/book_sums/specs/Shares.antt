-- Parts of sums by group: what a group comes to, how many parts it has, and the sums before every 64th part by which both are found.
use Rattle.std.specs.Prelude.{◌≡◌, ℕ, ◌+◌, ◌*◌, ◌/◌, ◌^◌, ◌<◌, ◌≤◌, nat_le, ℤ, pos, neg_ℤ, ◌<ℤ◌, ◌≤ℤ◌, List, length, map, take, slice_index_or, ◌==◌, ◌&&◌, count_by, if◌then◌else◌, Bool}
use Rattle.std.specs.List.{All}
use Rattle.std.specs.List.Sorted.{IsNonDecreasingBy}
use Rattle.keyed_rows.specs.Totals.{total}
use Rattle.book_sums.specs.declared.shares.Part.{Part}

-- by group, then number
abbrev pub part_key : Part → ℕ
part_key p = 2 ^ 32 * p.group + p.number

-- what the parts of a group come to
abbrev pub group_total : ℕ → List Part → ℤ
group_total group parts = total (map (λ p. if p.group == group then p.amount else pos 0) parts)

-- how many parts a group has
abbrev pub group_count : ℕ → List Part → ℕ
group_count group parts = count_by (λ p. p.group == group) parts

-- what the parts of a group come to that are numbered up to this number
abbrev pub total_up_to : ℕ → ℕ → List Part → ℤ
total_up_to group number parts = total (map (λ p. if p.group == group && nat_le p.number number then p.amount else pos 0) parts)

-- what the parts of a group come to that have this number
abbrev pub total_at : ℕ → ℕ → List Part → ℤ
total_at group number parts = total (map (λ p. if p.group == group && p.number == number then p.amount else pos 0) parts)

-- the key of the part lies from the first to the last
abbrev pub is_between : ℕ → ℕ → Part → Bool
is_between first last p = nat_le first (part_key p) && nat_le (part_key p) last

-- what the parts come to whose keys lie from the first to the last
abbrev pub total_between : ℕ → ℕ → List Part → ℤ
total_between first last parts = total (map (λ p. if is_between first last p then p.amount else pos 0) parts)

-- how many parts have such keys
abbrev pub count_between : ℕ → ℕ → List Part → ℕ
count_between first last parts = count_by (is_between first last) parts

-- the numbers of a part, as 32 bits hold them, and its amount, as 64 bits do
pub record IsPart (p : Part) : Type 0 where
  pub group : p.group < 2 ^ 32
  pub number : p.number < 2 ^ 32
  pub low : neg_ℤ (pos (2 ^ 63)) ≤ℤ p.amount
  pub high : p.amount <ℤ pos (2 ^ 63)

-- what the parts before a place add up to
abbrev pub total_before : ℕ → List Part → ℤ
total_before place parts = total (map (λ p. p.amount) (take place parts))

-- the sums before the places 0, 64, 128 and so on, of which the last is this many steps of 64 after the first (sampled prefix sums)
pub record AreSumsOfSteps (steps : ℕ) (parts : List Part) (sums : List ℤ) : Type 0 where
  pub one_more : length sums ≡ steps + 1
  pub sum : (k : ℕ) (d : ℤ) → k ≤ steps → slice_index_or sums k d ≡ total_before (k * 64) parts

-- parts in order, each within its numbers, beside the sums before each full step of them and after the last
pub record AreShares (parts : List Part) (sums : List ℤ) : Type 0 where
  pub in_order : IsNonDecreasingBy part_key parts
  pub in_range : All IsPart parts
  pub steps : AreSumsOfSteps (length parts / 64) parts sums
