-- Rows that are numbered within their groups, where no key stands twice.
use Rattle.std.proofs.Common.{refl, ◌≡◌, ◌==◌, ℕ, ◌+◌, ◌*◌, ◌^◌, ◌<◌, ◌≤◌, ◌&&◌, List, length, map, Contains, IsTrue, ap, arith, subst, sym, ◌∙◌}
use Rattle.std.specs.List.{count_by, filter}
use Rattle.std.specs.List.Sorted.{IsNonDecreasingBy}
use Rattle.std.proofs.lemmas.Bool.{eq-eqb, eqb-true}
use Rattle.std.proofs.lemmas.List.Sums.{length-filter}
use Rattle.keyed_rows.specs.Ordered.{AreDistinct}
use Rattle.bank_books.specs.declared.rows.Proof.{Proof}
use Rattle.bank_books.specs.declared.rows.Release.{Release}
use Rattle.bank_books.specs.Keys.{proof_key, release_key}
use Rattle.bank_books.specs.Numbering.{AreNumbered}
use Rattle.bank_books.specs.Range.{AreOfRows, IsBranch, IsReleaseInRange}
use Rattle.book_range.specs.RangeParts.{AreCashBooksInRange, AreReleasesAlone, AreReleasesNumbered, IsReleaseAlone}
use Rattle.bank_books.specs.Records.{KeptLists, release_count}
use Rattle.bank_books.specs.WorldLists.{WorldLists}
use Rattle.bank_books.specs.declared.records.BranchRecord.{BranchRecord}
use Rattle.book_range.specs.Numbers.{BearNumbers, BranchesBearNumbers}
use Rattle.book_sums.specs.Groups.{rows_of_group}
use Rattle.book_sums.proofs.Counting.{source_of}
use Rattle.book_sums.proofs.GroupRows.{from_filter, group_found, group_rows, in_filter}
use Rattle.book_range.proofs.GroupKeys.{once}

-- the rows of a group are numbered where each bears a number up to their count, and none stands twice
pub numbered : {X : Type 0} (group number : X → ℕ) (rows found : List X) (of : ℕ) → found ≡ filter (λ x. group x == of) rows →
    ((n : ℕ) → count_by (λ x. group x == of && number x == n) rows ≤ 1) → BearNumbers number found → AreNumbered group number rows of
numbered {X} group number rows found of same few bear =
    let P : List X → Type 0 = λ xs. BearNumbers number xs in
    let all = subst P same bear in
    let here : (x : X) → Contains rows x → group x ≡ of → Contains (filter (λ y. group y == of) rows) x = λ x there is. in_filter (λ y. group y == of) rows x there (eq-eqb _ _ is) in
    record {
      low = λ x there is. (all x (here x there is)).0;
      high = λ x there is. omega (arith, (all x (here x there is)).1, length-filter (λ y. group y == of) rows);
      once = few;
    }

pub from_numbered : {X : Type 0} (group number : X → ℕ) (rows found : List X) (of : ℕ) → found ≡ filter (λ x. group x == of) rows →
    AreNumbered group number rows of → BearNumbers number found
from_numbered {X} group number rows found of same is x there =
    let P : List X → Type 0 = λ xs. Contains xs x in
    let within = from_filter (λ y. group y == of) rows x (subst P same there) in
    let of_group : group x ≡ of = eqb-true _ _ within.1 in
    (is.low x within.0 of_group, omega (arith, is.high x within.0 of_group, length-filter (λ y. group y == of) rows, ap length same))

-- each row names a branch that is there, and its number fits the key
abbrev pub AreNamed : {X : Type 0} → WorldLists → (X → ℕ) → (X → ℕ) → List X → Type 0
AreNamed {X} w group number rows = (x : X) → Contains rows x → IsBranch w.branches (group x) × (number x < 2 ^ 32)

-- the rows of each branch are numbered where those of each kept branch bear numbers
pub branches_numbered : {X : Type 0} (w : WorldLists) (kept : KeptLists) (key group number : X → ℕ) → ((x : X) → key x ≡ 2 ^ 32 * group x + number x) → (rows : List X) (branch : ℕ) →
    AreOfRows w kept → AreDistinct (map key rows) → AreNamed w group number rows → BranchesBearNumbers key number rows kept branch → AreNumbered group number rows branch
branches_numbered {X} w kept key group number made rows branch of_rows distinct named each = record {
  low = λ x there is. (here x there is).low x there is;
  high = λ x there is. (here x there is).high x there is;
  once = λ n. once key group number made rows branch n distinct;
}
  where
    here : (x : X) → Contains rows x → group x ≡ branch → AreNumbered group number rows branch
    here x there is =
        let row = (named x there).0 in
        let source = source_of (λ (b : BranchRecord). b.row) kept.branches w.branches row.0 of_rows.branches row.1.0 in
        let stated : source.0.row.branch ≡ branch = ap (λ b. b.branch) source.1.1 ∙ row.1.1 ∙ is in
        let bear = each source.0 source.1.0 stated in
        let P : ℕ → Type 0 = λ b. BearNumbers number (rows_of_group key b rows) in
        numbered group number rows (rows_of_group key branch rows) branch (group_rows key group number made rows branch (λ y in_rows. (named y in_rows).1))
        (λ n. once key group number made rows branch n distinct) (subst P stated bear)

pub branches_from_numbered : {X : Type 0} (w : WorldLists) (kept : KeptLists) (key group number : X → ℕ) → ((x : X) → key x ≡ 2 ^ 32 * group x + number x) → (rows : List X) (branch : ℕ) →
    AreNamed w group number rows → AreNumbered group number rows branch → BranchesBearNumbers key number rows kept branch
branches_from_numbered {X} w kept key group number made rows branch named is b there stated =
    let P : ℕ → Type 0 = λ k. BearNumbers number (rows_of_group key k rows) in
    subst P (sym stated)
    (from_numbered group number rows (rows_of_group key branch rows) branch (group_rows key group number made rows branch (λ y in_rows. (named y in_rows).1)) is)

-- what is asked of each release by itself
abbrev pub IsNumberedRelease : WorldLists → Release → Type 0
IsNumberedRelease w r = (1 ≤ r.number) × (r.number ≤ release_count r.user w.releases)

pub releases_numbered : (w : WorldLists) → AreDistinct (map release_key w.releases) → ((r : Release) → Contains w.releases r → IsNumberedRelease w r) → AreReleasesNumbered w
releases_numbered w distinct each r there = record {
  low = λ o within of. (each o within).0;
  high = λ o within of. let P : ℕ → Type 0 = λ u. o.number ≤ release_count u w.releases in subst P of (each o within).1;
  once = λ n. once release_key (λ o. o.user) (λ o. o.number) (λ _. refl) w.releases r.user n distinct;
}

pub releases_from_numbered : (w : WorldLists) → AreReleasesNumbered w → (r : Release) → Contains w.releases r → IsNumberedRelease w r
releases_from_numbered w numbered r there = ((numbered r there).low r there refl, (numbered r there).high r there refl)

pub releases_joined : (w : WorldLists) → AreReleasesAlone w → AreReleasesNumbered w → (r : Release) → Contains w.releases r → IsReleaseInRange w.branches w.releases w.policy.users r
releases_joined w alone numbered r there =
    let a = alone.each r there in
    record { user = a.user; number = a.number; numbered = numbered r there; giver = a.giver; branch = a.branch; day = a.day; operation = a.operation }

pub releases_alone : (w : WorldLists) → ((r : Release) → Contains w.releases r → IsReleaseInRange w.branches w.releases w.policy.users r) → AreReleasesAlone w
releases_alone w all = record { each = λ r there. one (all r there) }
  where
    one : {r : Release} → IsReleaseInRange w.branches w.releases w.policy.users r → IsReleaseAlone w.branches w.policy.users r
    one a = record { user = a.user; number = a.number; giver = a.giver; branch = a.branch; day = a.day; operation = a.operation }

pub proofs_found : (w : WorldLists) (seen found : List Proof) (branch : ℕ) → AreCashBooksInRange w → seen ≡ w.proofs →
    (IsNonDecreasingBy proof_key seen → found ≡ rows_of_group proof_key branch seen) → IsNonDecreasingBy proof_key w.proofs →
    found ≡ filter (λ p. p.branch == branch) w.proofs
proofs_found w seen found branch books same says order =
    group_found proof_key (λ p. p.branch) (λ p. p.day) (λ _. refl) seen w.proofs branch found same says order (λ p there. let high = (books.proofs p there).day.1 in omega (arith, high))

pub releases_found : (w : WorldLists) (seen found : List Release) (user : ℕ) → AreReleasesAlone w → seen ≡ w.releases →
    (IsNonDecreasingBy release_key seen → found ≡ rows_of_group release_key user seen) → IsNonDecreasingBy release_key w.releases →
    length found ≡ release_count user w.releases
releases_found w seen found user alone same says order =
    ap length (group_found release_key (λ r. r.user) (λ r. r.number) (λ _. refl) seen w.releases user found same says order (λ r there. let high = (alone.each r there).number.1 in omega (arith, high)))
    ∙ length-filter (λ r. r.user == user) w.releases

-- how many proofs a branch has
pub proofs_counted : (w : WorldLists) (of_branch : List Proof) (branch : ℕ) → of_branch ≡ filter (λ p. p.branch == branch) w.proofs → length of_branch ≡ count_by (λ p. p.branch == branch) w.proofs
proofs_counted w of_branch branch same = ap length same ∙ length-filter (λ p. p.branch == branch) w.proofs

-- a last day that isn't the one after the days of the proofs
pub other_last_day : {P : Type 0} (count counted day : ℕ) → count ≡ counted → (count + 1 ≡ day → ⊥) → (IsTrue (count + 1 == day) → P × (counted + 1 ≡ day)) × (P × (counted + 1 ≡ day) → IsTrue (count + 1 == day))
other_last_day count counted day same other = (
  λ is. absurd (other (eqb-true _ _ is)),
  λ both. absurd (other (ap (λ n. n + 1) same ∙ both.1)),
)
