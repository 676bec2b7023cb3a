-- The counts of users, of which the slips stand in a table of their own.
use Rattle.std.proofs.Common.{◌≡◌, ◌∙◌, ℕ, suc, ◌+◌, ◌<◌, List, [], ◌∷◌, ◌++◌, length, map, take, get_or, drop, refl, ap, ap₂, sym}
use Rattle.std.proofs.lemmas.List.{take_more}
use Rattle.bank_policy.specs.declared.rows.User.{User}
use Rattle.bank_books.specs.Records.{release_count_of}
use Rattle.bank_books.specs.WorldLists.{WorldLists}
use Rattle.bank_books.specs.declared.records.ReleaseCount.{ReleaseCount}
use Rattle.book_kept.specs.Records.{kept_user_of, slip_count_of}
use Rattle.book_kept.specs.declared.records.KeptUser.{KeptUser}
use Rattle.book_kept.specs.declared.records.SlipCount.{SlipCount}
use Rattle.sql_adopt.specs.ReadBack.{count_read, counts_read_back, releases_at}

-- ---- as they are made, one after another

length_read : (counts : List SlipCount) (users : List KeptUser) → length (counts_read_back counts users) ≡ length counts
length_read [] users = refl
length_read (c ∷ counts) [] = ap suc (length_read counts [])
length_read (c ∷ counts) (u ∷ users) = ap suc (length_read counts users)

stated_last : (counts : List SlipCount) (users : List KeptUser) (c : SlipCount) → counts_read_back (counts ++ c ∷ []) users ≡ counts_read_back counts users ++ count_read (releases_at users (length counts)) c ∷ []
stated_last [] [] c = refl
stated_last [] (u ∷ users) c = refl
stated_last (x ∷ counts) [] c = ap (λ l. count_read 0 x ∷ l) (stated_last counts [] c)
stated_last (x ∷ counts) (u ∷ users) c = ap (λ l. count_read u.releases x ∷ l) (stated_last counts users c)

pub count_more : (counts : List SlipCount) (users : List KeptUser) (i at : ℕ) (row : SlipCount) (done now : List ReleaseCount) → i < length counts → row ≡ get_or counts i row → done ≡ counts_read_back (take i counts) users
    → at ≡ length done → now ≡ done ++ count_read (releases_at users at) row ∷ [] → now ≡ counts_read_back (take (i + 1) counts) users
count_more counts users i at row done now below found so_far place more =
    let there : SlipCount = get_or counts i row in
    let long : at ≡ length (take i counts) = place ∙ ap length so_far ∙ length_read (take i counts) users in
    more ∙ (λ k. so_far k ++ count_read (releases_at users (long k)) (found k) ∷ [])
    ∙ sym (ap (λ l. counts_read_back l users) (take_more counts i row below) ∙ stated_last (take i counts) users there)

-- ---- of a World

-- those of its users are those that its rows give
pub counts_there : (w : WorldLists) (users : List User) → counts_read_back (map (slip_count_of w) users) (map (kept_user_of w) users) ≡ map (release_count_of w) users
counts_there w [] = refl
counts_there w (u ∷ users) = ap (λ l. release_count_of w u ∷ l) (counts_there w users)

-- and where they are, so are the numbers that were kept
pub counts_back : (w : WorldLists) (counts : List SlipCount) (users : List KeptUser) → map (λ u. release_count_of w u.row) users ≡ counts_read_back counts users
    → (map (λ u. kept_user_of w u.row) users ≡ users) × (map (λ u. slip_count_of w u.row) users ≡ counts)
counts_back w [] [] same = (refl, refl)
counts_back w [] (u ∷ users) same = absurd cc
counts_back w (c ∷ counts) [] same = absurd cc
counts_back w (c ∷ counts) (u ∷ users) same =
    let head : release_count_of w u.row ≡ count_read u.releases c = ap (λ l. get_or l 0 (count_read u.releases c)) same in
    let rest = counts_back w counts users (ap (drop 1) same) in (
      ap₂ (λ n us. record { row = u.row; releases = n } ∷ us) (ap (λ (k : ReleaseCount). k.releases) head) rest.0,
      λ i. record { user = (head i).user; slips = (head i).slips } ∷ rest.1 i,
    )
