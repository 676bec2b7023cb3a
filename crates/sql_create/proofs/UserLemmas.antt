-- The users, each with the number of their releases.
use Rattle.std.proofs.Common.{◌≡◌, ◌∙◌, ℕ, ◌+◌, ◌<◌, List, [], ◌∷◌, ◌++◌, length, map, take, get_or, ap, arith, sym}
use Rattle.std.proofs.lemmas.List.{get_or-map, length-map, length-take-le, map-append, take_more}
use Rattle.bank_policy.specs.declared.rows.User.{User}
use Rattle.bank_books.specs.Records.{release_count_of}
use Rattle.bank_books.specs.WorldLists.{WorldLists}
use Rattle.bank_books.specs.declared.records.ReleaseCount.{ReleaseCount}
use Rattle.book_kept.specs.Records.{kept_user_of}
use Rattle.book_kept.specs.declared.records.KeptUser.{KeptUser}

-- one user more
pub user_more : (w : WorldLists) (counts : List ReleaseCount) (i at : ℕ) (user : User) (kept : KeptUser) (none : ReleaseCount) (done now : List KeptUser)
    → counts ≡ map (release_count_of w) w.policy.users → i < length w.policy.users → user ≡ get_or w.policy.users i user → done ≡ map (kept_user_of w) (take i w.policy.users) → at ≡ length done
    → kept ≡ record { row = user; releases = (get_or counts at none).releases } → now ≡ done ++ kept ∷ [] → now ≡ map (kept_user_of w) (take (i + 1) w.policy.users)
user_more w counts i at user kept none done now counted below found so_far place is more =
    let users = w.policy.users in
    let there : User = get_or users i user in
    let long : length done ≡ i = ap length so_far ∙ length-map (take i users) (kept_user_of w) ∙ length-take-le i users (omega (arith, below)) in
    let count : get_or counts at none ≡ release_count_of w there = (λ k. get_or (counted k) ((place ∙ long) k) none) ∙ get_or-map (release_count_of w) users i user none below in
    let one : kept ≡ kept_user_of w there = is ∙ (λ k. record { row = found k; releases = (count k).releases }) in
    more ∙ (λ k. so_far k ++ one k ∷ []) ∙ sym (ap (map (kept_user_of w)) (take_more users i user below) ∙ map-append (kept_user_of w) (take i users) (there ∷ []))
