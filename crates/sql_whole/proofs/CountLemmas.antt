-- Counts of no slips, one for each user.
use Rattle.std.proofs.Common.{◌≡◌, ◌∙◌, ℕ, ◌+◌, ◌<◌, List, [], ◌∷◌, ◌++◌, length, map, take, get_or, Contains, ap, sym, subst}
use Rattle.std.proofs.lemmas.List.{map-append, take_more}
use Rattle.keyed_rows.proofs.Rows.{Contains-map_source}
use Rattle.sql_schema.specs.Held.{without_slips}
use Rattle.sql_schema.specs.Readable.{IsReadableSlipCount, IsReadableUser}
use Rattle.book_kept.specs.declared.records.KeptUser.{KeptUser}
use Rattle.book_kept.specs.declared.records.SlipCount.{SlipCount}
use Rattle.sql_whole.specs.Typed.{Each}

-- one more
pub count_more : (users : List KeptUser) (i : ℕ) (user : KeptUser) (done now : List SlipCount) → i < length users → user ≡ get_or users i user → done ≡ map without_slips (take i users) → now ≡ done ++ without_slips user ∷ []
    → now ≡ map without_slips (take (i + 1) users)
count_more users i user done now below at before more =
    more ∙ (λ k. before k ++ without_slips (at k) ∷ []) ∙ sym (ap (map without_slips) (take_more users i user below) ∙ map-append without_slips (take i users) (get_or users i user ∷ []))

-- their users are numbers as those of the users are
pub short_counts : (users : List KeptUser) (rows : List SlipCount) → rows ≡ map without_slips users → Each IsReadableUser users → Each IsReadableSlipCount rows
short_counts users rows is typed c there =
    let source = Contains-map_source without_slips users c (subst (λ l. Contains l c) is there) in
    subst IsReadableSlipCount source.1.1 (typed source.0 source.1.0).user
