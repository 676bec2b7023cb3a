use Rattle.std.proofs.Common.{◌≡◌, ◌∙◌, ◌∷◌, ◌++◌, ◌+◌, ◌<◌, ℕ, List, [], length, get_or, take, arith, ap}
use Rattle.std.proofs.lemmas.List.{get_or_default}
use Rattle.bank_books.specs.declared.records.ReleaseCount.{ReleaseCount}
use Rattle.book_kept.specs.declared.records.KeptUser.{KeptUser}
use Rattle.book_kept.specs.declared.records.SlipCount.{SlipCount}
use Rattle.sql_adopt.specs.ReadBack.{count_read, counts_read_back, releases_at}
use Rattle.sql_adopt.proofs.CountLemmas.{count_more}
use Rattle.sql_adopt.proofs.counts.counts_of.Goals as goal

-- what was pushed is counted of the row at this place, whatever row is taken past the last
pushed : (counts : List SlipCount) (users : List KeptUser) (i at : ℕ) (none : SlipCount) (done now : List ReleaseCount) (releases : ℕ) → i < length counts → done ≡ counts_read_back (take i counts) users → at ≡ length done
    → releases ≡ releases_at users at → now ≡ done ++ record { user = (get_or counts i none).user; releases = releases; slips = (get_or counts i none).slips } ∷ [] → now ≡ counts_read_back (take (i + 1) counts) users
pushed counts users i at none done now releases below so_far place is more =
    let row : SlipCount = get_or counts i none in
    count_more counts users i at row done now below (get_or_default counts i none row below) so_far place (more ∙ ap (λ n. done ++ count_read n row ∷ []) is)

pub loop-row-preserved : goal.loop-row-preserved
loop-row-preserved c =
    let place : c.len.result ≡ length c.loop-row.list.items = omega (arith, c.len.ensures, c.loop-row.list.ok) in
    pushed c.args.counts.now c.args.users.now c.loop-row.row-index c.len.result _ c.loop-row.list.items c.push.new.self.items c.releases_at-releases.result
    c.loop-row-test.true c.loop-row.invariant place c.releases_at-releases.ensures c.in_ok-push.ensures.items
