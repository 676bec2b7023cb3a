use Rattle.std.proofs.Common.{◌≡◌, ◌≢◌, rules, tests}
use Rattle.std.proofs.lemmas.Iterator.{cases_from_all, YieldsList-from_slice, YieldsList-from_zip}
use Rattle.std.proofs.lemmas.Iterator.Adapters.{YieldsList-from_skip}
use Rattle.keyed_rows.proofs.GroupCounts.{small_by_pairs}
use Rattle.keyed_rows.proofs.groups.has_small_groups.Goals as goal

pub returns : goal.returns
returns g c =
    let group = g.T.Grouped.group in
    let rows = c.args.rows.now in
    small_by_pairs group rows c.args.most c.all.result
    (cases_from_all c.all.new.self _ c.all.result (λ p. group p.0 ≢ group p.1) (λ p. group p.0 ≡ group p.1) c.all.ensures.ran
    (YieldsList-from_zip (YieldsList-from_slice rows cc) (YieldsList-from_skip c.args.most (YieldsList-from_slice rows cc) cc))
    (λ x q k. search (rules, tests)) (λ x q k. search (rules, tests)))
