-- The first row in order of keys that passes is the least.
use Rattle.std.proofs.Common.{◌≡◌, rules, subst, sym}
use Rattle.std.proofs.lemmas.Iterator.{first_from_find, YieldsList-from_slice}
use Rattle.policy_check.specs.PolicyVerdict.{IsLeastBreak}
use Rattle.policy_check.proofs.FirstFound.{Breaks, no_break, least_break, made_of}
use Rattle.policy_check.proofs.separation.first_break.Goals as goal

pub returns : goal.returns
returns c =
    let policy = c.args.policy.now in
    let found = first_from_find c.find.new.self _ c.find.result (Breaks policy) (λ row. ¬ Breaks policy row) c.find.ensures.ran (YieldsList-from_slice policy.triples cc)
    (λ x q k. search rules) (λ x q k. search rules) in
    made_of c.find.result c.map.result _ _ _ _ (λ pair. IsLeastBreak policy pair.0 pair.1) found c.map.ensures.cases (no_break policy)
    (λ x y first made.
    let is : y ≡ (x.now.user, x.now.procedure) = search rules in
    subst (λ pair. IsLeastBreak policy pair.0 pair.1) (sym is) (least_break policy x.now c.requires.triples.numbers c.triples.ensures.in_order first))
