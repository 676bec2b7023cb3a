-- The first row in order of keys that passes is the least.
use Rattle.std.proofs.Common.{◌≡◌, rules, subst, sym}
use Rattle.std.proofs.lemmas.Iterator.{first_from_find, YieldsList-from_slice}
use Rattle.policy_check.specs.PolicyVerdict.{IsLeastOfficer}
use Rattle.policy_check.proofs.FirstFound.{HoldsAsOfficer, no_officer, least_officer, made_of}
use Rattle.policy_check.proofs.separation.first_officer.Goals as goal

pub returns : goal.returns
returns c =
    let policy = c.args.policy.now in
    let found = first_from_find c.find.new.self _ c.find.result (HoldsAsOfficer policy) (λ row. ¬ HoldsAsOfficer policy row) c.find.ensures.ran (YieldsList-from_slice policy.users cc)
    (λ x q k. search rules) (λ x q k. search rules) in
    made_of c.find.result c.map.result _ _ _ _ (λ user. IsLeastOfficer policy user) found c.map.ensures.cases (no_officer policy)
    (λ x y first made.
    let is : y ≡ x.now.user = search rules in
    subst (λ user. IsLeastOfficer policy user) (sym is) (least_officer policy x.now c.users.ensures.in_order first))
