use Rattle.std.proofs.Common.{◌≡◌, None, rules, ◌∙◌}
use Rattle.bank_policy.specs.HeldRows.{standing}
use Rattle.bank_meaning.specs.Listing.{first_against_listing}
use Rattle.op_prepare.proofs.CountedDenials.{none_denies, read_counted}
use Rattle.decide.proofs.CountedListing.{first_is, listing_counted}
use Rattle.decide.proofs.listing.prepare_listing.Goals as goal

pub returns-clause-judged : goal.returns-clause-judged
returns-clause-judged g c = record {
  stated = λ honest w holds.
      let before = c.counted.ensures.counted.kept.answers.honest honest in
      let is : c.in_ok-standing.standing ≡ standing w.policy c.in-Some.user = search rules in
      let allowed : first_against_listing c.in_ok-standing.standing c.args.who.session ≡ None = search rules in
      listing_counted w c.args.who c.in-Some.user c.in_ok-standing.standing c.in_ok-contents.contents c.in-Some.is is allowed
      c.in_ok-contents.ensures.first c.in_ok-contents.ensures.most (c.in_ok-contents.ensures.counted.stated honest w (c.in_ok-standing.ensures.kept.kept w holds));
  kept = search rules;
  refused = search rules;
}

pub returns-in_err-standing-clause-denied : goal.returns-in_err-standing-clause-denied
returns-in_err-standing-clause-denied g c = λ honest w holds some. read_counted _ _ _ c.in_err-standing.ensures.counted

pub returns-in_err-contents-clause-denied : goal.returns-in_err-contents-clause-denied
returns-in_err-contents-clause-denied g c = λ honest w holds some.
    let before = c.counted.ensures.counted.kept.answers.honest honest in
    let is : c.in_ok-standing.standing ≡ standing w.policy c.in-Some.user = search rules in
    let allowed : first_against_listing c.in_ok-standing.standing c.args.who.session ≡ None = search rules in
    none_denies _ (first_is w c.args.who c.in-Some.user c.in_ok-standing.standing c.in-Some.is is ∙ allowed) some
