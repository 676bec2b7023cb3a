use Rattle.std.proofs.Common.{subst}
use Rattle.bank_meaning.specs.Order.{IsPolicyInOrder}
use Rattle.bank_meaning.proofs.laws.world_is_in_order.Goals as goal

pub returns : goal.returns
returns c = record {
  books = record {
    branches = c.branches-branches.ensures.in_order;
    tellers = c.tellers-tellers.ensures.in_order;
    accounts = c.accounts-accounts.ensures.in_order;
    entries = c.entries-entries.ensures.in_order;
    lines = c.lines-lines.ensures.in_order;
    proofs = c.proofs-proofs.ensures.in_order;
    releases = c.releases-releases.ensures.in_order;
    slips = c.slips-slips.ensures.in_order;
  };
  policy = subst IsPolicyInOrder c.policy-policy.ensures (record {
    users_in_order = c.users-users.ensures.in_order;
    sets_in_order = c.sets-sets.ensures.in_order;
    relations_in_order = c.relations-relations.ensures.in_order;
    triples_in_order = c.triples-triples.ensures.in_order;
    certifiers_in_order = c.certifiers-certifiers.ensures.in_order;
  });
}
