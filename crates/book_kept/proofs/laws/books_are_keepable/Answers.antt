use Rattle.std.proofs.Common.{subst}
use Rattle.bank_policy.specs.PolicyKeys.{ArePolicyRowsInOrder}
use Rattle.book_kept.proofs.BooksKeepable as proven
use Rattle.book_kept.proofs.laws.books_are_keepable.Goals as goal

pub returns : goal.returns
returns c books distinct =
    proven.books_are_keepable c.args.world.now
    (record {
      branches = c.branches-branches.ensures.in_order;
      tellers = c.tellers-tellers.ensures.in_order;
      accounts = c.accounts-accounts.ensures.in_order;
      entries = c.entries-entries.ensures.in_order;
      lines = c.lines-lines.ensures.in_order;
      proofs = c.proofs-proofs.ensures.in_order;
      releases = c.releases-releases.ensures.in_order;
      slips = c.slips-slips.ensures.in_order;
    })
    (subst (λ p. ArePolicyRowsInOrder p.users p.sets p.relations p.triples p.certifiers) c.policy-policy.ensures (record {
      users_in_order = c.users-users.ensures.in_order;
      sets_in_order = c.sets-sets.ensures.in_order;
      relations_in_order = c.relations-relations.ensures.in_order;
      triples_in_order = c.triples-triples.ensures.in_order;
      certifiers_in_order = c.certifiers-certifiers.ensures.in_order;
    }))
    books distinct
