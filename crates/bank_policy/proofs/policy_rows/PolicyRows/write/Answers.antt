-- Each change keeps the order of its own list, and the others stay.
use Rattle.bank_policy.proofs.policy_rows.PolicyRows.write.Goals as goal

pub returns-in-Relation-clause-in_order : goal.returns-in-Relation-clause-in_order
returns-in-Relation-clause-in_order c o = record {
  users_in_order = o.users_in_order;
  sets_in_order = o.sets_in_order;
  relations_in_order = c.insert_row_reserved-in-Relation.ensures.in_order o.relations_in_order;
  triples_in_order = o.triples_in_order;
  certifiers_in_order = o.certifiers_in_order;
}

pub returns-in-NoRelation-clause-in_order : goal.returns-in-NoRelation-clause-in_order
returns-in-NoRelation-clause-in_order c o = record {
  users_in_order = o.users_in_order;
  sets_in_order = o.sets_in_order;
  relations_in_order = c.remove_rows.ensures.in_order o.relations_in_order;
  triples_in_order = c.remove_triples.ensures.in_order o.triples_in_order;
  certifiers_in_order = o.certifiers_in_order;
}

pub returns-in-Triple-clause-in_order : goal.returns-in-Triple-clause-in_order
returns-in-Triple-clause-in_order c o = record {
  users_in_order = o.users_in_order;
  sets_in_order = o.sets_in_order;
  relations_in_order = o.relations_in_order;
  triples_in_order = c.insert_row_reserved-in-Triple.ensures.in_order o.triples_in_order;
  certifiers_in_order = o.certifiers_in_order;
}

pub returns-in-NoTriple-clause-in_order : goal.returns-in-NoTriple-clause-in_order
returns-in-NoTriple-clause-in_order c o = record {
  users_in_order = o.users_in_order;
  sets_in_order = o.sets_in_order;
  relations_in_order = o.relations_in_order;
  triples_in_order = c.remove_rows-in-NoTriple.ensures.in_order o.triples_in_order;
  certifiers_in_order = o.certifiers_in_order;
}

pub returns-in-Certifier-clause-in_order : goal.returns-in-Certifier-clause-in_order
returns-in-Certifier-clause-in_order c o = record {
  users_in_order = o.users_in_order;
  sets_in_order = o.sets_in_order;
  relations_in_order = o.relations_in_order;
  triples_in_order = o.triples_in_order;
  certifiers_in_order = c.insert_row_reserved-in-Certifier.ensures.in_order o.certifiers_in_order;
}

pub returns-in-NoCertifier-clause-in_order : goal.returns-in-NoCertifier-clause-in_order
returns-in-NoCertifier-clause-in_order c o = record {
  users_in_order = o.users_in_order;
  sets_in_order = o.sets_in_order;
  relations_in_order = o.relations_in_order;
  triples_in_order = o.triples_in_order;
  certifiers_in_order = c.remove_rows-in-NoCertifier.ensures.in_order o.certifiers_in_order;
}
