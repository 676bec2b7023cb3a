use Rattle.std.proofs.Common.{◌∙◌, rules}
use Rattle.sql_policy.proofs.WorldLemmas.{triples_of_world}
use Rattle.store_sql.proofs.StepsLemmas.{made_inside, read_refused}
use Rattle.store_sql.proofs.policy_questions.TriplesForQuestion.ask.Goals as goal

pub returns-in_err-rows-clause-reads : goal.returns-in_err-rows-clause-reads
returns-in_err-rows-clause-reads g c = read_refused c.from_residual.ensures.0 c.triples_of.ensures.reads

pub returns-in_err-from_vec-clause-reads : goal.returns-in_err-from_vec-clause-reads
returns-in_err-from_vec-clause-reads g c = made_inside _ c.triples_of.ensures.reads c.triples_of.ensures.found c.in_ok-rows.was
    (λ w can is. search rules)

pub returns-clause-reads : goal.returns-clause-reads
returns-clause-reads g c = made_inside _ c.triples_of.ensures.reads c.triples_of.ensures.found c.in_ok-rows.was
    (λ w can is. c.in_ok-from_vec.ensures ∙ is ∙ triples_of_world w can.policy.sets.distinct c.args.self.now.user c.args.self.now.procedure)
