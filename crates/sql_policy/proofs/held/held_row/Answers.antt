use Rattle.std.proofs.Common.{◌≡◌, List, subst}
use Rattle.bank_policy.specs.declared.rows.Member.{Member}
use Rattle.sql_schema.proofs.StepChains.{read_stopped}
use Rattle.sql_policy.proofs.held.held_row.Goals as goal

pub returns-clause-found : goal.returns-clause-found
returns-clause-found g c clean s holds = subst (λ (ms : List Member). c.new.result ≡ record { triple = c.args.triple.now; members = ms }) (c.in_ok-members.ensures.found clean s holds) c.new.ensures

pub returns-in_err-members-clause-reads : goal.returns-in_err-members-clause-reads
returns-in_err-members-clause-reads g c = read_stopped c.from_residual.ensures.0 c.members_of.ensures.reads
