use Rattle.matchit.proofs.OnLiterals.{matchit_on_literals}
use Rattle.requests.proofs.RouteLemmas.{table_found}
use Rattle.requests.proofs.routes.Routes.new.Goals as goal

pub invariant_of-result : goal.invariant_of-result
unfolding matchit_on_literals
invariant_of-result c = record { table = λ path. rw (c.in_ok-add-2.ensures, c.in_ok-add.ensures, c.in_ok-add_commands.ensures) (table_found path) }
