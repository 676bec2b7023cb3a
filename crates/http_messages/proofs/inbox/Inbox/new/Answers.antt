use Rattle.std.proofs.Common.{rules, []}
use Rattle.http_messages.proofs.inbox.Inbox.new.Goals as goal

-- of no byte nothing was found
pub invariant_of-result : goal.invariant_of-result
invariant_of-result c = (search rules, search rules, c.nothing.ensures [])
