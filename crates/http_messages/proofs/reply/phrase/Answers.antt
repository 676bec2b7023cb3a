use Rattle.std.proofs.Common.{rules}
use Rattle.http_messages.specs.Reply.{phrase_of}
use Rattle.http_messages.proofs.reply.phrase.Goals as goal

pub returns : goal.returns
unfolding phrase_of
returns c = search rules
