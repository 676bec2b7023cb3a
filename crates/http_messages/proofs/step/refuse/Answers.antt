use Rattle.std.proofs.Common.{ℕ, List, true, refl, subst}
use Rattle.std.specs.Prelude.{codes}
use Rattle.money.specs.Counted.{stream_of, AppendsBeginning}
use Rattle.http_messages.specs.Reply.{reply_bytes}
use Rattle.http_messages.proofs.step.refuse.Goals as goal

pub returns-in-Err-clause-err : goal.returns-in-Err-clause-err
returns-in-Err-clause-err g c = (
  refl,
  subst (λ (l : List ℕ). AppendsBeginning (g.W.Write.contents (stream_of c.args.writer.now)) (g.W.Write.contents (stream_of c.write_reply.new.writer)) l)
      (λ i. reply_bytes (c.status.ensures i) (codes "application/json") (c.text.ensures i) true c.args.head_only) c.in-Err.ensures.beginning,
)
