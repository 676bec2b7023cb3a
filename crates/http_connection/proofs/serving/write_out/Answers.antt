-- So many more went out.
use Rattle.std.proofs.Common.{take, subst, inl, ◌∙◌, arith}
use Rattle.std.specs.Io.KnownBytes.{Appends}
use Rattle.money.specs.Counted.{stream_of}
use Rattle.http_connection.proofs.HistoryLemmas.{sent_more}
use Rattle.http_connection.proofs.serving.write_out.Goals as goal

pub loop-writer-preserved : goal.loop-writer-preserved
loop-writer-preserved g c = record {
  went = sent_more c.args.connection.now c.loop-writer.connection c.sent.new.self (g.W.Write.contents (stream_of c.args.writer.now)) (g.W.Write.contents (stream_of c.loop-writer.writer)) (g.W.Write.contents (stream_of c.write.new.self))
      c.loop-writer.invariant.went.0 c.in_ok-n.n c.loop-writer.invariant.went.1 c.loop-writer.invariant.went.2 c.sent.ensures c.loop-writer.invariant.went.3
      (subst (λ l. Appends (g.W.Write.contents (stream_of c.loop-writer.writer)) (g.W.Write.contents (stream_of c.write.new.self)) (take c.in_ok-n.n l)) c.unsent-in-loop-writer.ensures c.in_ok-n.ensures.bytes);
  counted = c.in_ok-n.ensures.ok (inl (omega arith)) ∙ c.loop-writer.invariant.counted;
}
