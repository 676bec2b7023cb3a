use Rattle.std.proofs.Common.{ℕ, List, [], ◌∙◌, refl, subst, OnOk, OnErr}
use Rattle.std.specs.Io.KnownBytes.{Appends}
use Rattle.money.specs.Counted.{AppendsBeginning, stream_of}
use Rattle.http_messages.specs.Reply.{head_bytes}
use Rattle.http_messages.proofs.HeadLemmas.{same_texts}
use Rattle.http_messages.proofs.reply.write_head.Goals as goal

pub returns-clause-whole : goal.returns-clause-whole
unfolding head_bytes
returns-clause-whole g c =
    subst (λ (l : List ℕ). OnOk c.write_texts.result (Appends (g.W.Write.contents (stream_of c.args.writer.now)) (g.W.Write.contents (stream_of c.write_texts.new.writer)) l))
    (same_texts _ _ _ _ _ _ _ _ _ _ _ _ (c.as_bytes.ensures.value ∙ c.as_str.ensures) (c.as_bytes-2.ensures.value ∙ c.phrase.ensures) c.as_bytes-3.ensures.value (c.as_bytes-4.ensures.value ∙ c.format-len.ensures.text) c.connection_field.ensures (refl {A = List ℕ} {a = []}))
    c.write_texts.ensures.whole

pub returns-clause-beginning : goal.returns-clause-beginning
unfolding head_bytes
returns-clause-beginning g c =
    subst (λ (l : List ℕ). OnErr c.write_texts.result (AppendsBeginning (g.W.Write.contents (stream_of c.args.writer.now)) (g.W.Write.contents (stream_of c.write_texts.new.writer)) l))
    (same_texts _ _ _ _ _ _ _ _ _ _ _ _ (c.as_bytes.ensures.value ∙ c.as_str.ensures) (c.as_bytes-2.ensures.value ∙ c.phrase.ensures) c.as_bytes-3.ensures.value (c.as_bytes-4.ensures.value ∙ c.format-len.ensures.text) c.connection_field.ensures (refl {A = List ℕ} {a = []}))
    c.write_texts.ensures.beginning
