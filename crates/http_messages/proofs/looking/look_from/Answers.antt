-- A head that has no fault begins the bytes, so the length of its message is known.
use Rattle.std.proofs.Common.{rules}
use Rattle.http_messages.specs.Next.{BeginsSound}
use Rattle.http_messages.proofs.looking.look_from.Goals as goal

pub returns-in-Ok-clause-kept : goal.returns-in-Ok-clause-kept
returns-in-Ok-clause-kept c =
    let sound : BeginsSound c.args.bytes.now c.judge_from-judged.new.headers c.in-Head.spans c.in-Ok.body_len = search rules in
    c.look_at_body.ensures.kept c.judge_from-judged.new.headers sound
