use Rattle.counter_api.proofs.FramingLemmas.{beginning_from}
use Rattle.counter_api.proofs.counter.write_response.Goals as goal

pub returns-clause-beginning : goal.returns-clause-beginning
returns-clause-beginning g c =
    beginning_from c.reply.result _ _ c.args.message.now c.args.response.now c.status.result c.content_type.result.now c.body.result.now c.status.ensures c.content_type.ensures c.body.ensures c.reply.ensures.beginning
