use Rattle.std.proofs.Common.{◌∙◌}
use Rattle.book_sums.proofs.SharesCalls.{group_counted}
use Rattle.book_sums.proofs.shares.Shares.count_of.Goals as goal

pub returns : goal.returns
returns c = c.count_between.ensures.value ∙ group_counted c.args.group c.key_of.result c.key_of-2.result c.args.self.now c.key_of.ensures c.key_of-2.ensures c.count_between.ensures.parts
