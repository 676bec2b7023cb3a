use Rattle.std.proofs.Common.{rules, ◌∙◌}
use Rattle.command_reads.proofs.LoadedCommands.{withdraw_read}
use Rattle.command_reads.proofs.loads.load_withdraw.Goals as goal

pub returns : goal.returns
returns g c = record {
  stated = λ honest w holds. c.of_withdraw.ensures ∙ withdraw_read w c.args.by c.args.key.now _ _ (search rules) (search rules);
  kept = search rules;
  refused = search rules;
  counted = search rules;
}
