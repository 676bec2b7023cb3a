use Rattle.std.proofs.Common.{rules, ◌∙◌}
use Rattle.command_reads.proofs.LoadedCommands.{certify_read}
use Rattle.command_reads.proofs.loads.load_certify.Goals as goal

pub returns : goal.returns
returns g c = record {
  stated = λ honest w holds. c.of_certify.ensures ∙ certify_read w c.args.by c.args.key.now _ _ _ (search rules) (search rules) (search rules);
  kept = search rules;
  refused = search rules;
  counted = search rules;
}
