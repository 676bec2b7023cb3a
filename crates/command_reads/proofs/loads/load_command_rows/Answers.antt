use Rattle.std.proofs.Common.{ap, sym, ◌∙◌}
use Rattle.std.proofs.lemmas.Result.{IfOk-weaker}
use Rattle.certify.specs.CommandRows.{command_rows}
use Rattle.command_reads.proofs.LoadedCommands.{appoint_read}
use Rattle.command_reads.proofs.loads.load_command_rows.Goals as goal

pub returns-in-Appoint : goal.returns-in-Appoint
returns-in-Appoint g c = record {
  stated = λ honest w holds.
      IfOk-weaker c.load_appoint.result _ _
      (λ rows h asks. h ∙ appoint_read w c.args.by c.in-Appoint.certifier c.args.asks asks ∙ ap (command_rows w.policy c.args.by) (sym c.in-Appoint.is))
      (c.load_appoint.ensures.stated honest w holds);
  kept = c.load_appoint.ensures.kept;
  refused = c.load_appoint.ensures.refused;
  counted = c.load_appoint.ensures.counted;
}
