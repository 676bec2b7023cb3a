use Rattle.std.proofs.Common.{ap, ◌∙◌}
use Rattle.std.specs.List.{list_any}
use Rattle.std.proofs.lemmas.Result.{IfOk-weaker}
use Rattle.world_reads.specs.PolicyReads.{is_certifier}
use Rattle.certify.proofs.StoredRows.{certifies_some}
use Rattle.command_reads.proofs.loads.certifies_any.Goals as goal

pub returns-clause-read : goal.returns-clause-read
returns-clause-read g c = record {
  stated = λ honest w holds.
      IfOk-weaker c.certifies_one_of.result _ _ (λ is h. h ∙ ap (list_any (is_certifier w c.args.user)) c.all.ensures ∙ certifies_some w.policy c.args.user) (c.certifies_one_of.ensures.read.stated honest w holds);
  kept = c.certifies_one_of.ensures.read.kept;
}
