use Rattle.std.proofs.Common.{rules, ◌∙◌}
use Rattle.command_reads.proofs.LoadedCommands.{IsGrantRead, grant_read}
use Rattle.command_reads.proofs.loads.load_grant.Goals as goal

pub returns : goal.returns
returns g c = record {
  stated = λ honest w holds.
      let read : IsGrantRead w c.args.by c.args.triple.now c.in_ok-certifies.certifies c.in_ok-user.user c.in_ok-is_certifier.is_certifier c.deref.result.now c.deref-2.result.now c.in_ok-count.count = record {
        may_grant = search rules;
        receives = search rules;
        certifies_it = search rules;
        certified = search rules;
        holds = search rules;
        has = search rules;
      } in
      c.of_grant.ensures ∙ grant_read w c.args.by c.args.triple.now _ _ _ _ _ _ read;
  kept = search rules;
  refused = search rules;
  counted = search rules;
}
