use Rattle.std.proofs.Common.{ap, rules, sym, ◌∙◌}
use Rattle.bank_meaning.specs.Proof.{first_against_proof}
use Rattle.op_prepare.proofs.CountedDenials.{read_counted, rows_allow}
use Rattle.op_prepare.proofs.CountedReport.{proof_counted}
use Rattle.op_prepare.proofs.proof.prepare_proof.Goals as goal

pub returns-clause-counted : goal.returns-clause-counted
returns-clause-counted g c = record {
  stated = λ clean w held.
      let before = c.counted.ensures.counted.kept.answers.honest clean in
      proof_counted w c.args.form.now c.in-Some.branch c.in_ok-contents.contents (sym (c.in_ok-branch.ensures.stated before w held) ∙ c.in-Some.is)
      (c.in_ok-contents.ensures.first ∙ c.proof_listing.ensures) c.in_ok-contents.ensures.most (c.in_ok-contents.ensures.counted.stated clean w (c.in_ok-branch.ensures.kept.kept w held));
  kept = search rules;
  refused = search rules;
}

pub returns-in_err-contents-clause-counted : goal.returns-in_err-contents-clause-counted
returns-in_err-contents-clause-counted g c = record {
  stated = search rules;
  kept = search rules;
  refused = search rules;
}

pub returns-in_err-branch-clause-denied : goal.returns-in_err-branch-clause-denied
returns-in_err-branch-clause-denied g c = λ honest w holds some. read_counted _ _ _ c.in_err-branch.ensures.counted

pub returns-in_err-contents-clause-denied : goal.returns-in_err-contents-clause-denied
returns-in_err-contents-clause-denied g c = λ honest w holds some.
    let before = c.counted.ensures.counted.kept.answers.honest honest in
    rows_allow first_against_proof _ _ (c.in_ok-branch.ensures.stated before w holds) (ap first_against_proof c.in-Some.is) some
