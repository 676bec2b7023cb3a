use Rattle.std.proofs.Common.{ap, rules, sym, ◌∙◌}
use Rattle.bank_meaning.proofs.PolicyLemmas.{leave_refused}
use Rattle.decide.specs.Slips.{or_full}
use Rattle.decide.proofs.SlipVerdict.{rule_by_rows}
use Rattle.decide.proofs.slips.rule_with_no_room.Goals as goal

pub returns-in-Err : goal.returns-in-Err
returns-in-Err g c = record {
  stated = λ honest w holds known. sym (ap or_full (leave_refused w c.args.execution.now c.in-Err.rule (sym (c.in_ok-rule.ensures.stated honest w holds known) ∙ c.in-Err.is)));
  kept = search rules;
  counted = search rules;
}

pub returns-in-Some : goal.returns-in-Some
returns-in-Some g c = record {
  stated = λ honest w holds known.
      let before = c.load_book_rows.ensures.kept.answers.honest honest in
      let leave = sym (c.in_ok-rule.ensures.stated before w holds known) ∙ c.in-Ok.is in
      let rows = c.in_ok-rows-in-Ok.ensures.stated honest w (c.in_ok-rule.ensures.kept.kept w holds) in
      sym (ap or_full (sym (rule_by_rows w c.args.execution.now _ c.signature.result c.first_of_books.result c.signature.ensures leave (c.first_of_books.ensures w rows)) ∙ c.in-Some.is));
  kept = search rules;
  counted = search rules;
}

pub returns-in-None : goal.returns-in-None
returns-in-None g c = record {
  stated = λ honest w holds known.
      let before = c.load_book_rows.ensures.kept.answers.honest honest in
      let leave = sym (c.in_ok-rule.ensures.stated before w holds known) ∙ c.in-Ok.is in
      let rows = c.in_ok-rows-in-Ok.ensures.stated honest w (c.in_ok-rule.ensures.kept.kept w holds) in
      sym (ap or_full (sym (rule_by_rows w c.args.execution.now _ c.signature.result c.first_of_books.result c.signature.ensures leave (c.first_of_books.ensures w rows)) ∙ c.in-None.is));
  kept = search rules;
  counted = search rules;
}
