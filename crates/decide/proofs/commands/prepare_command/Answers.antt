use Rattle.std.proofs.Common.{rules, ◌≡◌, true, refl, ◌∙◌}
use Rattle.bank_policy.specs.HeldRows.{standing}
use Rattle.certify.specs.CommandRows.{command_rows}
use Rattle.bank_meaning.specs.PolicyRules.{is_identified}
use Rattle.decide.proofs.CommandVerdict.{by_rows}
use Rattle.op_prepare.proofs.CountedDenials.{counted_after, none_denies, not_denied, read_counted}
use Rattle.decide.proofs.commands.prepare_command.Goals as goal

pub returns-in-Err-clause-judged : goal.returns-in-Err-clause-judged
returns-in-Err-clause-judged g c = record {
  stated = λ honest w holds.
      let is : c.in_ok-standing.standing ≡ standing w.policy c.in-Some.user = search rules in
      let known : is_identified c.in_ok-standing.standing c.args.who.session ≡ true = search rules in
      let read : c.in_ok-rows.rows ≡ command_rows w.policy c.in-Some.user c.args.command = search rules in
      let denied = rw c.in-Err.is at c.in_ok-plan.ensures.planned in
      by_rows w c.args.who c.args.command c.in-Some.user c.in_ok-standing.standing c.in_ok-rows.rows c.in-Some.is is known read ∙ denied;
  kept = search rules;
  refused = search rules;
}

pub returns-in_err-standing-clause-denied : goal.returns-in_err-standing-clause-denied
returns-in_err-standing-clause-denied g c = λ honest w holds some. read_counted _ _ _ c.in_err-standing.ensures.counted

pub returns-in_err-rows-clause-denied : goal.returns-in_err-rows-clause-denied
returns-in_err-rows-clause-denied g c = λ honest w holds some. counted_after _ _ _ _ c.in_ok-standing.ensures.counted c.in_err-rows.ensures.counted

pub returns-in_err-plan-clause-denied : goal.returns-in_err-plan-clause-denied
returns-in_err-plan-clause-denied g c = λ honest w holds some.
    let is : c.in_ok-standing.standing ≡ standing w.policy c.in-Some.user = search rules in
    let known : is_identified c.in_ok-standing.standing c.args.who.session ≡ true = search rules in
    let read : c.in_ok-rows.rows ≡ command_rows w.policy c.in-Some.user c.args.command = search rules in
    none_denies _ (by_rows w c.args.who c.args.command c.in-Some.user c.in_ok-standing.standing c.in_ok-rows.rows c.in-Some.is is known read ∙ not_denied _ _ _ refl c.in_err-plan.ensures.denied) some

pub returns-in_err-text-in-Ok-clause-denied : goal.returns-in_err-text-in-Ok-clause-denied
returns-in_err-text-in-Ok-clause-denied g c = λ honest w holds some.
    let is : c.in_ok-standing.standing ≡ standing w.policy c.in-Some.user = search rules in
    let known : is_identified c.in_ok-standing.standing c.args.who.session ≡ true = search rules in
    let read : c.in_ok-rows.rows ≡ command_rows w.policy c.in-Some.user c.args.command = search rules in
    let allowed = rw c.in-Ok.is at c.in_ok-plan.ensures.planned in
    none_denies _ (by_rows w c.args.who c.args.command c.in-Some.user c.in_ok-standing.standing c.in_ok-rows.rows c.in-Some.is is known read ∙ allowed.0) some
