use Rattle.std.proofs.Common.{◌≡◌, Err, rules, sym, true}
use Rattle.bank_policy.specs.Tests.{is_certified}
use Rattle.bank_meaning.specs.PolicyRules.{is_identified, authorization_by_triples}
use Rattle.decide.proofs.LoadedRows.{first_by_triples}
use Rattle.decide.specs.Loaded.{loaded_grounds}
use Rattle.decide.proofs.by_rows.first_of_policy.Goals as goal

pub returns-in-Err : goal.returns-in-Err
returns-in-Err c =
    let g = loaded_grounds c.args.rows.now c.args.execution.now in
    let known : is_identified g.standing g.session ≡ true = search rules in
    let certified : is_certified g.relations g.items ≡ true = search rules in
    let sought : authorization_by_triples g.held g.items g.amount g.release ≡ Err c.in-Err.rule = search rules in
    sym (first_by_triples g c.in-Err.rule known certified sought)
