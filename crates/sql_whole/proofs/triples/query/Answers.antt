use Rattle.std.proofs.Common.{subst, sym}
use Rattle.sql_whole.specs.Texts.{first_triples_text, grants_text}
use Rattle.sql_whole.specs.Whole.{IsAnswered}
use Rattle.sql_whole.proofs.PolicyWhole.{tells_first_triples, tells_second_triples, tells_third_triples}
use Rattle.sql_whole.proofs.triples.query.Goals as goal

pub returns-in-First : goal.returns-in-First
returns-in-First c = subst (λ e. IsAnswered e first_triples_text) (sym c.in-First.is) tells_first_triples.asks

pub returns-in-Second : goal.returns-in-Second
returns-in-Second c = subst (λ e. IsAnswered e grants_text) (sym c.in-Second.is) tells_second_triples.asks

pub returns-in-Third : goal.returns-in-Third
returns-in-Third c = subst (λ e. IsAnswered e grants_text) (sym c.in-Third.is) tells_third_triples.asks
