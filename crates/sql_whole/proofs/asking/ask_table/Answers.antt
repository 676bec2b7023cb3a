use Rattle.std.proofs.Common.{subst}
use Rattle.std.specs.Prelude.{IfSome, ⊤}
use Rattle.sqlite.specs.Held.{state}
use Rattle.sql_whole.specs.Whole.{IsAnswered}
use Rattle.sql_whole.proofs.ReadsLemmas.{still}
use Rattle.sql_whole.proofs.asking.ask_table.Goals as goal

pub ask-requires : goal.ask-requires
ask-requires g c = subst (λ found. IfSome found (λ sql. IsAnswered c.args.edition sql.now)) c.in-Some.is c.query_for.ensures

pub returns-in-None-clause-whole : goal.returns-in-None-clause-whole
returns-in-None-clause-whole g c is_open = still c.args.edition (state g.S.Store c.args.conn.now) (λ _. ⊤) (λ _. tt) is_open
