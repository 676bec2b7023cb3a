use Rattle.std.proofs.Common.{subst}
use Rattle.sqlite.specs.Held.{state}
use Rattle.sql_create.proofs.GoesLemmas.{RanBy}
use Rattle.sql_upgrade.proofs.DropLemmas.{certifiers_removed, triples_removed, relations_removed}
use Rattle.sql_upgrade.proofs.ProceedsLemmas.{taken, taken_then, takes, takes_then}
use Rattle.sql_upgrade.proofs.dropping.drop_rights.Goals as goal

pub returns-clause-proceeds : goal.returns-clause-proceeds
returns-clause-proceeds g c =
    let first = taken (certifiers_removed c.args.edition) c.in_ok-define.ensures.ran c.in_ok-define.ensures.open in
    let second = taken_then first c.define-2.ensures.frame.survives (taken (triples_removed c.args.edition) (subst (RanBy (state g.S.Store c.define.new.tx.conn.now) (state g.S.Store c.define-2.new.tx.conn.now)) c.triples_text.ensures c.in_ok-define-2.ensures.ran) c.in_ok-define-2.ensures.open) in
    takes_then _ c.define-3.result second c.define-3.ensures.frame.survives (takes (relations_removed c.args.edition) c.define-3.result c.define-3.ensures.ran c.define-3.ensures.open)
