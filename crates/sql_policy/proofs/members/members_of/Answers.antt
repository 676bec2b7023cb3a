use Rattle.std.proofs.Common.{◌∙◌, ap, filter, map}
use Rattle.std.proofs.lemmas.Result.{IfOk-weaker}
use Rattle.sqlite.specs.Held.{state}
use Rattle.sql_schema.specs.Held.Sheet.{members as in_members}
use Rattle.sql_schema.proofs.PickedRows.{passing_fit}
use Rattle.sql_schema.proofs.StepChains.{read_answered, read_stopped}
use Rattle.sql_policy.specs.Tests.{is_member_of}
use Rattle.sql_policy.proofs.MemberLemmas.{members_is, selects_members}
use Rattle.sql_policy.proofs.members.members_of.Goals as goal

pub listed-requires : goal.listed-requires
listed-requires g c = members_is.2

pub returns-clause-found : goal.returns-clause-found
returns-clause-found g c clean s holds =
    let test = is_member_of c.args.set in
    let rows_are = c.in_ok-rows.ensures.found clean (filter test s.members) (passing_fit test s.members _ (holds.rows in_members))
    (λ rows shown. selects_members (state g.S.Store c.args.tx.now.conn.now) (state g.S.Store c.listed.new.tx.conn.now) s c.args.set rows holds (rw c.params-to_sql.ensures at shown)) in
    IfOk-weaker c.members_at.result _ _ (λ list is. is ∙ ap (map (λ m. m.member)) (c.deref.ensures.value ∙ rows_are)) c.members_at.ensures

pub returns-clause-reads : goal.returns-clause-reads
returns-clause-reads g c = read_answered c.in_ok-rows.ensures.reads c.members_at.result

pub returns-in_err-rows-clause-reads : goal.returns-in_err-rows-clause-reads
returns-in_err-rows-clause-reads g c = read_stopped c.from_residual.ensures.0 c.listed.ensures.reads
