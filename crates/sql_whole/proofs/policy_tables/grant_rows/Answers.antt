use Rattle.sqlite.specs.Held.{state}
use Rattle.sql_whole.specs.Faults.{IsOfDatabase}
use Rattle.sql_whole.specs.PolicyTables.{AreGrantRows}
use Rattle.sql_whole.specs.Tables.{AreCertifiers, AreRelations, AreTriples}
use Rattle.sql_schema.proofs.StepLemmas.{handed_on}
use Rattle.sql_whole.proofs.ReadsLemmas.{done_then, done_whole, gave_then, gave_whole, readable_then}
use Rattle.sql_whole.proofs.policy_tables.grant_rows.Goals as goal

pub returns-in_err-triples-clause-whole : goal.returns-in_err-triples-clause-whole
returns-in_err-triples-clause-whole g c =
    let s0 = state g.S.Store c.args.conn.now in
    let s1 = state g.S.Store c.all_relations.new.conn in
    let s2 = state g.S.Store c.all_triples.new.conn in
    gave_whole c.args.edition s0 s2 (AreGrantRows c.args.edition) c.from_residual-in_err-triples.result c.from_residual-in_err-triples.ensures.0
    (gave_then c.args.edition s0 s1 s2 (λ db. AreRelations db c.in_ok-relations.relations.items) c.all_triples.ensures.read_only.survives c.in_ok-relations.ensures.whole (λ clean has. (c.in_err-triples.ensures.whole clean has).2))

pub returns-in_err-certifiers-clause-whole : goal.returns-in_err-certifiers-clause-whole
returns-in_err-certifiers-clause-whole g c =
    let s0 = state g.S.Store c.args.conn.now in
    let s1 = state g.S.Store c.all_relations.new.conn in
    let s2 = state g.S.Store c.all_triples.new.conn in
    let s3 = state g.S.Store c.all_certifiers.new.conn in
    gave_whole c.args.edition s0 s3 (AreGrantRows c.args.edition) c.from_residual-in_err-certifiers.result c.from_residual-in_err-certifiers.ensures.0
    (gave_then c.args.edition s0 s2 s3 (λ db. AreRelations db c.in_ok-relations.relations.items × AreTriples c.args.edition db c.in_ok-triples.triples.items) c.all_certifiers.ensures.read_only.survives (done_then c.args.edition s0 s1 s2 (λ db. AreRelations db c.in_ok-relations.relations.items) (λ db. AreTriples c.args.edition db c.in_ok-triples.triples.items) c.all_triples.ensures.read_only.survives c.in_ok-relations.ensures.whole c.in_ok-triples.ensures.whole) (λ clean has. (c.in_err-certifiers.ensures.whole clean has).2))

pub returns-clause-whole : goal.returns-clause-whole
returns-clause-whole g c =
    let s0 = state g.S.Store c.args.conn.now in
    let s1 = state g.S.Store c.all_relations.new.conn in
    let s2 = state g.S.Store c.all_triples.new.conn in
    let s3 = state g.S.Store c.all_certifiers.new.conn in
    done_whole c.args.edition s0 s3 (λ db. (AreRelations db c.in_ok-relations.relations.items × AreTriples c.args.edition db c.in_ok-triples.triples.items) × AreCertifiers db c.in_ok-certifiers.certifiers.items) (λ db. AreGrantRows c.args.edition db (record { relations = c.in_ok-relations.relations; triples = c.in_ok-triples.triples; certifiers = c.in_ok-certifiers.certifiers })) (λ db h. record { relations = h.0.0; triples = h.0.1; certifiers = h.1 })
    (done_then c.args.edition s0 s2 s3 (λ db. AreRelations db c.in_ok-relations.relations.items × AreTriples c.args.edition db c.in_ok-triples.triples.items) (λ db. AreCertifiers db c.in_ok-certifiers.certifiers.items) c.all_certifiers.ensures.read_only.survives (done_then c.args.edition s0 s1 s2 (λ db. AreRelations db c.in_ok-relations.relations.items) (λ db. AreTriples c.args.edition db c.in_ok-triples.triples.items) c.all_triples.ensures.read_only.survives c.in_ok-relations.ensures.whole c.in_ok-triples.ensures.whole) c.in_ok-certifiers.ensures.whole)

pub returns-in_err-triples-clause-takes : goal.returns-in_err-triples-clause-takes
returns-in_err-triples-clause-takes g c clean has s holds readable =
    let s0 = state g.S.Store c.args.conn.now in
    let s1 = state g.S.Store c.all_relations.new.conn in
    let s2 = state g.S.Store c.all_triples.new.conn in
    let fault = c.in_err-triples.field-0.0 in
    handed_on c.from_residual-in_err-triples.result fault IsOfDatabase c.from_residual-in_err-triples.ensures.1
    (readable_then c.args.edition s0 s1 s2 (λ db. AreRelations db c.in_ok-relations.relations.items) (IsOfDatabase fault) c.all_triples.ensures.read_only.survives c.in_ok-relations.ensures.whole c.in_err-triples.ensures.takes clean has s holds readable)

pub returns-in_err-certifiers-clause-takes : goal.returns-in_err-certifiers-clause-takes
returns-in_err-certifiers-clause-takes g c clean has s holds readable =
    let s0 = state g.S.Store c.args.conn.now in
    let s1 = state g.S.Store c.all_relations.new.conn in
    let s2 = state g.S.Store c.all_triples.new.conn in
    let s3 = state g.S.Store c.all_certifiers.new.conn in
    let fault = c.in_err-certifiers.field-0.0 in
    handed_on c.from_residual-in_err-certifiers.result fault IsOfDatabase c.from_residual-in_err-certifiers.ensures.1
    (readable_then c.args.edition s0 s2 s3 (λ db. AreRelations db c.in_ok-relations.relations.items × AreTriples c.args.edition db c.in_ok-triples.triples.items) (IsOfDatabase fault) c.all_certifiers.ensures.read_only.survives (done_then c.args.edition s0 s1 s2 (λ db. AreRelations db c.in_ok-relations.relations.items) (λ db. AreTriples c.args.edition db c.in_ok-triples.triples.items) c.all_triples.ensures.read_only.survives c.in_ok-relations.ensures.whole c.in_ok-triples.ensures.whole) c.in_err-certifiers.ensures.takes clean has s holds readable)
