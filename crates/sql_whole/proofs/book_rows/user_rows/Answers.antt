use Rattle.sqlite.specs.Held.{state}
use Rattle.sql_whole.specs.Faults.{IsOfDatabase}
use Rattle.sql_whole.specs.BookRows.{AreUserRows}
use Rattle.sql_whole.specs.Tables.{AreReleases, AreUsers}
use Rattle.sql_schema.proofs.StepLemmas.{handed_on}
use Rattle.sql_whole.proofs.ReadsLemmas.{done_then, done_whole, gave_then, gave_whole, readable_then}
use Rattle.sql_whole.proofs.book_rows.user_rows.Goals as goal

pub returns-in_err-users-clause-whole : goal.returns-in_err-users-clause-whole
returns-in_err-users-clause-whole g c =
    let s0 = state g.S.Store c.args.conn.now in
    let s1 = state g.S.Store c.all_releases.new.conn in
    let s2 = state g.S.Store c.all_users.new.conn in
    gave_whole c.args.edition s0 s2 AreUserRows c.from_residual-in_err-users.result c.from_residual-in_err-users.ensures.0
    (gave_then c.args.edition s0 s1 s2 (λ db. AreReleases db c.in_ok-releases.releases.items) c.all_users.ensures.read_only.survives c.in_ok-releases.ensures.whole (λ clean has. (c.in_err-users.ensures.whole clean has).2))

pub returns-clause-whole : goal.returns-clause-whole
returns-clause-whole g c =
    let s0 = state g.S.Store c.args.conn.now in
    let s1 = state g.S.Store c.all_releases.new.conn in
    let s2 = state g.S.Store c.all_users.new.conn in
    done_whole c.args.edition s0 s2 (λ db. AreReleases db c.in_ok-releases.releases.items × AreUsers db c.in_ok-users.users.items) (λ db. AreUserRows db (record { releases = c.in_ok-releases.releases; users = c.in_ok-users.users })) (λ db h. record { releases = h.0; users = h.1 })
    (done_then c.args.edition s0 s1 s2 (λ db. AreReleases db c.in_ok-releases.releases.items) (λ db. AreUsers db c.in_ok-users.users.items) c.all_users.ensures.read_only.survives c.in_ok-releases.ensures.whole c.in_ok-users.ensures.whole)

pub returns-in_err-users-clause-takes : goal.returns-in_err-users-clause-takes
returns-in_err-users-clause-takes g c clean has s holds readable =
    let s0 = state g.S.Store c.args.conn.now in
    let s1 = state g.S.Store c.all_releases.new.conn in
    let s2 = state g.S.Store c.all_users.new.conn in
    let fault = c.in_err-users.field-0.0 in
    handed_on c.from_residual-in_err-users.result fault IsOfDatabase c.from_residual-in_err-users.ensures.1
    (readable_then c.args.edition s0 s1 s2 (λ db. AreReleases db c.in_ok-releases.releases.items) (IsOfDatabase fault) c.all_users.ensures.read_only.survives c.in_ok-releases.ensures.whole c.in_err-users.ensures.takes clean has s holds readable)
