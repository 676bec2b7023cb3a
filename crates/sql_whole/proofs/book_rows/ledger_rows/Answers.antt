use Rattle.sqlite.specs.Held.{state}
use Rattle.sql_whole.specs.Faults.{IsOfDatabase}
use Rattle.sql_whole.specs.BookRows.{AreLedgerRows}
use Rattle.sql_whole.specs.Tables.{AreAccounts, AreBranches, AreTellers}
use Rattle.sql_schema.proofs.StepLemmas.{handed_on}
use Rattle.sql_whole.proofs.ReadsLemmas.{done_then, done_whole, gave_then, gave_whole, readable_then}
use Rattle.sql_whole.proofs.book_rows.ledger_rows.Goals as goal

pub returns-in_err-tellers-clause-whole : goal.returns-in_err-tellers-clause-whole
returns-in_err-tellers-clause-whole g c =
    let s0 = state g.S.Store c.args.conn.now in
    let s1 = state g.S.Store c.all_branches.new.conn in
    let s2 = state g.S.Store c.all_tellers.new.conn in
    gave_whole c.args.edition s0 s2 AreLedgerRows c.from_residual-in_err-tellers.result c.from_residual-in_err-tellers.ensures.0
    (gave_then c.args.edition s0 s1 s2 (λ db. AreBranches db c.in_ok-branches.branches.items) c.all_tellers.ensures.read_only.survives c.in_ok-branches.ensures.whole (λ clean has. (c.in_err-tellers.ensures.whole clean has).2))

pub returns-in_err-accounts-clause-whole : goal.returns-in_err-accounts-clause-whole
returns-in_err-accounts-clause-whole g c =
    let s0 = state g.S.Store c.args.conn.now in
    let s1 = state g.S.Store c.all_branches.new.conn in
    let s2 = state g.S.Store c.all_tellers.new.conn in
    let s3 = state g.S.Store c.all_accounts.new.conn in
    gave_whole c.args.edition s0 s3 AreLedgerRows c.from_residual-in_err-accounts.result c.from_residual-in_err-accounts.ensures.0
    (gave_then c.args.edition s0 s2 s3 (λ db. AreBranches db c.in_ok-branches.branches.items × AreTellers db c.in_ok-tellers.tellers.items) c.all_accounts.ensures.read_only.survives (done_then c.args.edition s0 s1 s2 (λ db. AreBranches db c.in_ok-branches.branches.items) (λ db. AreTellers db c.in_ok-tellers.tellers.items) c.all_tellers.ensures.read_only.survives c.in_ok-branches.ensures.whole c.in_ok-tellers.ensures.whole) (λ clean has. (c.in_err-accounts.ensures.whole clean has).2))

pub returns-clause-whole : goal.returns-clause-whole
returns-clause-whole g c =
    let s0 = state g.S.Store c.args.conn.now in
    let s1 = state g.S.Store c.all_branches.new.conn in
    let s2 = state g.S.Store c.all_tellers.new.conn in
    let s3 = state g.S.Store c.all_accounts.new.conn in
    done_whole c.args.edition s0 s3 (λ db. (AreBranches db c.in_ok-branches.branches.items × AreTellers db c.in_ok-tellers.tellers.items) × AreAccounts db c.in_ok-accounts.accounts.items) (λ db. AreLedgerRows db (record { branches = c.in_ok-branches.branches; tellers = c.in_ok-tellers.tellers; accounts = c.in_ok-accounts.accounts })) (λ db h. record { branches = h.0.0; tellers = h.0.1; accounts = h.1 })
    (done_then c.args.edition s0 s2 s3 (λ db. AreBranches db c.in_ok-branches.branches.items × AreTellers db c.in_ok-tellers.tellers.items) (λ db. AreAccounts db c.in_ok-accounts.accounts.items) c.all_accounts.ensures.read_only.survives (done_then c.args.edition s0 s1 s2 (λ db. AreBranches db c.in_ok-branches.branches.items) (λ db. AreTellers db c.in_ok-tellers.tellers.items) c.all_tellers.ensures.read_only.survives c.in_ok-branches.ensures.whole c.in_ok-tellers.ensures.whole) c.in_ok-accounts.ensures.whole)

pub returns-in_err-tellers-clause-takes : goal.returns-in_err-tellers-clause-takes
returns-in_err-tellers-clause-takes g c clean has s holds readable =
    let s0 = state g.S.Store c.args.conn.now in
    let s1 = state g.S.Store c.all_branches.new.conn in
    let s2 = state g.S.Store c.all_tellers.new.conn in
    let fault = c.in_err-tellers.field-0.0 in
    handed_on c.from_residual-in_err-tellers.result fault IsOfDatabase c.from_residual-in_err-tellers.ensures.1
    (readable_then c.args.edition s0 s1 s2 (λ db. AreBranches db c.in_ok-branches.branches.items) (IsOfDatabase fault) c.all_tellers.ensures.read_only.survives c.in_ok-branches.ensures.whole c.in_err-tellers.ensures.takes clean has s holds readable)

pub returns-in_err-accounts-clause-takes : goal.returns-in_err-accounts-clause-takes
returns-in_err-accounts-clause-takes g c clean has s holds readable =
    let s0 = state g.S.Store c.args.conn.now in
    let s1 = state g.S.Store c.all_branches.new.conn in
    let s2 = state g.S.Store c.all_tellers.new.conn in
    let s3 = state g.S.Store c.all_accounts.new.conn in
    let fault = c.in_err-accounts.field-0.0 in
    handed_on c.from_residual-in_err-accounts.result fault IsOfDatabase c.from_residual-in_err-accounts.ensures.1
    (readable_then c.args.edition s0 s2 s3 (λ db. AreBranches db c.in_ok-branches.branches.items × AreTellers db c.in_ok-tellers.tellers.items) (IsOfDatabase fault) c.all_accounts.ensures.read_only.survives (done_then c.args.edition s0 s1 s2 (λ db. AreBranches db c.in_ok-branches.branches.items) (λ db. AreTellers db c.in_ok-tellers.tellers.items) c.all_tellers.ensures.read_only.survives c.in_ok-branches.ensures.whole c.in_ok-tellers.ensures.whole) c.in_err-accounts.ensures.takes clean has s holds readable)
