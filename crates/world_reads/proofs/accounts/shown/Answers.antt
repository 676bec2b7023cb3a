use Rattle.std.proofs.Common.{◌≡◌, length, map, take, ap, ◌∙◌, sym, arith}
use Rattle.std.specs.List.{filter}
use Rattle.bank_books.specs.Records.{account_record_of}
use Rattle.world_reads.specs.BookReads.{is_account_after}
use Rattle.bank_policy.proofs.KeptRows.{kept_more, passed_over}
use Rattle.world_reads.proofs.Kept.{kept_enough}
use Rattle.world_reads.proofs.accounts.shown.Goals as goal
use Rattle.world_reads.proofs.accounts.shown.Goals.{then-is_account_after+in_ok-push, else-is_account_after}

pub returns-then-len-from : goal.returns-then-len-from
returns-then-len-from c =
    let w = c.args.world.now in
    let held = c.in_ok-held.ensures in
    let many : length c.loop-account.rows.items ≡ c.args.count = omega (arith, c.loop-account.rows.ok.0) in
    kept_enough (account_record_of w) (is_account_after c.in_ok-held.held.items c.args.after) c.accounts-account-items.result.now
    c.loop-account.account-index c.args.count _ c.loop-account.invariant.rows many
    ∙ (λ i. map (account_record_of w) (take c.args.count (filter (is_account_after (held i) c.args.after) (c.accounts-account-items.ensures.value i))))

pub loop-account-preserved : goal.loop-account-preserved
loop-account-preserved c =
    let f = account_record_of c.args.world.now in
    let p = is_account_after c.in_ok-held.held.items c.args.after in
    let rows = c.accounts-account-items.result.now in
    let i = c.loop-account.account-index in
    let x = c.account-item.result in
    let tested : p x ≡ c.is_account_after.result =
    sym (c.is_account_after.ensures ∙ ap (λ held. is_account_after held c.args.after x) c.deref.ensures.value) in
    elim c.if-is_account_after.branch [
      | then-is_account_after+in_ok-push w ↦ rw w.rows-is (record {
        rows = kept_more f p rows i x _ _ _ c.loop-account-test.true c.account-item.is (tested ∙ w.if-is_account_after.true)
            w.account_record_of.ensures c.loop-account.invariant.rows w.in_ok-push.ensures.items;
        few = omega (arith, w.in_ok-push.ensures.len);
      })
      | else-is_account_after w ↦ rw w.rows-is (record {
        rows = passed_over f p rows i x _ c.loop-account-test.true c.account-item.is (tested ∙ w.if-is_account_after.false) c.loop-account.invariant.rows;
        few = c.loop-account.invariant.few;
      })
    ]
