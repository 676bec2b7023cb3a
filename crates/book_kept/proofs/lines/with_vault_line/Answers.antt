use Rattle.std.proofs.Common.{◌≡◌, ◌<◌, ◌^◌, Option, Some, None}
use Rattle.std.specs.Prelude.{IfSome}
use Rattle.bank_books.specs.declared.records.BranchRecord.{BranchRecord}
use Rattle.bank_books.specs.declared.rows.CashLine.{CashLine}
use Rattle.book_laws.specs.Moves.{branch_lined}
use Rattle.book_kept.specs.After.{IsAfterVaultLine}
use Rattle.book_kept.proofs.LineKept.{vault_keeps}
use Rattle.book_kept.proofs.lines.with_vault_line.Goals as goal

kept : (l : CashLine) (b : BranchRecord) (o : Option BranchRecord) → l.place ≡ 0 → IfSome o (λ after. after ≡ branch_lined l b) → IfSome o (λ after. (l.number ≡ after.lines) × (l.number < 2 ^ 32))
    → IfSome o (λ after. IsAfterVaultLine l b after)
kept l b None vault moved next = tt
kept l b (Some after) vault moved next = λ w can of. vault_keeps w l b after can of next.1 vault moved next.0

pub returns-then-line-eq0-clause-kept : goal.returns-then-line-eq0-clause-kept
returns-then-line-eq0-clause-kept c = kept c.args.line.now c.args.branch.now c.branch_moved.result c.if-line-eq0.true c.branch_moved.ensures.moved c.branch_moved.ensures.next
