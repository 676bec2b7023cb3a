use Rattle.std.proofs.Common.{rules}
use Rattle.std.proofs.lemmas.Iterator.{YieldsList-from_slice, cases_from_all}
use Rattle.bank_books.specs.Range.{IsSlipInRange}
use Rattle.bank_books.specs.SlipRow.{SlipRow}
use Rattle.book_range.proofs.Judged.{judged}
use Rattle.book_range.proofs.range.is_each_slip_in_range.Goals as goal

pub returns : goal.returns
returns c =
    let w = c.args.world.now in
    let rows = c.args.slips.now in
    let P : SlipRow → Type 0 = IsSlipInRange w.slips w.policy.users in
    judged P rows c.all.result (cases_from_all _ _ c.all.result P (λ x. P x → ⊥) c.all.ensures.ran (YieldsList-from_slice rows cc) (λ x q k. search rules) (λ x q k. search rules))
