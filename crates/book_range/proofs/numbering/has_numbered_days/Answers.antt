use Rattle.std.proofs.Common.{◌+◌, length, refl, ap, sym, ◌∙◌}
use Rattle.bank_books.specs.Keys.{proof_key}
use Rattle.book_range.proofs.GroupKeys.{once}
use Rattle.book_range.proofs.NumberedRows.{from_numbered, numbered, other_last_day, proofs_counted}
use Rattle.book_range.proofs.numbering.has_numbered_days.Goals as goal

pub returns-then-proofs-branch : goal.returns-then-proofs-branch
returns-then-proofs-branch c =
    let w = c.args.world.now in
    let found = c.proofs_of-proofs.result.now in
    let branch = c.args.branch.now.branch in
    let same = c.proofs_of-proofs.ensures in (
      λ is. (
        numbered (λ p. p.branch) (λ p. p.day) w.proofs found branch same (λ n. once proof_key (λ p. p.branch) (λ p. p.day) (λ _. refl) w.proofs branch n c.requires.distinct.proofs) (c.bear_numbers.ensures.0 is),
        ap (λ n. n + 1) (sym (proofs_counted w found branch same)) ∙ c.if-proofs-branch.true,
      ),
      λ days. c.bear_numbers.ensures.1 (from_numbered (λ p. p.branch) (λ p. p.day) w.proofs found branch same days.0),
    )

pub returns-else-proofs-branch : goal.returns-else-proofs-branch
returns-else-proofs-branch c =
    other_last_day (length c.proofs_of-proofs.result.now) _ c.args.branch.now.day (proofs_counted c.args.world.now c.proofs_of-proofs.result.now c.args.branch.now.branch c.proofs_of-proofs.ensures)
    c.if-proofs-branch.false
