use Rattle.std.proofs.Common.{arith}
use Rattle.book_kept.proofs.ReleaseKept.{release_keeps}
use Rattle.book_kept.proofs.release.with_release.Goals as goal

pub returns-then-number-after-clause-kept : goal.returns-then-number-after-clause-kept
returns-then-number-after-clause-kept c w can has =
    release_keeps w c.args.release.now c.args.releases _ can has (omega arith) c.in_ok-after.ensures.1 c.if-number-after.true
