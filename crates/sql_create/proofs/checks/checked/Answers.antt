use Rattle.std.proofs.Common.{rules, subst}
use Rattle.bank_books.specs.Records.{kept_of}
use Rattle.book_check.specs.Verdict.{IsVerdict}
use Rattle.sql_create.proofs.checks.checked.Goals as goal

pub returns-in-Ok-Err-clause-refused : goal.returns-in-Ok-Err-clause-refused
returns-in-Ok-Err-clause-refused c schema =
    subst (IsVerdict c.args.world.now (kept_of c.args.world.now)) c.in-Ok-Err.field-0-is
    (subst (λ k. IsVerdict c.args.world.now k c.in-Ok-Err.field-0) c.in-Ok.ensures.value c.in-Ok-Err.ensures.verdict)

pub returns-clause-bank : goal.returns-clause-bank
returns-clause-bank c = search rules
