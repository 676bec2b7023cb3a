use Rattle.std.proofs.Common.{◌≡◌, Err, subst}
use Rattle.bank_books.specs.WorldLists.{WorldLists}
use Rattle.book_check.specs.Verdict.{IsVerdict}
use Rattle.sql_adopt.specs.ReadBack.{kept_read, world_read}
use Rattle.sql_adopt.proofs.SetLemmas.{some_is}
use Rattle.sql_adopt.proofs.judging.judged_books.Goals as goal

pub returns-in-Ok-Err-clause-named : goal.returns-in-Ok-Err-clause-named
returns-in-Ok-Err-clause-named c order =
    let bank = c.in-Ok-Some.bank in
    let fault = c.in-Ok-Err.fault in
    let world = some_is c.in-Ok-Some.field-0 bank (λ b. b.world ≡ world_read c.args.books c.args.policy c.args.version) c.in-Ok-Some.ensures.world c.in-Ok-Some.field-0-is in
    let numbers = some_is c.in-Ok-Some.field-0 bank (λ b. b.kept ≡ kept_read c.args.books) c.in-Ok-Some.ensures.kept c.in-Ok-Some.field-0-is in
    subst (λ kept. IsVerdict (world_read c.args.books c.args.policy c.args.version) kept (Err fault)) numbers
    (subst (λ (w : WorldLists). IsVerdict w bank.kept (Err fault)) world (subst (IsVerdict bank.world bank.kept) c.in-Ok-Err.field-0-is c.in-Ok-Err.ensures.verdict))
