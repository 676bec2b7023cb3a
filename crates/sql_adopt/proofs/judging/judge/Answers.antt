use Rattle.std.proofs.Common.{ℕ, ap, map, Err, Result, subst, sym, ◌∙◌}
use Rattle.std.proofs.lemmas.Option.{none-some, same_Some}
use Rattle.std.proofs.lemmas.Result.{err_from_is_err_and}
use Rattle.std.specs.Prelude.{IfSome}
use Rattle.bank_books.specs.WorldLists.{WorldLists}
use Rattle.book_kept.specs.declared.records.KeptUser.{KeptUser}
use Rattle.sql_schema.proofs.StepLemmas.{handed_on}
use Rattle.sql_adopt.specs.Refused.{IsNamedBy, IsOfPolicy, IsOfStore}
use Rattle.sql_adopt.specs.declared.adopt_fault.AdoptFault.{AdoptFault}
use Rattle.sql_adopt.specs.ReadBack.{IsPolicyOf, kept_read, sheets_read, world_read}
use Rattle.sql_adopt.proofs.NamedLemmas.{judged, named_of_books, named_of_none, named_of_policy, policy_in_rows, policy_of_tables}
use Rattle.sql_adopt.proofs.ReadingLemmas.{beyond_books, handed_beyond}
use Rattle.sql_adopt.proofs.SetLemmas.{some_is}
use Rattle.sql_adopt.proofs.SoundLemmas.{books_in_order, books_or_store, keepable_read, policy_is, policy_or_store, policy_read_back, verdict_reported}
use Rattle.sql_adopt.proofs.ReadLemmas.{is_bank}
use Rattle.sql_adopt.proofs.judging.judge.Goals as goal

pub returns-in_ok-judge_policy-in-Some-clause-bank : goal.returns-in_ok-judge_policy-in-Some-clause-bank
returns-in_ok-judge_policy-in-Some-clause-bank c =
    let bank = c.in_ok-bank-in-Some.bank in
    is_bank c.args.books c.args.tables c.in-Some.policy c.args.version bank.world bank.kept
    (subst (λ users. IsPolicyOf users c.args.tables c.in-Some.policy) c.deref.ensures.value (subst (λ found. IfSome found (IsPolicyOf c.deref.result.now c.args.tables)) c.in-Some.is c.in-Ok.ensures.stated))
    c.in_ok-bank-in-Some.ensures.verdict c.in_ok-bank-in-Some.ensures.world c.in_ok-bank-in-Some.ensures.kept c.in_ok-judge_policy-in-Some.ensures.keepable c.in_ok-judge_policy-in-Some.ensures.policy

pub returns-in_err-bank-in-Some-clause-sound : goal.returns-in_err-bank-in-Some-clause-sound
returns-in_err-bank-in-Some-clause-sound c bank =
    let right = c.in-Ok.ensures.found bank.world.policy (policy_is c.args.books c.args.tables c.args.version bank c.deref.result.now c.deref.ensures.value) bank.keepable.policy in
    let exit = err_from_is_err_and c.from_residual.result c.from_residual.ensures.1 in
    let can = keepable_read c.args.books c.args.tables c.args.version bank c.in-Ok.found c.in-Some.policy right c.in-Some.is in
    rw (exit.1, exit.2) (books_or_store (world_read c.args.books c.in-Some.policy c.args.version) (kept_read c.args.books) c.in_err-bank-in-Some.field-0.0
    (verdict_reported c.args.books c.args.tables c.args.version bank c.in-Ok.found c.in-Some.policy right c.in-Some.is)
    (c.in_err-bank-in-Some.ensures.named (books_in_order c.args.books c.in-Some.policy c.args.version can)))

pub returns-in_err-judge_policy-in-Some-clause-sound : goal.returns-in_err-judge_policy-in-Some-clause-sound
returns-in_err-judge_policy-in-Some-clause-sound c bank =
    let right = c.in-Ok.ensures.found bank.world.policy (policy_is c.args.books c.args.tables c.args.version bank c.deref.result.now c.deref.ensures.value) bank.keepable.policy in
    let found = c.in_ok-bank-in-Some.bank.world in
    let fault = c.in_err-judge_policy-in-Some.field-0.0 in
    let failed : Result ℕ AdoptFault = Err fault in
    handed_on c.from_residual-in_err-judge_policy-in-Some.result fault IsOfStore c.from_residual-in_err-judge_policy-in-Some.ensures.1
    (policy_or_store found.policy failed
    (policy_read_back c.args.books c.args.tables c.args.version bank c.in-Ok.found c.in-Some.policy right c.in-Some.is found c.in_ok-bank-in-Some.ensures.world) c.in_err-judge_policy-in-Some.ensures.named)

pub returns-in-None-clause-sound : goal.returns-in-None-clause-sound
returns-in-None-clause-sound c bank =
    let right = c.in-Ok.ensures.found bank.world.policy (policy_is c.args.books c.args.tables c.args.version bank c.deref.result.now c.deref.ensures.value) bank.keepable.policy in
    absurd (none-some bank.world.policy (sym c.in-None.is ∙ right))

pub returns-in_err-bank-in-Some-clause-named : goal.returns-in_err-bank-in-Some-clause-named
returns-in_err-bank-in-Some-clause-named c order users =
    let exit = err_from_is_err_and c.from_residual.result c.from_residual.ensures.1 in
    let stated = some_is c.in-Ok.found c.in-Some.policy (IsPolicyOf c.deref.result.now c.args.tables) c.in-Ok.ensures.stated c.in-Some.is in
    rw (exit.1, exit.2) (named_of_books c.args.books c.args.tables c.args.version c.in-Some.policy (stated.users_are ∙ ap (map (λ (u : KeptUser). u.row)) c.deref.ensures.value) c.in_err-bank-in-Some.field-0.0 (c.in_err-bank-in-Some.ensures.named order))

pub returns-in_err-judge_policy-in-Some-clause-named : goal.returns-in_err-judge_policy-in-Some-clause-named
returns-in_err-judge_policy-in-Some-clause-named c order users =
    let bank = c.in_ok-bank-in-Some.bank in
    let policy = c.in-Some.policy in
    let fault = c.in_err-judge_policy-in-Some.field-0.0 in
    let failed : Result ℕ AdoptFault = Err fault in
    let stated = some_is c.in-Ok.found policy (IsPolicyOf c.deref.result.now c.args.tables) c.in-Ok.ensures.stated c.in-Some.is in
    let hold = judged c.args.books c.args.tables c.args.version policy (stated.users_are ∙ ap (map (λ (u : KeptUser). u.row)) c.deref.ensures.value) bank.world bank.kept
    c.in_ok-bank-in-Some.ensures.world c.in_ok-bank-in-Some.ensures.kept c.in_ok-bank-in-Some.ensures.verdict in
    handed_on c.from_residual-in_err-judge_policy-in-Some.result fault (IsNamedBy (sheets_read c.args.books c.args.tables c.args.version)) c.from_residual-in_err-judge_policy-in-Some.ensures.1
    (named_of_policy c.args.books c.args.tables c.args.version failed policy hold (policy_in_rows c.args.books c.args.tables c.args.version c.deref.result.now c.deref.ensures.value policy stated)
    (λ other is can. same_Some other policy (sym (c.in-Ok.ensures.found other (policy_of_tables c.args.books c.args.tables c.args.version c.deref.result.now c.deref.ensures.value other is) can) ∙ c.in-Some.is))
    (subst (λ (w : WorldLists). IsOfPolicy w.policy fault) c.in_ok-bank-in-Some.ensures.world c.in_err-judge_policy-in-Some.ensures.named))

pub returns-in-None-clause-named : goal.returns-in-None-clause-named
returns-in-None-clause-named c order users =
    named_of_none c.args.books c.args.tables c.args.version c.with_no_policy.result
    (λ other is can. none-some other (sym c.in-None.is ∙ c.in-Ok.ensures.found other (policy_of_tables c.args.books c.args.tables c.args.version c.deref.result.now c.deref.ensures.value other is) can))
    (c.with_no_policy.ensures.named c.args.tables order users)

pub returns-in_err-bank-in-Some-clause-beyond : goal.returns-in_err-bank-in-Some-clause-beyond
returns-in_err-bank-in-Some-clause-beyond c =
    handed_beyond c.from_residual.result c.in_err-bank-in-Some.field-0.0 c.from_residual.ensures.1 c.in_err-bank-in-Some.ensures.beyond

pub returns-in-None-clause-beyond : goal.returns-in-None-clause-beyond
returns-in-None-clause-beyond c = beyond_books c.with_no_policy.result c.with_no_policy.ensures.beyond
