use Rattle.std.proofs.Common.{IfErr, subst, sym}
use Rattle.std.specs.Prelude.{IsSome}
use Rattle.book_kept.specs.Sheets.{sheets_of}
use Rattle.sql_whole.specs.PolicyTables.{ArePolicyTables}
use Rattle.sql_whole.specs.Typed.{AreTablesTyped}
use Rattle.std.proofs.lemmas.Result.{IfOk-weaker}
use Rattle.sql_adopt.proofs.AdoptLemmas.{found_bank}
use Rattle.sql_adopt.specs.Refused.{IsNamedBy}
use Rattle.sql_adopt.proofs.NamedLemmas.{held_books, held_users}
use Rattle.sql_adopt.proofs.ReadingLemmas.{beyond_rows, books_row}
use Rattle.sql_adopt.proofs.SetLemmas.{some_is}
use Rattle.sql_adopt.proofs.TakenLemmas.{sheets_are_read}
use Rattle.sql_adopt.proofs.UnreadLemmas.{all_read, books_read}
use Rattle.sql_adopt.proofs.judging.judge_file.Goals as goal

pub returns-in-Some-clause-found : goal.returns-in-Some-clause-found
returns-in-Some-clause-found c e db schema kept sound read =
    let rows = c.args.rows in
    let tables = c.in-Some.tables in
    IfOk-weaker c.judge.result _ _
    (λ bank is. found_bank e db rows.books tables rows.version bank.world bank.kept schema kept sound read.version read.books
    (some_is rows.policy tables (ArePolicyTables e db.trees) read.policy c.in-Some.is) is)
    c.judge.ensures.bank

pub returns-in-Some-clause-kept : goal.returns-in-Some-clause-kept
returns-in-Some-clause-kept c = IfOk-weaker c.judge.result _ _ (λ bank is. (is.numbers, is.keepable)) c.judge.ensures.bank

pub returns-in-Some-clause-checked : goal.returns-in-Some-clause-checked
returns-in-Some-clause-checked c = IfOk-weaker c.judge.result _ _ (λ bank is. (is.books, is.policy)) c.judge.ensures.bank

pub returns-in-Some-clause-refused : goal.returns-in-Some-clause-refused
returns-in-Some-clause-refused c e db read =
    let rows = c.args.rows in
    let tables = some_is rows.policy c.in-Some.tables (ArePolicyTables e db) read.policy c.in-Some.is in
    let typed = some_is rows.policy c.in-Some.tables AreTablesTyped read.policy_typed c.in-Some.is in
    beyond_rows e db rows.version read.version (all_read e db rows.books c.in-Some.tables read.books read.typed tables typed) c.judge.result c.judge.ensures.beyond

pub returns-in-None-clause-refused : goal.returns-in-None-clause-refused
returns-in-None-clause-refused c e db read =
    let rows = c.args.rows in
    books_row e db rows.version read.version (books_read e db rows.books read.books read.typed) c.with_no_policy.result c.with_no_policy.ensures.beyond

pub returns-in-Some-clause-sound : goal.returns-in-Some-clause-sound
returns-in-Some-clause-sound c e db read there bank =
    let rows = c.args.rows in
    let tables = c.in-Some.tables in
    c.judge.ensures.sound (record {
      world = bank.world;
      sheets = sheets_are_read e db.trees (sheets_of bank.world) rows.books tables rows.version bank.held.world.rows read.version read.books (some_is rows.policy tables (ArePolicyTables e db.trees) read.policy c.in-Some.is);
      keepable = bank.held.world.keepable;
      books = bank.books;
      policy = bank.policy;
    })

pub returns-in-None-clause-sound : goal.returns-in-None-clause-sound
returns-in-None-clause-sound c e db read there bank = absurd (let none = subst IsSome c.in-None.is there in cc)

pub returns-in-Some-clause-named : goal.returns-in-Some-clause-named
returns-in-Some-clause-named c e db read there s holds =
    let rows = c.args.rows in
    let tables = c.in-Some.tables in
    let same = sheets_are_read e db s rows.books tables rows.version holds read.version read.books (some_is rows.policy tables (ArePolicyTables e db) read.policy c.in-Some.is) in
    subst (λ z. IfErr c.judge.result (IsNamedBy z)) (sym same)
    (c.judge.ensures.named (held_books rows.books tables rows.version e db s holds same) (held_users rows.books tables rows.version e db s holds same))

pub returns-in-None-clause-named : goal.returns-in-None-clause-named
returns-in-None-clause-named c e db read there s holds = absurd (let none = subst IsSome c.in-None.is there in cc)
