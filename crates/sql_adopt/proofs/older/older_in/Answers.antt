use Rattle.std.proofs.Common.{◌≢◌, ◌∙◌, pos, refl, sym}
use Rattle.std.proofs.lemmas.Bool.{false≢true}
use Rattle.sql_schema.specs.Cells.{edition_number}
use Rattle.sql_schema.specs.declared.edition.Edition.TheVariants.{First, Second}
use Rattle.sql_adopt.proofs.OlderLemmas.{first_older, no_bank, no_older, not_newest, second_older, version_refused, version_there}
use Rattle.sql_adopt.proofs.ReadingLemmas.{handed_refused}
use Rattle.sql_adopt.proofs.older.older_in.Goals as goal

pub returns-in_err-row-clause-refused : goal.returns-in_err-row-clause-refused
returns-in_err-row-clause-refused c e older db table =
    handed_refused e db c.from_residual.result c.in_err-row.field-0.0 c.from_residual.ensures.1 (no_bank e db c.in_err-row.field-0.0 (c.in_err-row.ensures.none db table))

pub returns-in_err-row-clause-other : goal.returns-in_err-row-clause-other
returns-in_err-row-clause-other c db version table there =
    absurd ((c.in_err-row.ensures.none db table).none (record { id = pos 1; version = pos 3; policy = pos version }) refl there)

pub returns-in_err-row-clause-first : goal.returns-in_err-row-clause-first
returns-in_err-row-clause-first c e older db version table there =
    absurd ((c.in_err-row.ensures.none db table).none (record { id = pos 1; version = pos (edition_number e); policy = pos version }) refl there)

pub returns-then-is_of-clause-row : goal.returns-then-is_of-clause-row
returns-then-is_of-clause-row c =
    record { older = first_older; row = c.in_ok-row.row; is = c.in_ok-row.ensures.row.0; id = c.in_ok-row.ensures.row.1; version = c.is_of.ensures.0 c.if-is_of.true }

pub returns-then-is_of-clause-other : goal.returns-then-is_of-clause-other
returns-then-is_of-clause-other c db version table there =
    absurd (not_newest First first_older db version c.args.found c.in_ok-row.row c.in_ok-row.ensures.row.0 table there (c.is_of.ensures.0 c.if-is_of.true))

pub returns-then-is_of-2-clause-row : goal.returns-then-is_of-2-clause-row
returns-then-is_of-2-clause-row c =
    record { older = second_older; row = c.in_ok-row.row; is = c.in_ok-row.ensures.row.0; id = c.in_ok-row.ensures.row.1; version = c.is_of-2.ensures.0 c.if-is_of-2.true }

pub returns-then-is_of-2-clause-other : goal.returns-then-is_of-2-clause-other
returns-then-is_of-2-clause-other c db version table there =
    absurd (not_newest Second second_older db version c.args.found c.in_ok-row.row c.in_ok-row.ensures.row.0 table there (c.is_of-2.ensures.0 c.if-is_of-2.true))

pub returns-clause-refused : goal.returns-clause-refused
returns-clause-refused c e older db table =
    let one : c.in_ok-row.row.version ≢ pos 1 = λ is. false≢true (sym c.if-is_of.false ∙ c.is_of.ensures.1 is) in
    let two : c.in_ok-row.row.version ≢ pos 2 = λ is. false≢true (sym c.if-is_of-2.false ∙ c.is_of-2.ensures.1 is) in
    version_refused e older db c.args.found c.in_ok-row.row c.in_ok-row.ensures.row.0 c.in_ok-row.ensures.row.1 one two table

pub returns-clause-first : goal.returns-clause-first
returns-clause-first c e older db version table there =
    let one : c.in_ok-row.row.version ≢ pos 1 = λ is. false≢true (sym c.if-is_of.false ∙ c.is_of.ensures.1 is) in
    let two : c.in_ok-row.row.version ≢ pos 2 = λ is. false≢true (sym c.if-is_of-2.false ∙ c.is_of-2.ensures.1 is) in
    absurd (no_older e older c.in_ok-row.row.version (version_there e db version c.args.found c.in_ok-row.row c.in_ok-row.ensures.row.0 table there) one two)
