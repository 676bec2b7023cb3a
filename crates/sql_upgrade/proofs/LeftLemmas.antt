-- What is left of a file of which nothing, or all, was taken away.
use Rattle.std.proofs.Common.{◌≡◌, ◌≢◌, refl}
use Rattle.sql_schema.specs.Schema.{newest, schema_of}
use Rattle.sql_schema.specs.declared.edition.Edition.{Edition}
use Rattle.sql_schema.specs.declared.edition.Edition.TheVariants.{First, Second, Third}
use Rattle.sql_create.specs.Blank.{no_schema}
use Rattle.sql_upgrade.specs.Left.{left}

-- before the newest schema version there are no tables but these
pub whole_left : (e : Edition) → e ≢ newest → left e 14 9 0 ≡ schema_of e
whole_left First older = refl
whole_left Second older = refl
whole_left Third older = absurd (older refl)

pub none_left : (e : Edition) → left e 0 0 2 ≡ no_schema
none_left First = refl
none_left Second = refl
none_left Third = refl
