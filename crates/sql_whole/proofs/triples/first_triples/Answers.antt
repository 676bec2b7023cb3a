use Rattle.std.proofs.Common.{◌∙◌, subst, sym}
use Rattle.sql_schema.specs.Held.Sheet.{triples as in_triples}
use Rattle.sql_schema.specs.Readable.{IsReadableTriple}
use Rattle.sql_whole.specs.Faults.{IsOfDatabase}
use Rattle.sql_whole.specs.Typed.{Each}
use Rattle.sql_schema.proofs.StepLemmas.{handed_on}
use Rattle.sql_whole.proofs.PolicyWhole.{tells_first_triples}
use Rattle.sql_whole.proofs.triples.first_triples.Goals as goal

pub whole_table-requires : goal.whole_table-requires
whole_table-requires g c = tells_first_triples

pub returns-in_err-rows-clause-takes : goal.returns-in_err-rows-clause-takes
returns-in_err-rows-clause-takes g c clean has s holds readable =
    handed_on c.from_residual.result c.in_err-rows.field-0.0 IsOfDatabase c.from_residual.ensures.1 (c.in_err-rows.ensures.takes clean has s.triples (holds in_triples) readable.triples)

pub returns-in-Ok-clause-typed : goal.returns-in-Ok-clause-typed
returns-in-Ok-clause-typed g c =
    subst (λ rows. Each IsReadableTriple rows) (sym (c.in-Ok.ensures ∙ c.deref.ensures.value)) c.in_ok-rows.ensures.typed
