use Rattle.std.proofs.Common.{rules, tests, arith, ◌&&◌}
use Rattle.std.specs.Prelude.{nat_le}
use Rattle.std.proofs.lemmas.Iterator.{YieldsList-from_slice}
use Rattle.std.proofs.lemmas.Iterator.Search.{all_from_yields_List}
use Rattle.std.proofs.lemmas.Bool.Decides.{nat_tests}
use Rattle.list_fields.proofs.names.is_name.Goals as goal

pub returns-then-field-le-MAX_NAME_LEN : goal.returns-then-field-le-MAX_NAME_LEN
returns-then-field-le-MAX_NAME_LEN c =
    let all = all_from_yields_List (λ byte. nat_le 32 byte && nat_le byte 126) _ _ c.all.result c.all.ensures.ran (YieldsList-from_slice c.args.field.now cc) (λ x b q k. search (rules, tests)) in
    grind (arith, nat_tests)
