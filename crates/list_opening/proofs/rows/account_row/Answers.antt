use Rattle.std.proofs.Common.{arith, map}
use Rattle.std.proofs.lemmas.List.{length-map}
use Rattle.std.proofs.lemmas.Bool.Decides.{nat_tests}
use Rattle.list_opening.proofs.RowLemmas.{no_account}
use Rattle.list_opening.proofs.rows.account_row.Goals as goal
use Rattle.list_opening.proofs.rows.account_row.Goals.{in_default-via-then-fields-lt4, in_default-via-else-fields-lt4+else-fields-lt5}

pub returns-in_default : goal.returns-in_default
returns-in_default c = no_account (map (λ f. f.now) c.args.fields.now) (λ same.
    let long = simp length-map at same in
    elim c.in_default.branch [ in_default-via-then-fields-lt4 w ↦ grind (arith, nat_tests) | in_default-via-else-fields-lt4+else-fields-lt5 w ↦ grind (arith, nat_tests) ])
