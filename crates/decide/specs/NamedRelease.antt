-- What the rows of a release that is named say of it.
use Rattle.std.specs.Prelude.{ℕ, Bool, Option, false, option_map}
use Rattle.std.specs.Option.{option_map_or}
use Rattle.std.specs.Rc.{rc_slice_items}
use Rattle.counter_ops.specs.Rows.{row_of}
use Rattle.counter_ops.specs.Touched.{amount, touched}
use Rattle.bank_policy.specs.Tests.{current}
use Rattle.bank_meaning.specs.NamedRelease.{ReleaseGrounds, counts}
use Rattle.bank_meaning.specs.PolicyRules.{asker}
use Rattle.bank_meaning.specs.declared.execution.Execution.{Execution}
use Rattle.decide.specs.declared.named_release.NamedRelease.{NamedRelease}

-- what it is judged by at a moment
abbrev pub grounds_of : ℕ → NamedRelease → ReleaseGrounds
grounds_of moment r = record { row = r.row; today = r.today; giver = r.giver; held = current moment (rc_slice_items r.held) }

-- it is there and is valid for the operation that is asked for
abbrev pub is_released_by : Option NamedRelease → Execution → Bool
is_released_by named x = option_map_or (λ g. counts g (asker x.who) (row_of x.op) (touched x.op) (amount x.op)) (option_map (grounds_of x.moment) named) false
