-- The release that a value states: whom it is for, and an object that names a procedure beside the members of its form.
use Rattle.std.specs.Prelude.{Option, Some, None, option_and_then, option_map, codes, if◌then◌else◌}
use Rattle.bank_terms.specs.Limits.{max_user}
use Rattle.serde_json.specs.Data.{Data}
use Rattle.serde_json.specs.Find.{get, as_str}
use Rattle.bank_terms.specs.Procedure.{procedure_named}
use Rattle.counter_ops.specs.declared.releasable.Releasable.{Releasable}
use Rattle.counter_ops.specs.declared.release.Release.{Release}
use Rattle.counter_ops.specs.declared.releasable.Releasable.TheVariants as releasable
use Rattle.bank_terms.specs.declared.procedure.Procedure.{Procedure}
use Rattle.bank_terms.specs.declared.procedure.Procedure.TheVariants as procedure
use Rattle.bodies.specs.Post.{post_of}
use Rattle.bodies.specs.Transfer.{transfer_of}
use Rattle.bodies.specs.Correct.{correct_of}
use Rattle.bodies.specs.DrawerOn.{drawer_on_of}
use Rattle.bodies.specs.MoveCash.{move_cash_of}
use Rattle.bodies.specs.Body.{◌>>=◌, has_members, natural_member}

-- the operation of these five forms that a release is for
abbrev pub releasable_as : Data → Procedure → Option Releasable
releasable_as value procedure.Post = option_map releasable.Post (post_of 1 value)
releasable_as value procedure.Transfer = option_map releasable.Transfer (transfer_of 1 value)
releasable_as value procedure.Correct = option_map releasable.Correct (correct_of 1 value)
releasable_as value procedure.DrawerOn = option_map releasable.DrawerOn (drawer_on_of 1 value)
releasable_as value procedure.DrawerOff = None
releasable_as value procedure.MoveCash = option_map releasable.MoveCash (move_cash_of 1 value)
releasable_as value procedure.NewAccount = None
releasable_as value procedure.Release = None
releasable_as value procedure.Balance = None
releasable_as value procedure.Statement = None
releasable_as value procedure.Accounts = None
releasable_as value procedure.Proof = None
releasable_as value procedure.CloseDay = None

-- the same, where the value names its procedure itself
abbrev pub releasable_of : Data → Option Releasable
releasable_of value = do
  name ← option_and_then as_str (get (codes "procedure") value)
  chosen ← procedure_named name
  releasable_as value chosen

-- authorization for one operation of another user
abbrev pub release_of : Data → Option Release
release_of value = if has_members 2 value then (do
  beneficiary ← natural_member (codes "beneficiary") 1 max_user value
  operation ← option_and_then releasable_of (get (codes "operation") value)
  Some (record { beneficiary = beneficiary; operation = operation })) else None
