-- The closing of a day that a value states: an object with exactly these members, each in its range. Any other value states none.
use Rattle.std.specs.Prelude.{Option, Some, None, codes, if◌then◌else◌}
use Rattle.serde_json.specs.Data.{Data}
use Rattle.counter_ops.specs.declared.close_day.CloseDay.{CloseDay}
use Rattle.bodies.specs.Body.{◌>>=◌, has_members, key_member}

-- the end of a day of a branch
abbrev pub close_day_of : Data → Option CloseDay
close_day_of value = if has_members 1 value then (do
  branch ← key_member (codes "branch") value
  Some (record { branch = branch })) else None
