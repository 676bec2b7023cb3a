-- The records of a list, and what they are gathered into.
use Rattle.std.specs.Prelude.{◌≡◌, ◌⊎◌, ◌+◌, ◌==◌, ℕ, Bool, List, [], ◌∷◌, Option, Some, None, Result, Ok, Err, if◌then◌else◌}
use Rattle.std.specs.Cmp.Lexicographic.{pointwise}
use Rattle.std.specs.Option.{option_map_or}
use Rattle.std.specs.Str.{bytes_eq}
use Rattle.csv.specs.Reading.{default_config, records, strip_bom}
use Rattle.list_records.specs.declared.fault.RecordFault.{RecordFault}
use Rattle.list_records.specs.declared.fault.RecordFault.TheVariants.{Bad, Memory}

-- a record: the texts of its fields
abbrev pub Record : Type 0
Record = List (List ℕ)

-- the records of comma-separated values (RFC 4180), as the library csv reads them: blank lines are none, and quotes and a byte
-- order mark are taken off
abbrev pub records_of : List ℕ → List Record
records_of text = records default_config (strip_bom text)

-- the record has exactly these fields, byte for byte
abbrev pub is_record : Record → Record → Bool
is_record names r = pointwise bytes_eq names r

-- The records of a list are gathered into a state. `begun_by` makes it what it is after the heading, and
-- `with_record` what it is with one more record, or none where the record is bad.
module _ {S : Type 0} (begun_by with_record : S → Record → Option S) where
  -- what these records make of it, one after another, where the first of them has this number; or the first that is bad
  abbrev pub gathered_from : ℕ → S → List Record → Result S RecordFault
  gathered_from number s [] = Ok s
  gathered_from number s (r ∷ rest) = option_map_or (λ t. gathered_from (number + 1) t rest) (with_record s r) (Err (Bad number))

  -- the same of a whole list, whose record 1 is its heading
  abbrev pub gathered : S → List Record → Result S RecordFault
  gathered s [] = Err (Bad 1)
  gathered s (r ∷ rest) = option_map_or (λ t. gathered_from 2 t rest) (begun_by s r) (Err (Bad 1))

  -- what the record of this number makes of it: the heading, where that is 1
  abbrev pub taken : ℕ → S → Record → Option S
  taken number s r = if number == 1 then begun_by s r else with_record s r

-- a list that has this heading is after it what it was before
abbrev pub begun_after : {S : Type 0} → Record → S → Record → Option S
begun_after heading s r = if is_record heading r then Some s else None

-- It is what the list says; or memory was refused, and that is reported.
abbrev pub IsReported : {S : Type 0} → Result S RecordFault → Result S RecordFault → Type 0
IsReported says result = (result ≡ says) ⊎ (result ≡ Err Memory)
