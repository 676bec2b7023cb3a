-- The triples of a list, whose heading says whether its records state the moments of their triples.
use Rattle.std.specs.Prelude.{ℕ, Bool, true, false, if◌then◌else◌, List, [], ◌∷◌, ◌++◌, codes, Option, Some, None, option_map}
use Rattle.bank_policy.specs.declared.rows.Triple.{Triple}
use Rattle.list_records.specs.Records.{Record, is_record}
use Rattle.list_opening.specs.Rows.{timed_row, triple_row}

-- the names in the heading without moments
abbrev pub triple_names : Record
triple_names = codes "user" ∷ codes "procedure" ∷ codes "set" ∷ codes "limit" ∷ []

-- and in the one with them
abbrev pub timed_names : Record
timed_names = codes "user" ∷ codes "procedure" ∷ codes "set" ∷ codes "limit" ∷ codes "first" ∷ codes "last" ∷ []

-- whether the records state moments, and the triples of those that were read
abbrev pub TriplesRead : Type 0
TriplesRead = Bool × List Triple

-- before any record
abbrev pub none_read : TriplesRead
none_read = (false, [])

-- after the heading, which is one of the two
abbrev pub begun_triples : TriplesRead → Record → Option TriplesRead
begun_triples so_far r =
    if is_record timed_names r then Some (true, so_far.1) else if is_record triple_names r then Some (false, so_far.1) else None

-- the triple that a record states under such a heading
abbrev pub triple_after : Bool → Record → Option Triple
triple_after timed r = if timed then timed_row r else triple_row r

-- with the triple of one more record
abbrev pub with_triple : TriplesRead → Record → Option TriplesRead
with_triple so_far r = option_map (λ row. (so_far.0, so_far.1 ++ row ∷ [])) (triple_after so_far.0 r)
