-- All that was done with a stream since it began.
use Rattle.std.specs.Prelude.{◌≡◌, ℕ, Bool, true, false, List, [], Option, Some, refl}
use Rattle.std.specs.Coded.{Coded, code_by, coded×, coded_ℕ, coded_bool, coded_list}
use Rattle.counter_door.specs.Ways.{Ways}

pub record Past : Type 0 where
  pub ways : Ways
  -- its last read answered that nothing more is at hand
  pub is_used_up : Bool
  -- and its last write: no more was taken; or nothing, for another reason
  pub is_full : Bool
  pub has_failed : Bool

-- what it reports of it
abbrev pub past_ways : Past → Option Ways
past_ways p = Some p.ways

-- its last write took no more, or failed
abbrev pub IsFull : Past → Type 0
IsFull p = p.is_full ≡ true

abbrev pub HasFailed : Past → Type 0
HasFailed p = p.has_failed ≡ true

-- of one that begins
abbrev pub no_past : Past
no_past = record { ways = record { received = []; sent = []; asked = 0; ended = false }; is_used_up = false; is_full = false; has_failed = false }

-- the same as a tuple, which is how the logic stores it
abbrev pub Parts : Type 0
Parts = List ℕ × (List ℕ × (ℕ × (Bool × (Bool × (Bool × Bool)))))

abbrev pub parts_of : Past → Parts
parts_of p = (p.ways.received, (p.ways.sent, (p.ways.asked, (p.ways.ended, (p.is_used_up, (p.is_full, p.has_failed))))))

abbrev pub past_of : Parts → Past
past_of p = record {
  ways = record { received = p.0; sent = p.1.0; asked = p.1.1.0; ended = p.1.1.1.0 };
  is_used_up = p.1.1.1.1.0;
  is_full = p.1.1.1.1.1.0;
  has_failed = p.1.1.1.1.1.1;
}

abbrev pub past_code : Coded Past
past_code =
    code_by Parts (coded× (coded_list coded_ℕ) (coded× (coded_list coded_ℕ) (coded× coded_ℕ (coded× coded_bool (coded× coded_bool (coded× coded_bool coded_bool))))))
    parts_of past_of (λ _. refl)
