-- A clock that stands.
use Rattle.std.specs.Prelude.{◌≡◌, ℕ}
use Rattle.counter_clocks.specs.declared.fixed.Fixed.{Fixed}

abbrev pub standing_at : ℕ → Fixed
standing_at moment = record { moment = moment }

-- it gives the moment at which it stands, and goes on standing there
abbrev pub gives_its_own : Fixed → ℕ → Fixed → Type 0
gives_its_own old moment new = (moment ≡ old.moment) × (new ≡ old)
