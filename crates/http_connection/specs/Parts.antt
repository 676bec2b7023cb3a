-- A connection as its users see it.
use Rattle.std.specs.Prelude.{ℕ, Bool, List, [], ◌++◌, drop, false, true}

-- what came and was not answered, what is to go out, and whether nothing more is answered
pub record ConnectionParts : Type 0 where
  pub held : List ℕ
  pub unsent : List ℕ
  pub is_closing : Bool

abbrev pub opened : ConnectionParts
opened = record { held = []; unsent = []; is_closing = false }

-- these bytes came
abbrev pub after_received : List ℕ → ConnectionParts → ConnectionParts
after_received bytes c = record { held = c.held ++ bytes; unsent = c.unsent; is_closing = c.is_closing }

-- the first n of the bytes that are to go out went out
abbrev pub after_sent : ℕ → ConnectionParts → ConnectionParts
after_sent n c = record { held = c.held; unsent = drop n c.unsent; is_closing = c.is_closing }

-- nothing more is answered
abbrev pub closed : ConnectionParts → ConnectionParts
closed c = record { held = c.held; unsent = c.unsent; is_closing = true }
