-- One step of a listing: what the code makes of the row that it reads.
use Rattle.std.specs.Prelude.{◌≡◌, Option, option_map}
use Rattle.bank_books.specs.WorldLists.{WorldLists}
use Rattle.reports.specs.Lines.{NextOf}
use Rattle.reports.specs.Listing.{next_listed}
use Rattle.reports.specs.Room.{HasRoom}
use Rattle.reports.specs.declared.listing.Listed.{Listed}
use Rattle.reports.specs.declared.listing.Listing.{Listing}

-- what the code made of a line
abbrev pub seen : Listed → NextOf Listing
seen l = record { line = l.line.items; rest = l.rest }

-- it is the next line of the listing, which has room
pub record IsNext (listing : Listing) (w : WorldLists) (next : Option Listed) : Type 0 where
  pub is : option_map seen next ≡ next_listed w listing
  pub room : HasRoom w listing
