-- The numbers and names of the rules, and which of them are about who asks.
use Rattle.std.specs.Prelude.{ℕ, Bool, List, codes, ◌||◌, nat_le, ◌==◌, ◌&&◌}
use Rattle.bank_terms.specs.declared.rule.Rule.{Rule}
use Rattle.bank_terms.specs.declared.rule.Rule.TheVariants.{Identity, NotCertified, NoTriple, Limit, Release, Unknown, Branch, Drawer, SecondPerson, Entry, Floor, Cash, Range, Taken, Day, Full, Officer, Certifier, Separation, PolicyUnknown, PolicyState, Slip}

abbrev pub number_of : Rule → ℕ
number_of Identity = 1
number_of NotCertified = 2
number_of NoTriple = 3
number_of Limit = 4
number_of Release = 5
number_of Unknown = 6
number_of Branch = 7
number_of Drawer = 8
number_of SecondPerson = 9
number_of Entry = 10
number_of Floor = 11
number_of Cash = 12
number_of Range = 13
number_of Taken = 14
number_of Day = 15
number_of Full = 16
number_of Officer = 17
number_of Certifier = 18
number_of Separation = 19
number_of PolicyUnknown = 20
number_of PolicyState = 21
number_of Slip = 22

-- as a denial's reply writes it
abbrev pub name_of : Rule → List ℕ
name_of Identity = codes "identity"
name_of NotCertified = codes "not certified"
name_of NoTriple = codes "no triple"
name_of Limit = codes "limit"
name_of Release = codes "release"
name_of Unknown = codes "unknown"
name_of Branch = codes "branch"
name_of Drawer = codes "drawer"
name_of SecondPerson = codes "second person"
name_of Entry = codes "entry"
name_of Floor = codes "floor"
name_of Cash = codes "cash"
name_of Range = codes "range"
name_of Taken = codes "taken"
name_of Day = codes "day"
name_of Full = codes "full"
name_of Officer = codes "officer"
name_of Certifier = codes "certifier"
name_of Separation = codes "separation"
name_of PolicyUnknown = codes "policy unknown"
name_of PolicyState = codes "policy state"
name_of Slip = codes "slip"

-- rules 1 to 5, 8, 9 and 17 to 19 are about who asks, the others about the state of the bank
abbrev pub is_forbidden : Rule → Bool
is_forbidden rule =
    let number = number_of rule in
    nat_le number 5 || number == 8 || number == 9 || (nat_le 17 number && nat_le number 19)
