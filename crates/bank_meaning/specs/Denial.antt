-- The reply to what a rule denies. Replies in JSON are objects of RFC 8259, with no space and the members in order of the bytes of
-- their names.
use Rattle.std.specs.Prelude.{ℕ, ℤ, List, ◌++◌, codes, decimal}
use Rattle.serde_json.specs.Data.{Data, number, unsigned, string, object, member, no_members}
use Rattle.serde_json.specs.Find.{of_integer}
use Rattle.bank_terms.specs.Rule.{name_of, number_of}
use Rattle.bank_terms.specs.declared.rule.Rule.{Rule}

-- the reply to what a rule denies
unfoldable pub denial_text : Rule → List ℕ
denial_text rule = codes "{\"name\":\"" ++ name_of rule ++ codes "\",\"rule\":" ++ decimal (number_of rule) ++ codes "}"

-- amounts and numbers as values of JSON
abbrev pub cents : ℤ → Data
cents z = number (of_integer z)

abbrev pub natural : ℕ → Data
natural n = number (unsigned n)

abbrev pub denial_data : Rule → Data
denial_data rule = object (member (codes "name") (string (name_of rule)) (member (codes "rule") (natural (number_of rule)) no_members))
