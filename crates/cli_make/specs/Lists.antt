-- What reading the opening lists gives, by the bytes that they are read from, where those are known. Of the machine's
-- files none are: then it is said of some texts.
use Rattle.std.specs.Prelude.{◌≡◌, ◌⊎◌, ◌∷◌, ◌++◌, ℕ, List, [], Option, Result, Ok, Err, codes}
use Rattle.bank_books.specs.WorldLists.{WorldLists}
use Rattle.list_opening.specs.Opening.{opening}
use Rattle.list_opening.specs.declared.list_fault.ListFault.{ListFault}
use Rattle.list_opening.specs.declared.list_fault.ListName.{ListName}
use Rattle.list_opening.specs.declared.list_fault.ListName.TheVariants as name
use Rattle.cli_file.specs.Faults.{IsOfFile}
use Rattle.cli_file.specs.Texts.{IsTextOf}
use Rattle.cli_file.specs.declared.fault.ActionFault.{ActionFault}
use Rattle.cli_file.specs.declared.fault.ActionFault.TheVariants as fault
use Rattle.cli_make.specs.Faults.{fault_of_lists}

-- the file in which a list stands
abbrev pub file_name : ListName → List ℕ
file_name name.Branches = codes "branches.csv"
file_name name.Tellers = codes "tellers.csv"
file_name name.Accounts = codes "accounts.csv"
file_name name.Users = codes "users.csv"
file_name name.Sets = codes "sets.csv"
file_name name.Relations = codes "relations.csv"
file_name name.Triples = codes "triples.csv"
file_name name.Certifiers = codes "certifiers.csv"

-- its path, in a folder
abbrev pub path_in : List ℕ → ListName → List ℕ
path_in dir list = dir ++ 47 ∷ file_name list

-- the World that eight texts state, or their first bad record; or memory was refused
abbrev pub IsStatedBy : List (List ℕ) → Result WorldLists ActionFault → Type 0
IsStatedBy texts (Ok w) = opening texts ≡ Ok w
IsStatedBy texts (Err stated) = (stated ≡ fault.Memory) ⊎ ((why : ListFault) × (opening texts ≡ Err why) × (stated ≡ fault_of_lists why))

-- the texts, in the order in which they are judged
abbrev pub in_order : (ListName → List ℕ) → List (List ℕ)
in_order text =
    text name.Branches ∷ text name.Tellers ∷ text name.Accounts ∷ text name.Users ∷ text name.Sets ∷ text name.Relations ∷ text name.Triples ∷ text name.Certifiers ∷ []

-- each list's text, where it is known
abbrev pub AreTextsOf : (ListName → Option (List ℕ)) → (ListName → List ℕ) → Type 0
AreTextsOf known text = (list : ListName) → IsTextOf (known list) (text list)

-- the World that the lists state, or their first bad record; or one was not read, or memory was refused
abbrev pub IsOpeningGathered : (ListName → Option (List ℕ)) → Result WorldLists ActionFault → Type 0
IsOpeningGathered known (Ok w) = (text : ListName → List ℕ) × AreTextsOf known text × (opening (in_order text) ≡ Ok w)
IsOpeningGathered known (Err stated) =
    IsOfFile stated ⊎ ((text : ListName → List ℕ) × AreTextsOf known text × (why : ListFault) × (opening (in_order text) ≡ Err why) × (stated ≡ fault_of_lists why))

-- the same of the texts in a folder, by what stands at each path
abbrev pub IsOpeningRead : (List ℕ → Option (List ℕ)) → List ℕ → Result WorldLists ActionFault → Type 0
IsOpeningRead text dir = IsOpeningGathered (λ list. text (path_in dir list))
