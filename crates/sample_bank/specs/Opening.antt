-- The books of the sample bank as they are opened. Amounts are whole cents.
use Rattle.std.specs.Prelude.{ℕ, ℤ, pos, negsuc, List, [], ◌∷◌}
use Rattle.bank_books.specs.WorldLists.{WorldLists}
use Rattle.bank_books.specs.declared.rows.Branch.{Branch}
use Rattle.bank_books.specs.declared.rows.Teller.{Teller}
use Rattle.bank_books.specs.declared.rows.Account.{Account}
use Rattle.bank_books.specs.declared.rows.CashLine.{CashLine}
use Rattle.bank_books.specs.declared.rows.LineForm.TheVariants as form
use Rattle.sample_bank.specs.SamplePolicy.{sample_policy}

-- two branches, both on their first day
abbrev pub branches : List Branch
branches =
    record { branch = 1; opening = pos 60000; cash = pos 100000; day = 1 }
    ∷ record { branch = 2; opening = pos 20000; cash = pos 50000; day = 1 }
    ∷ []

-- two tellers of the first branch, and one of the second
abbrev pub tellers : List Teller
tellers =
    record { teller = 11; branch = 1; opening = pos 60000 }
    ∷ record { teller = 12; branch = 1; opening = pos 0 }
    ∷ record { teller = 21; branch = 2; opening = pos 20000 }
    ∷ []

-- two accounts whose home is the first branch, and one of the second; none may fall below zero
abbrev pub accounts : List Account
accounts =
    record { account = 101; home = 1; opening = pos 50000; floor = pos 0 }
    ∷ record { account = 102; home = 1; opening = pos 0; floor = pos 0 }
    ∷ record { account = 201; home = 2; opening = pos 30000; floor = pos 0 }
    ∷ []

-- the books as they are opened: no entry, no line of cash, no proof and no release
abbrev pub opened_books : WorldLists
opened_books = record {
  branches = branches;
  tellers = tellers;
  accounts = accounts;
  entries = [];
  lines = [];
  proofs = [];
  releases = [];
  slips = [];
  policy = sample_policy;
  version = 0;
}

-- a line of the first branch by which a user puts a drawer on, on the first day
abbrev pub line_of : ℕ → ℕ → ℤ → ℕ → CashLine
line_of number place amount user = record { branch = 1; number = number; place = place; amount = amount; form = form.On; moment = 0; day = 1; user = user }

-- Tess puts the drawer of teller 11 on with 400.00, and Tom that of teller 12 with 50.00, both from the vault
abbrev pub lines : List CashLine
lines =
    line_of 1 0 (negsuc 39999) 7
    ∷ line_of 2 11 (pos 40000) 7
    ∷ line_of 3 0 (negsuc 4999) 8
    ∷ line_of 4 12 (pos 5000) 8
    ∷ []

-- the sample bank: its books as they are opened, and then both drawers of the first branch are put on
abbrev pub sample_opening : WorldLists
sample_opening = record opened_books { lines = lines }
