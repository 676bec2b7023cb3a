-- The numbers and names of the procedures.
use Rattle.std.specs.Prelude.{ℕ, Bool, true, false, List, [], ◌∷◌, Option, codes}
use Rattle.std.specs.List.{find}
use Rattle.std.specs.Str.{bytes_eq}
use Rattle.bank_terms.specs.declared.procedure.Procedure.{Procedure}
use Rattle.bank_terms.specs.declared.procedure.Procedure.TheVariants.{Post, Transfer, Correct, DrawerOn, DrawerOff, MoveCash, NewAccount, Release, Balance, Statement, Accounts, Proof, CloseDay}

abbrev pub number_of : Procedure → ℕ
number_of Post = 1
number_of Transfer = 2
number_of Correct = 3
number_of DrawerOn = 4
number_of DrawerOff = 5
number_of MoveCash = 6
number_of NewAccount = 7
number_of Release = 8
number_of Balance = 9
number_of Statement = 10
number_of Accounts = 11
number_of Proof = 12
number_of CloseDay = 13

-- as the paths of requests and the texts of policy commands write it
abbrev pub name_of : Procedure → List ℕ
name_of Post = codes "post"
name_of Transfer = codes "transfer"
name_of Correct = codes "correct"
name_of DrawerOn = codes "drawer-on"
name_of DrawerOff = codes "drawer-off"
name_of MoveCash = codes "move-cash"
name_of NewAccount = codes "new-account"
name_of Release = codes "release"
name_of Balance = codes "balance"
name_of Statement = codes "statement"
name_of Accounts = codes "accounts"
name_of Proof = codes "proof"
name_of CloseDay = codes "close-day"

-- all of them, in the order of their numbers
abbrev pub procedures : List Procedure
procedures = Post ∷ Transfer ∷ Correct ∷ DrawerOn ∷ DrawerOff ∷ MoveCash ∷ NewAccount ∷ Release ∷ Balance ∷ Statement ∷ Accounts ∷ Proof ∷ CloseDay ∷ []

-- the procedure of that name
abbrev pub procedure_named : List ℕ → Option Procedure
procedure_named name = find (λ procedure. bytes_eq name (name_of procedure)) procedures

-- the forms that write take a slip; with any other none is looked at
abbrev pub takes_slip : Procedure → Bool
takes_slip Post = true
takes_slip Transfer = true
takes_slip Correct = true
takes_slip DrawerOn = true
takes_slip DrawerOff = true
takes_slip MoveCash = true
takes_slip NewAccount = true
takes_slip Release = true
takes_slip Balance = false
takes_slip Statement = false
takes_slip Accounts = false
takes_slip Proof = false
takes_slip CloseDay = true
