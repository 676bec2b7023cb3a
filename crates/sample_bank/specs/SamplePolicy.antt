-- The policy of the sample bank, each list in order of its key.
use Rattle.std.specs.Prelude.{ℕ, Bool, false, true, List, [], ◌∷◌, ◌++◌, codes, map}
use Rattle.bank_policy.specs.Policy.{PolicyLists}
use Rattle.bank_terms.specs.Limits.{max_moment}
use Rattle.bank_terms.specs.Procedure.{procedures}
use Rattle.bank_policy.specs.SetRow.{SetRow}
use Rattle.bank_terms.specs.declared.item.Kind.{Kind}
use Rattle.bank_terms.specs.declared.item.Kind.TheVariants.{Account, Teller, Branch, History, Drawer, Vault}
use Rattle.bank_terms.specs.declared.procedure.Procedure.{Procedure}
use Rattle.bank_terms.specs.declared.procedure.Procedure.TheVariants.{Post, Transfer, Correct, DrawerOn, DrawerOff, MoveCash, NewAccount, Release, Balance, Statement, Accounts, Proof, CloseDay}
use Rattle.bank_policy.specs.declared.rows.Certifier.{Certifier}
use Rattle.bank_policy.specs.declared.rows.Member.{Member}
use Rattle.bank_policy.specs.declared.rows.Relation.{Relation}
use Rattle.bank_policy.specs.declared.rows.Triple.{Triple}
use Rattle.bank_policy.specs.declared.rows.User.{User}

-- a user whose first session is open, and whether the user is an officer
abbrev pub user : ℕ → List ℕ → Bool → User
user number name officer = record { user = number; name = name; officer = officer; suspended = false; session = 1; on = true }

-- Olga is the officer; no one is suspended
abbrev pub users : List User
users =
    user 1 (codes "Olga") true
    ∷ user 2 (codes "Carl") false
    ∷ user 3 (codes "Cora") false
    ∷ user 7 (codes "Tess") false
    ∷ user 8 (codes "Tom") false
    ∷ user 9 (codes "Sue") false
    ∷ []

-- the items of a kind from low to high
abbrev pub member : Kind → ℕ → ℕ → Member
member kind low high = record { kind = kind; low = low; high = high }

-- every item of the bank
abbrev pub everything : List Member
everything =
    member Account 1 999999
    ∷ member Teller 1 999
    ∷ member Branch 1 99
    ∷ member History 1 99
    ∷ member Drawer 1 999
    ∷ member Vault 1 99
    ∷ []

-- the first branch with its tellers, and the three accounts of the opening
abbrev pub first_branch : List Member
first_branch =
    member Account 101 102
    ∷ member Account 201 201
    ∷ member Teller 11 12
    ∷ member Branch 1 1
    ∷ member History 1 1
    ∷ member Drawer 11 12
    ∷ member Vault 1 1
    ∷ []

-- one account, at the tellers of the first branch
abbrev pub at_the_counter : ℕ → List Member
at_the_counter account =
    member Account account account
    ∷ member Teller 11 12
    ∷ member Branch 1 1
    ∷ member History 1 1
    ∷ member Drawer 11 12
    ∷ []

-- the accounts that Tess may list
abbrev pub listed : List Member
listed = member Account 101 150 ∷ member Account 102 199 ∷ []

abbrev pub sets : List SetRow
sets =
    record { set = 1; members = everything }
    ∷ record { set = 2; members = first_branch }
    ∷ record { set = 3; members = at_the_counter 101 }
    ∷ record { set = 4; members = at_the_counter 102 }
    ∷ record { set = 5; members = listed }
    ∷ []

-- Carl certified all that is certified
abbrev pub relation : Procedure → ℕ → Relation
relation procedure set = record { procedure = procedure; set = set; by = 2 }

abbrev pub relations : List Relation
relations =
    relation Post 1
    ∷ relation Post 2
    ∷ relation Transfer 1
    ∷ relation Transfer 2
    ∷ relation Transfer 3
    ∷ relation Transfer 4
    ∷ relation Correct 2
    ∷ relation DrawerOn 2
    ∷ relation DrawerOff 2
    ∷ relation MoveCash 2
    ∷ relation NewAccount 1
    ∷ relation Release 1
    ∷ relation Balance 1
    ∷ relation Balance 2
    ∷ relation Statement 2
    ∷ relation Accounts 5
    ∷ relation Proof 2
    ∷ relation CloseDay 2
    ∷ []

-- the user may carry out the procedure on the items of the set, up to a limit in cents, at every moment
abbrev pub triple : ℕ → Procedure → ℕ → ℕ → Triple
triple user procedure set limit = record { user = user; procedure = procedure; set = set; limit = limit; first = 0; last = max_moment }

-- Tess and Tom are tellers; Sue opens accounts, gives releases and closes days
abbrev pub triples : List Triple
triples =
    triple 7 Post 2 999999
    ∷ triple 7 Transfer 3 50000
    ∷ triple 7 Transfer 4 50000
    ∷ triple 7 Correct 2 999999
    ∷ triple 7 DrawerOn 2 100000
    ∷ triple 7 DrawerOff 2 0
    ∷ triple 7 MoveCash 2 100000
    ∷ triple 7 Balance 2 0
    ∷ triple 7 Statement 2 0
    ∷ triple 7 Accounts 5 0
    ∷ triple 8 Post 1 1000
    ∷ triple 8 Post 2 50000
    ∷ triple 8 Transfer 1 1000
    ∷ triple 8 Transfer 2 50000
    ∷ triple 8 Correct 2 999999
    ∷ triple 8 DrawerOn 2 100000
    ∷ triple 8 DrawerOff 2 0
    ∷ triple 9 NewAccount 1 0
    ∷ triple 9 Release 1 999999
    ∷ triple 9 Proof 2 0
    ∷ triple 9 CloseDay 2 0
    ∷ []

-- the user may certify the procedure
abbrev pub certifier : ℕ → Procedure → Certifier
certifier user procedure = record { user = user; procedure = procedure }

-- Carl and Cora may certify all thirteen
abbrev pub certifiers : List Certifier
certifiers = map (certifier 2) procedures ++ map (certifier 3) procedures

abbrev pub sample_policy : PolicyLists
sample_policy = record { users = users; sets = sets; relations = relations; triples = triples; certifiers = certifiers }
