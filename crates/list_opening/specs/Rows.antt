-- The rows that the records of the opening lists state: each field in its form and its range, and no field more or less.
use Rattle.std.specs.Prelude.{ℕ, ℤ, pos, ◌&&◌, false, int_le, nat_le, if◌then◌else◌, List, [], ◌∷◌, ◌++◌, Option, Some, None, option_and_then, option_map}
use Rattle.bank_terms.specs.Limits.{max_key, max_limit, max_moment, max_user, min_floor}
use Rattle.bank_terms.specs.Procedure.{procedure_named}
use Rattle.bank_books.specs.declared.rows.Account.{Account}
use Rattle.bank_books.specs.declared.rows.Branch.{Branch}
use Rattle.bank_books.specs.declared.rows.Teller.{Teller}
use Rattle.bank_policy.specs.declared.rows.Certifier.{Certifier}
use Rattle.bank_policy.specs.declared.rows.Relation.{Relation}
use Rattle.bank_policy.specs.declared.rows.Triple.{Triple}
use Rattle.bank_policy.specs.declared.rows.User.{User}
use Rattle.list_fields.specs.Names.{flag_of, is_name, kind_named}
use Rattle.list_fields.specs.Numbers.{amount_of, number_in, number_up_to}
use Rattle.list_records.specs.Records.{Record}
use Rattle.list_opening.specs.declared.set_member.SetMember.{SetMember}

-- the next step of a reading, where the last one found a value
infixl 10 ◌>>=◌
abbrev pub ◌>>=◌ : {A B : Type 0} → Option A → (A → Option B) → Option B
o >>= next = option_and_then next o

-- the rows with the one that a record states, or none where it states none
abbrev pub with_row : {T : Type 0} → (Record → Option T) → List T → Record → Option (List T)
with_row row_of rows r = option_map (λ row. rows ++ row ∷ []) (row_of r)

-- ---- fields

-- the key of an account, a teller, a branch or a set
abbrev pub key_of : List ℕ → Option ℕ
key_of text = number_in 1 max_key text

abbrev pub user_number : List ℕ → Option ℕ
user_number text = number_in 1 max_user text

abbrev pub limit_of : List ℕ → Option ℕ
limit_of text = number_in 0 max_limit text

-- a moment, in seconds
abbrev pub moment_of : List ℕ → Option ℕ
moment_of text = number_up_to max_moment text

-- a first moment and a last one, which is not before it
abbrev pub moments_of : List ℕ → List ℕ → Option (ℕ × ℕ)
moments_of first last = do
  begin ← moment_of first
  end ← moment_of last
  if nat_le begin end then Some (begin, end) else None

-- the least balance of an account
abbrev pub floor_of : List ℕ → Option ℤ
floor_of text = do
  floor ← amount_of text
  if int_le min_floor floor && int_le floor (pos 0) then Some floor else None

abbrev pub name_of : List ℕ → Option (List ℕ)
name_of text = if is_name text then Some text else None

-- ---- records

-- a branch, on its first day
abbrev pub branch_row : Record → Option Branch
branch_row (branch ∷ balance ∷ cash ∷ []) = do
  number ← key_of branch
  opening ← amount_of balance
  vault ← amount_of cash
  Some (record { branch = number; opening = opening; cash = vault; day = 1 })
branch_row _ = None

abbrev pub teller_row : Record → Option Teller
teller_row (teller ∷ branch ∷ balance ∷ []) = do
  number ← key_of teller
  home ← key_of branch
  opening ← amount_of balance
  Some (record { teller = number; branch = home; opening = opening })
teller_row _ = None

abbrev pub account_row : Record → Option Account
account_row (account ∷ home ∷ balance ∷ floor ∷ []) = do
  number ← key_of account
  branch ← key_of home
  opening ← amount_of balance
  least ← floor_of floor
  Some (record { account = number; home = branch; opening = opening; floor = least })
account_row _ = None

-- a user who never had a session
abbrev pub user_row : Record → Option User
user_row (user ∷ name ∷ officer ∷ []) = do
  number ← user_number user
  text ← name_of name
  flag ← flag_of officer
  Some (record { user = number; name = text; officer = flag; suspended = false; session = 0; on = false })
user_row _ = None

-- a member of a set: its greatest key is not below its least
abbrev pub member_row : Record → Option SetMember
member_row (set ∷ kind ∷ low ∷ high ∷ []) = do
  number ← key_of set
  of ← kind_named kind
  least ← key_of low
  greatest ← key_of high
  if nat_le least greatest then Some (record { set = number; member = record { kind = of; low = least; high = greatest } }) else None
member_row _ = None

abbrev pub relation_row : Record → Option Relation
relation_row (procedure ∷ set ∷ by ∷ []) = do
  certified ← procedure_named procedure
  number ← key_of set
  user ← user_number by
  Some (record { procedure = certified; set = number; by = user })
relation_row _ = None

-- the triple of these fields that is in effect from one moment to another
abbrev pub triple_during : List ℕ → List ℕ → List ℕ → List ℕ → ℕ → ℕ → Option Triple
triple_during user procedure set limit first last = do
  number ← user_number user
  held ← procedure_named procedure
  items ← key_of set
  most ← limit_of limit
  Some (record { user = number; procedure = held; set = items; limit = most; first = first; last = last })

-- a triple whose record states no moments is in effect at each of them
abbrev pub triple_row : Record → Option Triple
triple_row (user ∷ procedure ∷ set ∷ limit ∷ []) = triple_during user procedure set limit 0 max_moment
triple_row _ = None

-- one whose record states them is in effect from the one to the other
abbrev pub timed_row : Record → Option Triple
timed_row (user ∷ procedure ∷ set ∷ limit ∷ first ∷ last ∷ []) = do
  moments ← moments_of first last
  triple_during user procedure set limit moments.0 moments.1
timed_row _ = None

abbrev pub certifier_row : Record → Option Certifier
certifier_row (user ∷ procedure ∷ []) = do
  number ← user_number user
  certified ← procedure_named procedure
  Some (record { user = number; procedure = certified })
certifier_row _ = None
