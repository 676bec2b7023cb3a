-- The World that the opening lists of a bank state, or the first record of them that is bad.
use Rattle.std.specs.Prelude.{◌≡◌, ◌⊎◌, ℕ, List, [], ◌∷◌, codes, Option, Result, Ok, Err}
use Rattle.std.specs.Result.{result_map_both}
use Rattle.bank_books.specs.Keys.{account_key, branch_key, teller_key}
use Rattle.bank_books.specs.WorldLists.{WorldLists}
use Rattle.bank_books.specs.declared.rows.Account.{Account}
use Rattle.bank_books.specs.declared.rows.Branch.{Branch}
use Rattle.bank_books.specs.declared.rows.Teller.{Teller}
use Rattle.bank_policy.specs.Policy.{PolicyLists}
use Rattle.bank_policy.specs.SetRow.{SetRow}
use Rattle.bank_policy.specs.PolicyKeys.{certifier_key, relation_key, triple_key, user_key}
use Rattle.bank_policy.specs.declared.rows.Triple.{Triple}
use Rattle.list_records.specs.Records.{Record, begun_after, gathered, records_of}
use Rattle.list_records.specs.declared.fault.RecordFault.{RecordFault}
use Rattle.list_records.specs.declared.fault.RecordFault.TheVariants as record_fault
use Rattle.list_order.specs.Sorted.{in_order}
use Rattle.list_opening.specs.Rows.{account_row, branch_row, certifier_row, member_row, relation_row, teller_row, user_row, with_row}
use Rattle.list_opening.specs.Sets.{grouped}
use Rattle.list_opening.specs.Triples.{begun_triples, none_read, with_triple}
use Rattle.list_opening.specs.declared.list_fault.ListFault.{ListFault}
use Rattle.list_opening.specs.declared.list_fault.ListFault.TheVariants.{BadRow, Memory}
use Rattle.list_opening.specs.declared.list_fault.ListName.{ListName}
use Rattle.list_opening.specs.declared.list_fault.ListName.TheVariants.{Branches, Tellers, Accounts, Users, Sets, Relations, Triples, Certifiers}

-- the next step of a reading, where the last one was good
infixl 10 ◌>>=◌
abbrev pub ◌>>=◌ : {A B E : Type 0} → Result A E → (A → Result B E) → Result B E
Ok a >>= next = next a
Err e >>= next = Err e

-- the fault, with the list that it is of
abbrev pub in_file : ListName → RecordFault → ListFault
in_file file (record_fault.Bad row) = BadRow file row
in_file file record_fault.Memory = Memory

-- the rows of a list in order of their keys, those of one key in the order of their records; or the first bad record
abbrev pub listed : {T : Type 0} → ListName → (T → ℕ) → (Record → Option T) → Record → List ℕ → Result (List T) ListFault
listed file key row_of heading text = result_map_both (in_order key) (in_file file) (gathered (begun_after heading) (with_row row_of) [] (records_of text))

-- the names in the heading of each list but the triples
abbrev pub branch_names : Record
branch_names = codes "branch" ∷ codes "balance" ∷ codes "cash" ∷ []

abbrev pub teller_names : Record
teller_names = codes "teller" ∷ codes "branch" ∷ codes "balance" ∷ []

abbrev pub account_names : Record
account_names = codes "account" ∷ codes "home" ∷ codes "balance" ∷ codes "floor" ∷ []

abbrev pub user_names : Record
user_names = codes "user" ∷ codes "name" ∷ codes "officer" ∷ []

abbrev pub member_names : Record
member_names = codes "set" ∷ codes "kind" ∷ codes "low" ∷ codes "high" ∷ []

abbrev pub relation_names : Record
relation_names = codes "procedure" ∷ codes "set" ∷ codes "by" ∷ []

abbrev pub certifier_names : Record
certifier_names = codes "user" ∷ codes "procedure" ∷ []

-- the branches, the tellers and the accounts
pub record Ledger : Type 0 where
  pub branches : List Branch
  pub tellers : List Teller
  pub accounts : List Account

-- those of three lists
abbrev pub ledger_of : List ℕ → List ℕ → List ℕ → Result Ledger ListFault
ledger_of branches tellers accounts = do
  b ← listed Branches branch_key branch_row branch_names branches
  t ← listed Tellers teller_key teller_row teller_names tellers
  a ← listed Accounts account_key account_row account_names accounts
  Ok (record { branches = b; tellers = t; accounts = a })

-- the sets of a list of members
abbrev pub sets_of : List ℕ → Result (List SetRow) ListFault
sets_of sets = do
  members ← listed Sets (λ row. row.set) member_row member_names sets
  Ok (grouped members)

-- the triples of their list in order of their keys, as `listed` has them
abbrev pub triples_of : List ℕ → Result (List Triple) ListFault
triples_of triples = result_map_both (λ read. in_order triple_key read.1) (in_file Triples) (gathered begun_triples with_triple none_read (records_of triples))

-- the policy of five lists
abbrev pub policy_of : List ℕ → List ℕ → List ℕ → List ℕ → List ℕ → Result PolicyLists ListFault
policy_of users sets relations triples certifiers = do
  u ← listed Users user_key user_row user_names users
  s ← sets_of sets
  r ← listed Relations relation_key relation_row relation_names relations
  t ← triples_of triples
  c ← listed Certifiers certifier_key certifier_row certifier_names certifiers
  Ok (record { users = u; sets = s; relations = r; triples = t; certifiers = c })

-- the bank that opens with these books and this policy: nothing is entered in it yet
abbrev pub opened : Ledger → PolicyLists → WorldLists
opened books policy = record {
  branches = books.branches;
  tellers = books.tellers;
  accounts = books.accounts;
  entries = [];
  lines = [];
  proofs = [];
  releases = [];
  slips = [];
  policy = policy;
  version = 0;
}

-- the World of the eight lists, given in the order of their names; or the first bad record of the first list that has one (of
-- another number of lists, which no call hands in, nothing is said but Memory)
abbrev pub opening : List (List ℕ) → Result WorldLists ListFault
opening (branches ∷ tellers ∷ accounts ∷ users ∷ sets ∷ relations ∷ triples ∷ certifiers ∷ []) = do
  books ← ledger_of branches tellers accounts
  policy ← policy_of users sets relations triples certifiers
  Ok (opened books policy)
opening _ = Err Memory

-- It is what the lists say; or memory was refused, and that is reported.
abbrev pub IsReported : {S : Type 0} → Result S ListFault → Result S ListFault → Type 0
IsReported says result = (result ≡ says) ⊎ (result ≡ Err Memory)
