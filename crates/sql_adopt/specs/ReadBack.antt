-- What rows of tables give: the World that they are of, and the numbers that are kept beside its rows.
use Rattle.std.specs.Prelude.{ℕ, slice_get, ◌≡◌, ◌≢◌, ◌==◌, ◌++◌, List, [], ◌∷◌, map, Contains, None, Ok, Result, Some, if◌then◌else◌}
use Rattle.std.specs.List.{enumerate_from, flat_map}
use Rattle.std.specs.Option.{option_map_or}
use Rattle.std.specs.List.Sorted.{IsNonDecreasingBy}
use Rattle.bank_policy.specs.Policy.{PolicyLists}
use Rattle.bank_policy.specs.PolicyKeys.{certifier_key, relation_key, triple_key, user_key}
use Rattle.bank_policy.specs.SetRow.{SetRow}
use Rattle.bank_policy.specs.declared.rows.Member.{Member}
use Rattle.bank_books.specs.Books.{Books}
use Rattle.bank_books.specs.Keys.{account_key, branch_key, entry_key, line_key, proof_key, release_key, slip_key, teller_key}
use Rattle.bank_books.specs.Records.{KeptLists, kept_of}
use Rattle.bank_books.specs.WorldLists.{WorldLists}
use Rattle.bank_books.specs.declared.records.ReleaseCount.{ReleaseCount}
use Rattle.bank_books.specs.declared.records.TellerRecord.{TellerRecord}
use Rattle.book_check.specs.Verdict.{IsVerdict}
use Rattle.book_check.specs.declared.check.BooksFault.{BooksFault}
use Rattle.book_kept.specs.Keepable.{IsKeepable, IsOrdered}
use Rattle.book_kept.specs.Records.{member_row, member_rows}
use Rattle.book_kept.specs.Sheets.{Sheets, sheets_of}
use Rattle.book_kept.specs.declared.records.KeptTeller.{KeptTeller}
use Rattle.book_kept.specs.declared.records.KeptUser.{KeptUser}
use Rattle.book_kept.specs.declared.records.MemberRow.{MemberRow}
use Rattle.book_kept.specs.declared.records.SlipCount.{SlipCount}
use Rattle.policy_check.specs.PolicyVerdict.{IsPolicyVerdict}
use Rattle.sql_whole.specs.declared.book_rows.BookRows.{BookRows}
use Rattle.sql_whole.specs.declared.policy_tables.GrantRows.{GrantRows}
use Rattle.sql_whole.specs.declared.policy_tables.PolicyTables.{PolicyTables}

-- ---- single rows

-- the teller of whom it is kept: user 0 is nobody
abbrev pub teller_read : KeptTeller → TellerRecord
teller_read t = record { row = t.row; balance = t.balance; cash = t.cash; holder = if t.holder == 0 then None else Some t.holder }

-- what is counted of a user: n releases, and the slips of this row
abbrev pub count_read : ℕ → SlipCount → ReleaseCount
count_read releases c = record { user = c.user; releases = releases; slips = c.slips }

-- ---- the users

-- the releases of the user at this place, none where no user is
abbrev pub releases_at : List KeptUser → ℕ → ℕ
releases_at users place = option_map_or (λ u. u.releases) (slice_get users place) 0

-- What is counted of them, a row of slips beside each user in their order. Where these are not as many there are too few or too many.
abbrev pub counts_read_back : List SlipCount → List KeptUser → List ReleaseCount
counts_read_back [] users = []
counts_read_back (c ∷ counts) [] = count_read 0 c ∷ counts_read_back counts []
counts_read_back (c ∷ counts) (u ∷ users) = count_read u.releases c ∷ counts_read_back counts users

-- ---- the policy

-- the sets of these numbers, of which these are all members
pub record AreSetsOf (numbers : List ℕ) (members : List MemberRow) (sets : List SetRow) : Type 0 where
  pub numbers_are : map (λ s. s.set) sets ≡ numbers
  pub members_are : flat_map member_rows sets ≡ members

-- These members of the set are the first of the rows, each at its place, and no row after them is of the set.
pub record AreInFront (set : ℕ) (rows : List MemberRow) (members : List Member) : Type 0 where
  pub following : List MemberRow
  pub front : map (member_row set) (enumerate_from 1 members) ++ following ≡ rows
  pub others : (m : MemberRow) → Contains following m → m.set ≢ set

pub record IsPolicyOf (users : List KeptUser) (tables : PolicyTables) (policy : PolicyLists) : Type 0 where
  pub users_are : policy.users ≡ map (λ u. u.row) users
  pub sets : AreSetsOf tables.sets.sets.items tables.sets.members.items policy.sets
  pub relations : policy.relations ≡ tables.grants.relations.items
  pub triples : policy.triples ≡ tables.grants.triples.items
  pub certifiers : policy.certifiers ≡ tables.grants.certifiers.items

-- the policy of these users, sets and grants
abbrev pub policy_read_back : List KeptUser → List SetRow → GrantRows → PolicyLists
policy_read_back users sets grants = record {
  users = map (λ u. u.row) users;
  sets = sets;
  relations = grants.relations.items;
  triples = grants.triples.items;
  certifiers = grants.certifiers.items;
}

-- the rows of who may do what stand in order of their keys
pub record AreGrantsInOrder (grants : GrantRows) : Type 0 where
  pub relations : IsNonDecreasingBy relation_key grants.relations.items
  pub triples : IsNonDecreasingBy triple_key grants.triples.items
  pub certifiers : IsNonDecreasingBy certifier_key grants.certifiers.items

-- ---- the bank

-- the rows of the books stand in order of their keys
pub record AreBooksInOrder (books : BookRows) : Type 0 where
  pub branches : IsNonDecreasingBy branch_key (map (λ b. b.row) books.ledger.branches.items)
  pub tellers : IsNonDecreasingBy teller_key (map (λ t. t.row) books.ledger.tellers.items)
  pub accounts : IsNonDecreasingBy account_key (map (λ a. a.row) books.ledger.accounts.items)
  pub entries : IsNonDecreasingBy entry_key (map (λ e. e.row) books.history.entries.items)
  pub lines : IsNonDecreasingBy line_key books.history.lines.items
  pub proofs : IsNonDecreasingBy proof_key books.history.proofs.items
  pub releases : IsNonDecreasingBy release_key books.users.releases.items
  pub slips : IsNonDecreasingBy slip_key books.slips.slips.items

-- and so do the users, each once
abbrev pub AreUsersOrdered : List KeptUser → Type 0
AreUsersOrdered users = IsOrdered user_key (map (λ u. u.row) users)

abbrev pub world_read : BookRows → PolicyLists → ℕ → WorldLists
world_read books policy version = record {
  branches = map (λ b. b.row) books.ledger.branches.items;
  tellers = map (λ t. t.row) books.ledger.tellers.items;
  accounts = map (λ a. a.row) books.ledger.accounts.items;
  entries = map (λ e. e.row) books.history.entries.items;
  lines = books.history.lines.items;
  proofs = books.history.proofs.items;
  releases = books.users.releases.items;
  slips = books.slips.slips.items;
  policy = policy;
  version = version;
}

abbrev pub kept_read : BookRows → KeptLists
kept_read books = record {
  branches = books.ledger.branches.items;
  tellers = map teller_read books.ledger.tellers.items;
  accounts = books.ledger.accounts.items;
  entries = books.history.entries.items;
  users = counts_read_back books.slips.counts.items books.users.users.items;
}

abbrev pub sheets_read : BookRows → PolicyTables → ℕ → Sheets
sheets_read books tables version = record {
  branches = books.ledger.branches.items;
  tellers = books.ledger.tellers.items;
  accounts = books.ledger.accounts.items;
  entries = books.history.entries.items;
  lines = books.history.lines.items;
  proofs = books.history.proofs.items;
  releases = books.users.releases.items;
  slips = books.slips.slips.items;
  slip_counts = books.slips.counts.items;
  users = books.users.users.items;
  sets = tables.sets.sets.items;
  members = tables.sets.members.items;
  relations = tables.grants.relations.items;
  triples = tables.grants.triples.items;
  certifiers = tables.grants.certifiers.items;
  version = version;
}

-- These are the rows of this World, and these its kept numbers; its books hold, and its policy is sound and separated.
pub record AreBankOf (s : Sheets) (world : WorldLists) (kept : KeptLists) : Type 0 where
  pub sheets : sheets_of world ≡ s
  pub numbers : kept ≡ kept_of world
  pub keepable : IsKeepable world
  pub books : Books world
  pub policy : IsPolicyVerdict world.policy (Ok tt)

-- such a World is there
pub record IsBankOf (s : Sheets) : Type 0 where
  pub world : WorldLists
  pub sheets : sheets_of world ≡ s
  pub keepable : IsKeepable world
  pub books : Books world
  pub policy : IsPolicyVerdict world.policy (Ok tt)

-- ---- what is named of rows that were read

-- the World and the kept numbers of these rows, with this policy
abbrev pub world_read_back : Sheets → PolicyLists → WorldLists
world_read_back s policy = record {
  branches = map (λ b. b.row) s.branches;
  tellers = map (λ t. t.row) s.tellers;
  accounts = map (λ a. a.row) s.accounts;
  entries = map (λ e. e.row) s.entries;
  lines = s.lines;
  proofs = s.proofs;
  releases = s.releases;
  slips = s.slips;
  policy = policy;
  version = s.version;
}

abbrev pub kept_read_back : Sheets → KeptLists
kept_read_back s = record {
  branches = s.branches;
  tellers = map teller_read s.tellers;
  accounts = s.accounts;
  entries = s.entries;
  users = counts_read_back s.slip_counts s.users;
}

-- This is the verdict on the books. Of the policy it needs to know the users alone.
pub record AreBooksJudged (s : Sheets) (verdict : Result (Unit {0}) BooksFault) : Type 0 where
  pub policy : PolicyLists
  pub users : policy.users ≡ map (λ u. u.row) s.users
  pub stated : IsVerdict (world_read_back s policy) (kept_read_back s) verdict

-- the policy of these rows
pub record IsPolicyIn (s : Sheets) (policy : PolicyLists) : Type 0 where
  pub users : policy.users ≡ map (λ u. u.row) s.users
  pub sets : AreSetsOf s.sets s.members policy.sets
  pub relations : policy.relations ≡ s.relations
  pub triples : policy.triples ≡ s.triples
  pub certifiers : policy.certifiers ≡ s.certifiers
