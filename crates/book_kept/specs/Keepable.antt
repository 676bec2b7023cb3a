-- Worlds whose numbers can be kept beside their rows: what a check of the books makes sure of, and every change that is written keeps.
-- Without it an entry could change the balances after later entries, and an account those after entries older than it.
use Rattle.std.specs.Prelude.{ℕ, ◌≡◌, ◌≢◌, ◌≤◌, ◌<◌, ◌^◌, ◌⊎◌, List, length, map, Contains, Some}
use Rattle.std.specs.List.Sorted.{IsNonDecreasingBy}
use Rattle.keyed_rows.specs.Ordered.{AreDistinct, HasRow}
use Rattle.bank_policy.specs.Policy.{PolicyLists}
use Rattle.bank_policy.specs.PolicyKeys.{certifier_key, relation_key, set_key, triple_key, user_key}
use Rattle.bank_policy.specs.SetRow.{SetRow}
use Rattle.bank_policy.specs.declared.rows.User.{User}
use Rattle.bank_books.specs.Balances.{entry_count, turn_count}
use Rattle.bank_books.specs.Cash.{holder_of, line_count}
use Rattle.bank_books.specs.Keys.{account_key, branch_key, entry_key, line_key, proof_key, release_key, teller_key, slip_key}
use Rattle.bank_books.specs.Range.{IsTellerOf}
use Rattle.bank_books.specs.Records.{release_count}
use Rattle.bank_books.specs.SlipRow.{SlipRow}
use Rattle.bank_books.specs.WorldLists.{WorldLists}
use Rattle.bank_books.specs.declared.rows.Account.{Account}
use Rattle.bank_books.specs.declared.rows.CashLine.{CashLine}
use Rattle.bank_books.specs.declared.rows.Entry.{Entry}
use Rattle.bank_books.specs.declared.rows.Release.{Release}
use Rattle.bank_books.specs.declared.rows.Teller.{Teller}

-- the rows stand in order of their keys, and no key stands twice
pub record IsOrdered {X : Type 0} (key : X → ℕ) (rows : List X) : Type 0 where
  pub in_order : IsNonDecreasingBy key rows
  pub distinct : AreDistinct (map key rows)

-- No teller has the place of the vault, and none's drawer is held by user 0, so that number can mean nobody.
pub record AreTellersKeepable (tellers : List Teller) (lines : List CashLine) : Type 0 where
  pub ordered : IsOrdered teller_key tellers
  pub places : (t : Teller) → Contains tellers t → t.teller ≢ 0
  pub holders : (t : Teller) → Contains tellers t → holder_of lines t.teller ≢ Some 0

-- Each entry names an account that is there, and is no later than the turns of its account and the numbers of its branch go.
pub record AreEntriesKeepable (accounts : List Account) (entries : List Entry) : Type 0 where
  pub ordered : IsOrdered entry_key entries
  pub named : (e : Entry) → Contains entries e → HasRow account_key accounts e.account
  pub turns : (e : Entry) → Contains entries e → e.turn ≤ turn_count e.account entries
  pub numbers : (e : Entry) → Contains entries e → e.number ≤ entry_count e.branch entries
  -- small enough for the key
  pub small : (e : Entry) → Contains entries e → e.number < 2 ^ 32

-- Each line is at the vault or at the drawer of a teller of its branch, and is no later than the numbers of its branch go.
pub record AreLinesKeepable (tellers : List Teller) (lines : List CashLine) : Type 0 where
  pub ordered : IsOrdered line_key lines
  pub places : (l : CashLine) → Contains lines l → (l.place ≡ 0) ⊎ IsTellerOf tellers l.branch l.place
  pub numbers : (l : CashLine) → Contains lines l → l.number ≤ line_count l.branch lines
  -- small enough for the key
  pub small : (l : CashLine) → Contains lines l → l.number < 2 ^ 32

-- each release names a user who is there, and is no later than the numbers of that user go
pub record AreReleasesKeepable (users : List User) (releases : List Release) : Type 0 where
  pub ordered : IsOrdered release_key releases
  pub named : (r : Release) → Contains releases r → HasRow user_key users r.user
  pub numbers : (r : Release) → Contains releases r → r.number ≤ release_count r.user releases
  -- small enough for the key
  pub small : (r : Release) → Contains releases r → r.number < 2 ^ 32

-- each slip names a user who is there, and those of one bear different numbers
pub record AreSlipsKeepable (users : List User) (slips : List SlipRow) : Type 0 where
  pub ordered : IsOrdered slip_key slips
  pub named : (s : SlipRow) → Contains slips s → HasRow user_key users s.user
  -- small enough for the key
  pub small : (s : SlipRow) → Contains slips s → s.number < 2 ^ 32

-- The rows of the policy stand in order, each once.
pub record IsPolicyKeepable (policy : PolicyLists) : Type 0 where
  pub users : IsOrdered user_key policy.users
  pub sets : IsOrdered set_key policy.sets
  -- the places in each set are small enough for the key
  pub places : (s : SetRow) → Contains policy.sets s → length s.members < 2 ^ 32
  pub relations : IsOrdered relation_key policy.relations
  pub triples : IsOrdered triple_key policy.triples
  pub certifiers : IsOrdered certifier_key policy.certifiers

-- what a check of the policy makes sure of: no key of it stands twice, and sets have few members
pub record HasDistinctRows (policy : PolicyLists) : Type 0 where
  pub users : AreDistinct (map user_key policy.users)
  pub sets : AreDistinct (map set_key policy.sets)
  pub few : (s : SetRow) → Contains policy.sets s → length s.members < 2 ^ 32
  pub relations : AreDistinct (map relation_key policy.relations)
  pub triples : AreDistinct (map triple_key policy.triples)
  pub certifiers : AreDistinct (map certifier_key policy.certifiers)

pub record IsKeepable (w : WorldLists) : Type 0 where
  pub branches : IsOrdered branch_key w.branches
  pub tellers : AreTellersKeepable w.tellers w.lines
  pub accounts : IsOrdered account_key w.accounts
  pub entries : AreEntriesKeepable w.accounts w.entries
  pub lines : AreLinesKeepable w.tellers w.lines
  pub proofs : IsOrdered proof_key w.proofs
  pub releases : AreReleasesKeepable w.policy.users w.releases
  pub slips : AreSlipsKeepable w.policy.users w.slips
  pub policy : IsPolicyKeepable w.policy
