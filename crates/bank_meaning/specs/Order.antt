-- The order in which a World keeps its rows: each of its lists stands in order of the key of its rows.
use Rattle.std.specs.List.Sorted.{IsNonDecreasingBy}
use Rattle.bank_policy.specs.Policy.{PolicyLists}
use Rattle.bank_policy.specs.PolicyKeys.{ArePolicyRowsInOrder}
use Rattle.bank_books.specs.Keys.{account_key, branch_key, entry_key, line_key, proof_key, release_key, slip_key, teller_key}
use Rattle.bank_books.specs.WorldLists.{WorldLists}

-- the lists of a policy
abbrev pub IsPolicyInOrder : PolicyLists → Type 0
IsPolicyInOrder p = ArePolicyRowsInOrder p.users p.sets p.relations p.triples p.certifiers

-- the lists of the books
pub record AreBooksInOrder (w : WorldLists) : Type 0 where
  pub branches : IsNonDecreasingBy branch_key w.branches
  pub tellers : IsNonDecreasingBy teller_key w.tellers
  pub accounts : IsNonDecreasingBy account_key w.accounts
  pub entries : IsNonDecreasingBy entry_key w.entries
  pub lines : IsNonDecreasingBy line_key w.lines
  pub proofs : IsNonDecreasingBy proof_key w.proofs
  pub releases : IsNonDecreasingBy release_key w.releases
  pub slips : IsNonDecreasingBy slip_key w.slips

-- all lists of a World
pub record IsInOrder (w : WorldLists) : Type 0 where
  pub books : AreBooksInOrder w
  pub policy : IsPolicyInOrder w.policy
