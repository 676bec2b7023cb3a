-- Every request keeps the lists of a World in order.
use Rattle.std.proofs.Common.{◌≡◌, ◌==◌, Bool, true, false, not, List, [], ◌∷◌, map, refl}
use Rattle.std.specs.Prelude.{if◌then◌else◌}
use Rattle.std.proofs.lemmas.List.Kept.{IsNonDecreasingBy-filter}
use Rattle.keyed_rows.proofs.AddRow.{IsNonDecreasingBy-add_row}
use Rattle.keyed_rows.proofs.MadeRows.{IsNonDecreasingBy-made, key-changed}
use Rattle.bank_policy.specs.Policy.{PolicyLists}
use Rattle.bank_policy.specs.PolicyKeys.{certifier_key, relation_key, relation_number, set_key, triple_key, triple_number, user_key}
use Rattle.bank_policy.specs.PolicyWrites.{in_session, in_suspension, is_triple_on, policy_written, with_session}
use Rattle.bank_policy.specs.declared.policy_write.PolicyWrite.{PolicyWrite}
use Rattle.bank_policy.specs.declared.policy_write.PolicyWrite.TheVariants as change
use Rattle.bank_policy.specs.declared.policy_write.Session.{Session}
use Rattle.bank_policy.specs.declared.rows.User.{User}
use Rattle.bank_books.specs.Effects.{all_written, on_day, used_up, written}
use Rattle.bank_books.specs.Keys.{account_key, branch_key, entry_key, line_key, proof_key, release_key, release_number, slip_key}
use Rattle.bank_books.specs.Version.{with_version}
use Rattle.bank_books.specs.WorldLists.{WorldLists}
use Rattle.bank_books.specs.declared.row_write.RowWrite.{RowWrite}
use Rattle.bank_books.specs.declared.row_write.RowWrite.TheVariants as write
use Rattle.bank_meaning.specs.Order.{AreBooksInOrder, IsInOrder, IsPolicyInOrder}

-- ---- the policy after one change

-- of users who are made anew
users_made : (p : PolicyLists) (made : User → User) → ((u : User) → user_key (made u) ≡ user_key u) → IsPolicyInOrder p → IsPolicyInOrder (record p { users = map made p.users })
users_made p made same was = record {
  users_in_order = IsNonDecreasingBy-made user_key made same p.users was.users_in_order;
  sets_in_order = was.sets_in_order;
  relations_in_order = was.relations_in_order;
  triples_in_order = was.triples_in_order;
  certifiers_in_order = was.certifiers_in_order;
}

change_in_order : (p : PolicyLists) (c : PolicyWrite) → IsPolicyInOrder p → IsPolicyInOrder (policy_written c p)
change_in_order p (change.User row) was = record {
  users_in_order = IsNonDecreasingBy-add_row user_key row p.users was.users_in_order;
  sets_in_order = was.sets_in_order;
  relations_in_order = was.relations_in_order;
  triples_in_order = was.triples_in_order;
  certifiers_in_order = was.certifiers_in_order;
}
change_in_order p (change.Set row) was = record {
  users_in_order = was.users_in_order;
  sets_in_order = IsNonDecreasingBy-add_row set_key row p.sets was.sets_in_order;
  relations_in_order = was.relations_in_order;
  triples_in_order = was.triples_in_order;
  certifiers_in_order = was.certifiers_in_order;
}
change_in_order p (change.Relation row) was = record {
  users_in_order = was.users_in_order;
  sets_in_order = was.sets_in_order;
  relations_in_order = IsNonDecreasingBy-add_row relation_key row p.relations was.relations_in_order;
  triples_in_order = was.triples_in_order;
  certifiers_in_order = was.certifiers_in_order;
}
change_in_order p (change.NoRelation k) was = record {
  users_in_order = was.users_in_order;
  sets_in_order = was.sets_in_order;
  relations_in_order = IsNonDecreasingBy-filter relation_key (λ r. not (relation_key r == relation_number k.procedure k.set)) p.relations was.relations_in_order;
  triples_in_order = IsNonDecreasingBy-filter triple_key (λ t. not (is_triple_on k t)) p.triples was.triples_in_order;
  certifiers_in_order = was.certifiers_in_order;
}
change_in_order p (change.Triple row) was = record {
  users_in_order = was.users_in_order;
  sets_in_order = was.sets_in_order;
  relations_in_order = was.relations_in_order;
  triples_in_order = IsNonDecreasingBy-add_row triple_key row p.triples was.triples_in_order;
  certifiers_in_order = was.certifiers_in_order;
}
change_in_order p (change.NoTriple k) was = record {
  users_in_order = was.users_in_order;
  sets_in_order = was.sets_in_order;
  relations_in_order = was.relations_in_order;
  triples_in_order = IsNonDecreasingBy-filter triple_key (λ t. not (triple_key t == triple_number k.user k.procedure k.set)) p.triples was.triples_in_order;
  certifiers_in_order = was.certifiers_in_order;
}
change_in_order p (change.Certifier row) was = record {
  users_in_order = was.users_in_order;
  sets_in_order = was.sets_in_order;
  relations_in_order = was.relations_in_order;
  triples_in_order = was.triples_in_order;
  certifiers_in_order = IsNonDecreasingBy-add_row certifier_key row p.certifiers was.certifiers_in_order;
}
change_in_order p (change.NoCertifier row) was = record {
  users_in_order = was.users_in_order;
  sets_in_order = was.sets_in_order;
  relations_in_order = was.relations_in_order;
  triples_in_order = was.triples_in_order;
  certifiers_in_order = IsNonDecreasingBy-filter certifier_key (λ c. not (certifier_key c == certifier_key row)) p.certifiers was.certifiers_in_order;
}
change_in_order p (change.Suspended s) was =
    users_made p (λ u. if user_key u == s.user then in_suspension s u else u) (key-changed user_key (in_suspension s) s.user (λ u. refl)) was

session_in_order : (p : PolicyLists) (s : Session) → IsPolicyInOrder p → IsPolicyInOrder (record p { users = with_session s p.users })
session_in_order p s was = users_made p (λ u. if user_key u == s.user then in_session s u else u) (key-changed user_key (in_session s) s.user (λ u. refl)) was

-- ---- one change of a World

books_written : (c : RowWrite) (w : WorldLists) → AreBooksInOrder w → AreBooksInOrder (written c w)
books_written (write.Account row) w was = record {
  branches = was.branches;
  tellers = was.tellers;
  accounts = IsNonDecreasingBy-add_row account_key row w.accounts was.accounts;
  entries = was.entries;
  lines = was.lines;
  proofs = was.proofs;
  releases = was.releases;
  slips = was.slips;
}
books_written (write.Entry row) w was = record {
  branches = was.branches;
  tellers = was.tellers;
  accounts = was.accounts;
  entries = IsNonDecreasingBy-add_row entry_key row w.entries was.entries;
  lines = was.lines;
  proofs = was.proofs;
  releases = was.releases;
  slips = was.slips;
}
books_written (write.Line row) w was = record {
  branches = was.branches;
  tellers = was.tellers;
  accounts = was.accounts;
  entries = was.entries;
  lines = IsNonDecreasingBy-add_row line_key row w.lines was.lines;
  proofs = was.proofs;
  releases = was.releases;
  slips = was.slips;
}
books_written (write.Proof row) w was = record {
  branches = was.branches;
  tellers = was.tellers;
  accounts = was.accounts;
  entries = was.entries;
  lines = was.lines;
  proofs = IsNonDecreasingBy-add_row proof_key row w.proofs was.proofs;
  releases = was.releases;
  slips = was.slips;
}
books_written (write.Release row) w was = record {
  branches = was.branches;
  tellers = was.tellers;
  accounts = was.accounts;
  entries = was.entries;
  lines = was.lines;
  proofs = was.proofs;
  releases = IsNonDecreasingBy-add_row release_key row w.releases was.releases;
  slips = was.slips;
}
books_written (write.Day d) w was = record {
  branches = IsNonDecreasingBy-made branch_key (λ row. if row.branch == d.branch then on_day d.day row else row) (key-changed branch_key (on_day d.day) d.branch (λ row. refl)) w.branches was.branches;
  tellers = was.tellers;
  accounts = was.accounts;
  entries = was.entries;
  lines = was.lines;
  proofs = was.proofs;
  releases = was.releases;
  slips = was.slips;
}
books_written (write.Used k) w was = record {
  branches = was.branches;
  tellers = was.tellers;
  accounts = was.accounts;
  entries = was.entries;
  lines = was.lines;
  proofs = was.proofs;
  releases = IsNonDecreasingBy-made release_key (λ row. if release_key row == release_number k.user k.number then used_up row else row) (key-changed release_key used_up (release_number k.user k.number) (λ row. refl)) w.releases was.releases;
  slips = was.slips;
}
books_written (write.Session s) w was = record {
  branches = was.branches;
  tellers = was.tellers;
  accounts = was.accounts;
  entries = was.entries;
  lines = was.lines;
  proofs = was.proofs;
  releases = was.releases;
  slips = was.slips;
}
books_written (write.Policy c) w was = record {
  branches = was.branches;
  tellers = was.tellers;
  accounts = was.accounts;
  entries = was.entries;
  lines = was.lines;
  proofs = was.proofs;
  releases = was.releases;
  slips = was.slips;
}
books_written (write.Slip row) w was = record {
  branches = was.branches;
  tellers = was.tellers;
  accounts = was.accounts;
  entries = was.entries;
  lines = was.lines;
  proofs = was.proofs;
  releases = was.releases;
  slips = IsNonDecreasingBy-add_row slip_key row w.slips was.slips;
}

policy_after : (c : RowWrite) (w : WorldLists) → IsPolicyInOrder w.policy → IsPolicyInOrder (written c w).policy
policy_after (write.Account row) w was = was
policy_after (write.Entry row) w was = was
policy_after (write.Line row) w was = was
policy_after (write.Proof row) w was = was
policy_after (write.Release row) w was = was
policy_after (write.Day d) w was = was
policy_after (write.Used k) w was = was
policy_after (write.Session s) w was = session_in_order w.policy s was
policy_after (write.Policy c) w was = change_in_order w.policy c was
policy_after (write.Slip row) w was = was

pub in_order_written : (c : RowWrite) (w : WorldLists) → IsInOrder w → IsInOrder (written c w)
in_order_written c w was = record { books = books_written c w was.books; policy = policy_after c w was.policy }

-- ---- a plan

pub in_order_all_written : (cs : List RowWrite) (w : WorldLists) → IsInOrder w → IsInOrder (all_written cs w)
in_order_all_written [] w was = was
in_order_all_written (c ∷ cs) w was = in_order_all_written cs (written c w) (in_order_written c w was)

pub in_order_with_version : (b : Bool) (w : WorldLists) → IsInOrder w → IsInOrder (with_version b w)
in_order_with_version true w was = record {
  books = record {
    branches = was.books.branches;
    tellers = was.books.tellers;
    accounts = was.books.accounts;
    entries = was.books.entries;
    lines = was.books.lines;
    proofs = was.books.proofs;
    releases = was.books.releases;
    slips = was.books.slips;
  };
  policy = was.policy;
}
in_order_with_version false w was = was
