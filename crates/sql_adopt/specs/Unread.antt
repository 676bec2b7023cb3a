-- Rows that can't be read: a number, an amount or a text of theirs is of no type that its column is read as.
use Rattle.std.specs.Prelude.{◌≢◌, List, Contains, ⊤}
use Rattle.sqlite.specs.Order.{Row}
use Rattle.sqlite.specs.Tree.{Trees}
use Rattle.sql_schema.specs.Cells.{account_cells, branch_cells, certifier_cells, entry_cells, line_cells, member_cells, proof_cells, relation_cells, release_cells, set_cells, slip_cells, slip_count_cells, teller_cells, triple_cells_in, user_cells}
use Rattle.sql_schema.specs.declared.edition.Edition.{Edition}
use Rattle.sql_schema.specs.declared.edition.Edition.TheVariants.{First, Second, Third}
use Rattle.sql_schema.specs.Held.{Sheet, tree_of}
use Rattle.sql_schema.specs.Held.Sheet.{accounts, bank, branches, certifiers, entries, lines, members, proofs, relations, releases, sets, slip_counts, slips, tellers, triples, users}
use Rattle.sql_schema.specs.HeldRows.{all_but_rowid, all_of_it}
use Rattle.sql_schema.specs.Readable.{IsReadableAccount, IsReadableBranch, IsReadableCertifier, IsReadableEntry, IsReadableLine, IsReadableMember, IsReadableProof, IsReadableRelation, IsReadableRelease, IsReadableSlip, IsReadableSlipCount, IsReadableTeller, IsReadableTriple, IsReadableUser, IsShort}

-- a row of the tree is that of nothing which may be read
abbrev pub HasStranger : {X : Type 0} → (Row → Row) → (X → Row) → (X → Type 0) → List Row → Type 0
HasStranger {X = X} shows cells Readable tree = (row : Row) × Contains tree row × ((x : X) → Readable x → cells x ≢ shows row)

-- schema versions before the third have no slips
abbrev pub HasUnreadSlip : Edition → List Row → Type 0
HasUnreadSlip First tree = ⊥
HasUnreadSlip Second tree = ⊥
HasUnreadSlip Third tree = HasStranger all_but_rowid slip_cells IsReadableSlip tree

abbrev pub HasUnreadCount : Edition → List Row → Type 0
HasUnreadCount First tree = ⊥
HasUnreadCount Second tree = ⊥
HasUnreadCount Third tree = HasStranger all_of_it slip_count_cells IsReadableSlipCount tree

-- a row of this table can't be read; the row of the bank is judged apart
abbrev pub HasUnread : Edition → Trees → Sheet → Type 0
HasUnread e db bank = ⊥
HasUnread e db users = HasStranger all_of_it user_cells IsReadableUser (db (tree_of users))
HasUnread e db sets = HasStranger all_of_it set_cells IsShort (db (tree_of sets))
HasUnread e db members = HasStranger all_but_rowid member_cells IsReadableMember (db (tree_of members))
HasUnread e db relations = HasStranger all_but_rowid relation_cells IsReadableRelation (db (tree_of relations))
HasUnread e db triples = HasStranger all_but_rowid (triple_cells_in e) IsReadableTriple (db (tree_of triples))
HasUnread e db certifiers = HasStranger all_but_rowid certifier_cells IsReadableCertifier (db (tree_of certifiers))
HasUnread e db branches = HasStranger all_of_it branch_cells IsReadableBranch (db (tree_of branches))
HasUnread e db tellers = HasStranger all_of_it teller_cells IsReadableTeller (db (tree_of tellers))
HasUnread e db accounts = HasStranger all_of_it account_cells IsReadableAccount (db (tree_of accounts))
HasUnread e db entries = HasStranger all_but_rowid entry_cells IsReadableEntry (db (tree_of entries))
HasUnread e db lines = HasStranger all_but_rowid line_cells IsReadableLine (db (tree_of lines))
HasUnread e db proofs = HasStranger all_but_rowid proof_cells IsReadableProof (db (tree_of proofs))
HasUnread e db releases = HasStranger all_but_rowid release_cells IsReadableRelease (db (tree_of releases))
HasUnread e db slips = HasUnreadSlip e (db (tree_of slips))
HasUnread e db slip_counts = HasUnreadCount e (db (tree_of slip_counts))

-- the tables of the books, and that of the users, which are read with them
abbrev pub IsBesideBooks : Sheet → Type 0
IsBesideBooks bank = ⊥
IsBesideBooks sets = ⊥
IsBesideBooks members = ⊥
IsBesideBooks relations = ⊥
IsBesideBooks triples = ⊥
IsBesideBooks certifiers = ⊥
IsBesideBooks _ = ⊤
