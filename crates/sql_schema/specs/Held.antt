-- What it is that a database holds the rows of a World and the numbers that are kept beside them.
use Rattle.std.specs.Prelude.{ℕ, ◌≡◌, ⊤, List, [], ◌∷◌, map}
use Rattle.sqlite.specs.Effect.{Database, IsDatabase}
use Rattle.sqlite.specs.Order.{Row}
use Rattle.sqlite.specs.State.{State}
use Rattle.sqlite.specs.Tree.{Trees}
use Rattle.bank_policy.specs.PolicyKeys.{certifier_key, relation_key, triple_key}
use Rattle.bank_books.specs.Keys.{line_key, proof_key, release_key, slip_key}
use Rattle.bank_books.specs.SlipRow.{SlipRow}
use Rattle.bank_books.specs.WorldLists.{WorldLists}
use Rattle.book_kept.specs.Keepable.{IsKeepable}
use Rattle.book_kept.specs.declared.records.KeptUser.{KeptUser}
use Rattle.book_kept.specs.declared.records.SlipCount.{SlipCount}
use Rattle.book_kept.specs.Sheets.{Sheets, account_no, branch_no, entry_no, member_no, sheets_of, slip_no, teller_no, user_no}
use Rattle.sql_schema.specs.Cells.{AnyRow, EntryFits, LineFits, MemberFits, ProofFits, RelationFits, ReleaseFits, SlipFits, TripleFitsIn, account_cells, bank_cells_in, branch_cells, certifier_cells, entry_cells, line_cells, member_cells, proof_cells, relation_cells, release_cells, set_cells, slip_cells, slip_count_cells, teller_cells, triple_cells_in, user_cells}
use Rattle.sql_schema.specs.HeldRows.{HoldsRows, all_but_rowid, all_of_it}
use Rattle.sql_schema.specs.Schema.{bank_schema, newest, schema_of}
use Rattle.sql_schema.specs.declared.edition.Edition.{Edition}
use Rattle.sql_schema.specs.declared.edition.Edition.TheVariants.{First, Second, Third}

-- the tables
pub data Sheet : Type 0 where
  bank : Sheet
  users : Sheet
  sets : Sheet
  members : Sheet
  relations : Sheet
  triples : Sheet
  certifiers : Sheet
  branches : Sheet
  tellers : Sheet
  accounts : Sheet
  entries : Sheet
  lines : Sheet
  proofs : Sheet
  releases : Sheet
  slips : Sheet
  slip_counts : Sheet

abbrev pub tree_of : Sheet → ℕ
tree_of bank = 0
tree_of users = 1
tree_of sets = 2
tree_of members = 3
tree_of relations = 5
tree_of triples = 7
tree_of certifiers = 9
tree_of branches = 11
tree_of tellers = 12
tree_of accounts = 13
tree_of entries = 14
tree_of lines = 17
tree_of proofs = 19
tree_of releases = 21
tree_of slips = 25
tree_of slip_counts = 27

-- the third schema version alone has the tables of slips
abbrev pub HasSlips : Edition → Type 0
HasSlips First = ⊥
HasSlips Second = ⊥
HasSlips Third = ⊤

-- the tables that a schema version has
abbrev pub IsIn : Edition → Sheet → Type 0
IsIn e bank = ⊤
IsIn e users = ⊤
IsIn e sets = ⊤
IsIn e members = ⊤
IsIn e relations = ⊤
IsIn e triples = ⊤
IsIn e certifiers = ⊤
IsIn e branches = ⊤
IsIn e tellers = ⊤
IsIn e accounts = ⊤
IsIn e entries = ⊤
IsIn e lines = ⊤
IsIn e proofs = ⊤
IsIn e releases = ⊤
IsIn e slips = HasSlips e
IsIn e slip_counts = HasSlips e

-- the number of a set is its key
abbrev pub set_no : ℕ → ℕ
set_no set = set

-- the slips, which schema versions before the third can not keep: there are none
abbrev pub HoldsSlipsIn : Edition → List SlipRow → List Row → Type 0
HoldsSlipsIn First rows tree = rows ≡ []
HoldsSlipsIn Second rows tree = rows ≡ []
HoldsSlipsIn Third rows tree = HoldsRows all_but_rowid slip_cells slip_key SlipFits rows tree

-- a user who has no slips
abbrev pub without_slips : KeptUser → SlipCount
without_slips u = record { user = u.row.user; slips = 0 }

-- how many slips each user has, which schema versions before the third do not keep: none
abbrev pub HoldsSlipCountsIn : Edition → Sheets → List Row → Type 0
HoldsSlipCountsIn First s tree = s.slip_counts ≡ map without_slips s.users
HoldsSlipCountsIn Second s tree = s.slip_counts ≡ map without_slips s.users
HoldsSlipCountsIn Third s tree = HoldsRows all_of_it slip_count_cells slip_no AnyRow s.slip_counts tree

-- the rows of one table
abbrev pub HoldsSheetIn : Edition → Sheet → Sheets → List Row → Type 0
HoldsSheetIn e bank s tree = tree ≡ bank_cells_in e s.version ∷ []
HoldsSheetIn e users s tree = HoldsRows all_of_it user_cells user_no AnyRow s.users tree
HoldsSheetIn e sets s tree = HoldsRows all_of_it set_cells set_no AnyRow s.sets tree
HoldsSheetIn e members s tree = HoldsRows all_but_rowid member_cells member_no MemberFits s.members tree
HoldsSheetIn e relations s tree = HoldsRows all_but_rowid relation_cells relation_key RelationFits s.relations tree
HoldsSheetIn e triples s tree = HoldsRows all_but_rowid (triple_cells_in e) triple_key (TripleFitsIn e) s.triples tree
HoldsSheetIn e certifiers s tree = HoldsRows all_but_rowid certifier_cells certifier_key AnyRow s.certifiers tree
HoldsSheetIn e branches s tree = HoldsRows all_of_it branch_cells branch_no AnyRow s.branches tree
HoldsSheetIn e tellers s tree = HoldsRows all_of_it teller_cells teller_no AnyRow s.tellers tree
HoldsSheetIn e accounts s tree = HoldsRows all_of_it account_cells account_no AnyRow s.accounts tree
HoldsSheetIn e entries s tree = HoldsRows all_but_rowid entry_cells entry_no EntryFits s.entries tree
HoldsSheetIn e lines s tree = HoldsRows all_but_rowid line_cells line_key LineFits s.lines tree
HoldsSheetIn e proofs s tree = HoldsRows all_but_rowid proof_cells proof_key ProofFits s.proofs tree
HoldsSheetIn e releases s tree = HoldsRows all_but_rowid release_cells release_key ReleaseFits s.releases tree
HoldsSheetIn e slips s tree = HoldsSlipsIn e s.slips tree
HoldsSheetIn e slip_counts s tree = HoldsSlipCountsIn e s tree

abbrev pub HoldsSheetsIn : Edition → Trees → Sheets → Type 0
HoldsSheetsIn e trees s = (t : Sheet) → HoldsSheetIn e t s (trees (tree_of t))

-- as the newest schema version has them
abbrev pub HoldsSheet : Sheet → Sheets → List Row → Type 0
HoldsSheet = HoldsSheetIn newest

abbrev pub HoldsSheets : Trees → Sheets → Type 0
HoldsSheets = HoldsSheetsIn newest

-- The tables hold these rows, and keep the rules of the schema: a triple is of a relation that is there.
pub record HoldsTables (db : Database) (s : Sheets) : Type 0 where
  pub schema : db.schema ≡ bank_schema
  pub sound : IsDatabase db
  pub rows : HoldsSheets db.trees s

-- These trees list the tables of a bank as a schema version lays them out, keep the rules of its schema, and hold the
-- rows and the numbers of this World.
pub record AreOfWorldIn (e : Edition) (w : WorldLists) (trees : Trees) : Type 0 where
  pub listed : IsDatabase (record { schema = schema_of e; trees = trees })
  pub rows : HoldsSheetsIn e trees (sheets_of w)
  pub keepable : IsKeepable w

pub record HoldsWorldIn (e : Edition) (db : Database) (w : WorldLists) : Type 0 where
  pub schema : db.schema ≡ schema_of e
  pub world : AreOfWorldIn e w db.trees

-- as the newest schema version has it
abbrev pub AreOfWorld : WorldLists → Trees → Type 0
AreOfWorld = AreOfWorldIn newest

abbrev pub HoldsWorld : Database → WorldLists → Type 0
HoldsWorld = HoldsWorldIn newest

-- between calls: the last commit has it too
pub record HoldsBank (s : State) (w : WorldLists) : Type 0 where
  pub now : HoldsWorld s.now w
  pub settled : s.committed ≡ s.now
