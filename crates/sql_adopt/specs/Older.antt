-- Files of a schema version before the newest, which may be carried over.
use Rattle.std.specs.Prelude.{ℕ, ℤ, pos, ◌≡◌, ◌≢◌, [], ◌∷◌, Option, Some}
use Rattle.sqlite.specs.State.{HasCleanDisk, State}
use Rattle.sqlite.specs.Tree.{Trees}
use Rattle.sql_schema.specs.Cells.{edition_number}
use Rattle.sql_schema.specs.Schema.{newest}
use Rattle.sql_schema.specs.declared.edition.Edition.{Edition}
use Rattle.sql_whole.specs.BankRow.{bank_row_cells}
use Rattle.sql_whole.specs.declared.bank.BankRow.{BankRow}
use Rattle.sql_adopt.specs.declared.adopt_fault.AdoptFault.{AdoptFault}
use Rattle.sql_adopt.specs.declared.adopt_fault.AdoptFault.TheVariants.{NotABank}
use Rattle.sql_adopt.specs.Adopted.{IsBankFile, IsBankFileIn, IsBankNumber, IsBankRow}

-- the row that was found is that of a bank of this schema version, which is not the newest
pub record NamesOlder (found : Option BankRow) (e : Edition) : Type 0 where
  pub older : e ≢ newest
  pub row : BankRow
  pub is : found ≡ Some row
  pub id : row.id ≡ pos 1
  pub version : row.version ≡ pos (edition_number e)

-- the table of the bank has not the row of one
pub record IsNoBank (db : Trees) (fault : AdoptFault) : Type 0 where
  pub stated : fault ≡ NotABank
  pub none : (b : BankRow) → b.id ≡ pos 1 → db 0 ≢ bank_row_cells b ∷ []

-- the one row of the bank, of a schema version that is not the newest
pub record IsOlderRow (db : Trees) (e : Edition) : Type 0 where
  pub policy : ℤ
  pub row : IsBankNumber e db policy

-- the row of the bank is that of no schema version but this
abbrev pub BearsNoOther : Edition → Trees → Type 0
BearsNoOther e db = (other : Edition) (policy : ℤ) → IsBankNumber other db policy → other ≡ e

-- A connection to a file of this schema version, which is not the newest, whose row of the bank names no other.
pub record IsOlderFile (e : Edition) (s : State) : Type 0 where
  pub older : e ≢ newest
  pub file : IsBankFileIn e s
  pub row : BearsNoOther e s.now.trees

-- What a call on such a file comes to, where the disk has shown no fault after it.
abbrev pub OnOlderFile : State → State → (Edition → Type 0) → Type 0
OnOlderFile old new follows = HasCleanDisk new → (e : Edition) → IsOlderFile e old → follows e

-- A connection to a file of the newest schema version, as its row of the bank says.
pub record IsNewestFile (s : State) : Type 0 where
  pub file : IsBankFile s
  pub version : ℕ
  pub row : IsBankRow newest s.now.trees version
