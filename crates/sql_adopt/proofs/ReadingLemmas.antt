-- Reads of which the last leaves nothing to be read.
use Rattle.std.proofs.Common.{◌≡◌, ℕ, ℤ, pos, [], ◌∷◌, Ok, Err, IsErr, IfErr, IsErrAnd, IfOk, IsTrue, OnOk, Option, Some, Result, refl, sym, ap₂, ◌∙◌, subst}
use Rattle.std.specs.Prelude.{⊤}
use Rattle.sqlite.specs.Effect.{Database}
use Rattle.sqlite.specs.State.{HasCleanDisk, IsUnchanged, KeepsCommit, State}
use Rattle.sqlite.specs.Tree.{Trees}
use Rattle.sql_schema.specs.Cells.{edition_number}
use Rattle.sql_schema.specs.Held.{Sheet}
use Rattle.sql_schema.specs.declared.edition.Edition.{Edition}
use Rattle.sql_schema.proofs.StepLemmas.{early, kept_then}
use Rattle.sql_schema.specs.Steps.{LeavesNone}
use Rattle.sql_whole.specs.BankRow.{IsBankTable, bank_row_cells}
use Rattle.sql_whole.specs.Whole.{HasBankTables, Reads}
use Rattle.sql_whole.specs.declared.bank.BankRow.{BankRow}
use Rattle.sql_whole.proofs.ReadsLemmas.{Done, Gave, done_then, gave_then, still_bank}
use Rattle.sql_adopt.specs.Adopted.{IsBankNumber, IsBankRow, ReadsLast}
use Rattle.sql_adopt.specs.Refused.{IsBeyondBankRow, IsOfBooksRead, IsOfStore, IsOfUnread, IsOutOfRange, IsRefusedIn}
use Rattle.sql_adopt.specs.Unread.{HasUnread, IsBesideBooks}
use Rattle.sql_adopt.specs.declared.adopt_fault.AdoptFault.{AdoptFault}
use Rattle.sql_adopt.specs.declared.adopt_fault.AdoptFault.TheVariants.{Books, Fault, NotABank, Policy, Version}

abbrev pub Ends : Edition → State → State → (Trees → Type 0) → Type 0
Ends e old new says = HasCleanDisk new → HasBankTables e old → says old.now.trees × KeepsCommit old new

pub last_then : (e : Edition) (a b c : State) (P Q R : Trees → Type 0) → ((db : Trees) → P db → Q db → R db) → LeavesNone b c → Done e a b P → Ends e b c Q → Ends e a c R
last_then e a b c P Q R both survives first second clean has =
    let p = first (early b c _ survives clean) has in
    let q = second clean (still_bank e a b p.1 has) in
    (both _ p.0 (subst (λ (d : Database). Q d.trees) p.1.0.now_is q.0), kept_then a b c p.2 q.1)

pub gave_last : {X E : Type 0} (e : Edition) (old new : State) (says : Trees → X → Type 0) (r : Result X E) → IsErr r → Gave e old new → ReadsLast e old new says r
gave_last e old new says (Ok x) is gave = absurd cc
gave_last e old new says (Err x) is gave = λ clean has. (tt, gave clean has)

-- ---- the row of the bank

first_row : (e : Edition) (db : Trees) (found : Option BankRow) (row : BankRow) → (found ≡ Some row) × (row.id ≡ pos 1) × (row.version ≡ pos (edition_number e)) → IsBankTable db found → IsBankNumber e db row.policy
first_row e db found row is table =
    subst (IsBankTable db) is.0 table ∙ ap₂ (λ id version. bank_row_cells (record { id = id; version = version; policy = row.policy }) ∷ []) is.1 is.2

pub reads_row : {E : Type 0} (e : Edition) (old new : State) (found : Option BankRow) (r : Result BankRow E) → IfOk r (λ row. (found ≡ Some row) × (row.id ≡ pos 1) × (row.version ≡ pos (edition_number e)))
    → IsBankTable old.now.trees found × IsUnchanged old new × KeepsCommit old new → IfOk r (λ row. IsBankNumber e old.now.trees row.policy) × OnOk r (IsUnchanged old new) × KeepsCommit old new
reads_row e old new found (Ok row) is it = (first_row e old.now.trees found row is it.0, it.1, it.2)
reads_row e old new found (Err x) is it = (tt, tt, it.2)

-- a fault of the database is lawful whatever the row is
pub store_refused : (e : Edition) (db : Trees) (fault : AdoptFault) → IsOfStore fault → IsRefusedIn e db fault
store_refused e db NotABank store = absurd store
store_refused e db Version store = absurd store
store_refused e db (Books fault) store = absurd store
store_refused e db (Policy fault) store = absurd store
store_refused e db (Fault fault) store = tt

-- A fault that says nothing of the row, where that is one of this schema version, with a count: all rows were read.
pub beyond_row : (e : Edition) (db : Trees) (version : ℕ) → IsBankRow e db version → ((t : Sheet) → HasUnread e db t → ⊥) → (fault : AdoptFault) → IsBeyondBankRow fault → IsRefusedIn e db fault
beyond_row e db version row read NotABank none = absurd none
beyond_row e db version row read Version none = absurd none
beyond_row e db version row read (Books fault) beyond = record { policy = pos version; row = row; range = λ none. absurd (none version refl); unread = λ t beside there. absurd (read t there) }
beyond_row e db version row read (Policy fault) beyond = record { version = version; row = row; unread = λ t there. absurd (read t there) }
beyond_row e db version row read (Fault fault) beyond = tt

pub beyond_rows : {X : Type 0} (e : Edition) (db : Trees) (version : ℕ) → IsBankRow e db version → ((t : Sheet) → HasUnread e db t → ⊥) → (r : Result X AdoptFault) → IfErr r IsBeyondBankRow → IfErr r (IsRefusedIn e db)
beyond_rows e db version row read (Ok x) beyond = tt
beyond_rows e db version row read (Err fault) beyond = beyond_row e db version row read fault beyond

-- the rows of the books were read
pub books_row : (e : Edition) (db : Trees) (version : ℕ) → IsBankRow e db version → ((t : Sheet) → IsBesideBooks t → HasUnread e db t → ⊥) → (fault : AdoptFault) → IsOfBooksRead fault → IsRefusedIn e db fault
books_row e db version row read NotABank none = absurd none
books_row e db version row read Version none = absurd none
books_row e db version row read (Books fault) beyond = record { policy = pos version; row = row; range = λ none. absurd (none version refl); unread = λ t beside there. absurd (read t beside there) }
books_row e db version row read (Policy fault) dangles = record { version = version; row = row; unread = λ t there. dangles }
books_row e db version row read (Fault fault) beyond = tt

-- rows were read, or not
pub unread_row : (e : Edition) (db : Trees) (version : ℕ) → IsBankRow e db version → (fault : AdoptFault) → IsOfUnread fault → IsRefusedIn e db fault
unread_row e db version row NotABank none = absurd none
unread_row e db version row Version none = absurd none
unread_row e db version row (Books fault) range = record { policy = pos version; row = row; range = λ none. range; unread = λ t beside there. range }
unread_row e db version row (Policy fault) dangles = record { version = version; row = row; unread = λ t there. dangles }
unread_row e db version row (Fault fault) beyond = tt

-- a fault reported of books that were read says nothing of the row of the bank
pub beyond_books : (fault : AdoptFault) → IsOfBooksRead fault → IsBeyondBankRow fault
beyond_books NotABank none = absurd none
beyond_books Version none = absurd none
beyond_books (Books fault) beyond = tt
beyond_books (Policy fault) dangles = tt
beyond_books (Fault fault) beyond = tt

pub handed_beyond : {X : Type 0} (r : Result X AdoptFault) (fault : AdoptFault) → IsErrAnd r (λ e. e ≡ fault) → IsOfBooksRead fault → IfErr r IsBeyondBankRow
handed_beyond (Ok x) fault same read = tt
handed_beyond (Err e) fault same read = subst IsBeyondBankRow (sym same) (beyond_books fault read)

pub handed_refused : {X : Type 0} (e : Edition) (db : Trees) (r : Result X AdoptFault) (fault : AdoptFault) → IsErrAnd r (λ e. e ≡ fault) → IsRefusedIn e db fault → IfErr r (IsRefusedIn e db)
handed_refused e db (Ok x) fault same refused = tt
handed_refused e db (Err x) fault same refused = subst (IsRefusedIn e db) (sym same) refused

-- the version of the policy is out of range where the row is one of this schema version
pub range_refused : {X : Type 0} (e : Edition) (db : Trees) (policy : ℤ) → IsBankNumber e db policy → (r : Result X AdoptFault) → IfErr r IsOutOfRange → IfErr r (IsRefusedIn e db)
range_refused e db policy number (Ok x) range = tt
range_refused e db policy number (Err fault) range = subst (IsRefusedIn e db) (sym range) (record { policy = policy; row = number; range = λ none. refl; unread = λ t beside there. refl })

-- the tables that are asked then, on a connection that the read of the row found open
module _ (e : Edition) (a b c : State) (P : Trees → Type 0) (survives : LeavesNone b c) (first : Done e a b P) where
  pub asked_then : (IsTrue b.is_open → Done e b c (λ _. ⊤)) → Done e a c P
  asked_then second clean has =
      let was_open = (first (early b c _ survives clean) has).1.0.is_open in
      let it = done_then e a b c P (λ _. ⊤) survives first (second was_open) clean has in
      (it.0.0, it.1, it.2)

  pub asked_gave : (IsTrue b.is_open → Gave e b c) → Gave e a c
  asked_gave second clean has =
      let was_open = (first (early b c _ survives clean) has).1.0.is_open in
      gave_then e a b c P survives first (second was_open) clean has

  -- and what holds of them on the tables of a bank
  pub asked_there : (Q : Type 0) → (IsTrue b.is_open → HasCleanDisk c → HasBankTables e b → Q) → HasCleanDisk c → HasBankTables e a → Q
  asked_there Q second clean has =
      let it = first (early b c _ survives clean) has in
      second it.1.0.is_open clean (still_bank e a b it.1 has)

pub reads_version : {E : Type 0} (e : Edition) (old new : State) (policy : ℤ) (r : Result ℕ E) → IfOk r (λ version. policy ≡ pos version) → Done e old new (λ db. IsBankNumber e db policy) → Reads e old new (IsBankRow e) r
reads_version e old new policy (Ok version) is done clean has =
    let it = done clean has in
    (subst (IsBankNumber e old.now.trees) is it.0, it.1, it.2)
reads_version e old new policy (Err x) is done clean has = (tt, tt, (done clean has).2)
