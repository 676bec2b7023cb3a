-- A bank that is read in the schema version which its row names.
use Rattle.std.proofs.Common.{◌≡◌, ◌≢◌, ◌∙◌, ℕ, ℤ, pos, [], ◌∷◌, Ok, Err, IfOk, OnOk, Option, Some, Result, refl, sym, ap₂, subst}
use Rattle.sqlite.specs.State.{HasCleanDisk, IsUnchanged, KeepsCommit, State}
use Rattle.sqlite.specs.Tree.{Trees}
use Rattle.sql_schema.specs.Cells.{edition_number}
use Rattle.sql_schema.specs.Schema.{newest}
use Rattle.sql_schema.specs.declared.edition.Edition.{Edition}
use Rattle.sql_schema.specs.declared.edition.Edition.TheVariants.{First, Second, Third}
use Rattle.sql_whole.specs.BankRow.{IsBankTable, bank_row_cells}
use Rattle.sql_whole.specs.declared.bank.BankRow.{BankRow}
use Rattle.sql_whole.specs.Whole.{HasBankTables}
use Rattle.sql_whole.proofs.ReadsLemmas.{Done, still_bank}
use Rattle.sql_schema.proofs.StepLemmas.{early, kept_then}
use Rattle.sql_schema.specs.Steps.{LeavesNone}
use Rattle.sqlite.specs.Effect.{Database}
use Rattle.sql_adopt.specs.Adopted.{IsBankRow}
use Rattle.sql_adopt.specs.Older.{BearsNoOther, IsNoBank, IsOlderRow, NamesOlder}
use Rattle.sql_adopt.specs.Refused.{IsRefusedIn}
use Rattle.sql_adopt.specs.declared.adopt_fault.AdoptFault.{AdoptFault}
use Rattle.sql_adopt.specs.declared.adopt_fault.AdoptFault.TheVariants.{Version}
use Rattle.sql_adopt.proofs.TakenLemmas.{first_found}

-- ---- the schema version that a row names

-- a row of no older schema version is refused as of another version
pub version_refused : (e : Edition) → e ≢ newest → (db : Trees) (found : Option BankRow) (row : BankRow) → found ≡ Some row → row.id ≡ pos 1 → row.version ≢ pos 1 → row.version ≢ pos 2 → IsBankTable db found
    → IsRefusedIn e db Version
version_refused First older db found row is id one two table = (row, id, one, subst (IsBankTable db) is table)
version_refused Second older db found row is id one two table = (row, id, two, subst (IsBankTable db) is table)
version_refused Third older db found row is id one two table = absurd (older refl)

same_version : (id version policy : ℤ) (row : BankRow) → ◌≡◌ {A = Option BankRow} (Some (record { id = id; version = version; policy = policy })) (Some row) → version ≡ row.version
same_version id version policy row is = cc

-- the row of a schema version bears its number
pub version_there : (e : Edition) (db : Trees) (version : ℕ) (found : Option BankRow) (row : BankRow) → found ≡ Some row → IsBankTable db found → IsBankRow e db version → row.version ≡ pos (edition_number e)
version_there e db version found row is table there = sym (same_version _ _ _ row (sym (first_found e db found version table there) ∙ is))

pub first_older : First ≢ Third
first_older same = absurd cc

pub second_older : Second ≢ Third
second_older same = absurd cc

-- a row of an older schema version is not that of the newest
pub not_newest : (e : Edition) → e ≢ newest → (db : Trees) (version : ℕ) (found : Option BankRow) (row : BankRow) → found ≡ Some row → IsBankTable db found → IsBankRow newest db version → row.version ≡ pos (edition_number e) → ⊥
not_newest First older db version found row is table there number = absurd (let both : pos 1 ≡ pos 3 = sym number ∙ version_there newest db version found row is table there in cc)
not_newest Second older db version found row is table there number = absurd (let both : pos 2 ≡ pos 3 = sym number ∙ version_there newest db version found row is table there in cc)
not_newest Third older db version found row is table there number = older refl

pub no_bank : (e : Edition) (db : Trees) (fault : AdoptFault) → IsNoBank db fault → IsRefusedIn e db fault
no_bank e db fault is = subst (IsRefusedIn e db) (sym is.stated) is.none

-- so a row of none of the older ones is of none of them
pub no_older : (e : Edition) → e ≢ newest → (version : ℤ) → version ≡ pos (edition_number e) → version ≢ pos 1 → version ≢ pos 2 → ⊥
no_older First older version is one two = one is
no_older Second older version is one two = two is
no_older Third older version is one two = older refl

first_row : (e : Edition) (db : Trees) (found : Option BankRow) → NamesOlder found e → IsBankTable db found → IsOlderRow db e
first_row e db found named table = record {
  policy = named.row.policy;
  row = subst (IsBankTable db) named.is table ∙ ap₂ (λ id version. bank_row_cells (record { id = id; version = version; policy = named.row.policy }) ∷ []) named.id named.version;
}

pub reads_older : {E : Type 0} (old new : State) (found : Option BankRow) (r : Result Edition E) → IfOk r (NamesOlder found)
    → IsBankTable old.now.trees found × IsUnchanged old new × KeepsCommit old new → IfOk r (IsOlderRow old.now.trees) × OnOk r (IsUnchanged old new) × KeepsCommit old new
reads_older old new found (Ok e) named it = (first_row e old.now.trees found named it.0, it.1, it.2)
reads_older old new found (Err x) named it = (tt, tt, it.2)

pub is_older : {E : Type 0} (found : Option BankRow) (r : Result Edition E) → IfOk r (NamesOlder found) → IfOk r (λ e. e ≢ newest)
is_older found (Ok e) named = named.older
is_older found (Err x) named = tt

-- ---- what is read in that schema version

module _ (e edition : Edition) (a b c : State) (over : LeavesNone b c) (bears : BearsNoOther e a.now.trees) (first : Done e a b (λ db. IsOlderRow db edition)) where
  edition_is : HasCleanDisk c → HasBankTables e a → edition ≡ e
  edition_is clean has = let it = (first (early b c _ over clean) has).0 in bears edition it.policy it.row

  -- the tables are in that schema version, so what a read in it says holds of them
  pub older_then : (P : Edition → Trees → Type 0) → (HasCleanDisk c → HasBankTables edition b → P edition b.now.trees × KeepsCommit b c) → HasCleanDisk c → HasBankTables e a → ((edition ≡ e) × P e a.now.trees) × KeepsCommit a c
  older_then P second clean has =
      let one = first (early b c _ over clean) has in
      let same = edition_is clean has in
      let two = subst (λ x. HasBankTables x b → P x b.now.trees × KeepsCommit b c) same (second clean) (still_bank e a b one.1 has) in
      ((same, subst (λ (d : Database). P e d.trees) one.1.0.now_is two.0), kept_then a b c one.2 two.1)
