-- What the rows of an answer say of the table of the bank.
use Rattle.std.proofs.Common.{◌≡◌, List, [], ◌∷◌, map, IsPermutation, Option, None, Some, Ok, Err, IfOk, OnOk, Result, refl, ap, subst}
use Rattle.std.proofs.lemmas.List.Sorted.{IsPermutation-sym}
use Rattle.sqlite.specs.Order.{Row}
use Rattle.sqlite.specs.State.{IsUnchanged, KeepsCommit, State}
use Rattle.sqlite.specs.Tree.{Trees}
use Rattle.sqlite.proofs.Callers.{one_permutation}
use Rattle.sql_schema.specs.HeldRows.{all_of_it}
use Rattle.sql_whole.specs.BankRow.{IsBankTable, IsReadFrom, bank_row_cells}
use Rattle.sql_schema.specs.ReadBack.{stored_by_rowid}
use Rattle.sql_whole.specs.declared.bank.BankRow.{BankRow}

themselves : (rows : List Row) → map all_of_it rows ≡ rows
themselves [] = refl
themselves (row ∷ rows) = ap (λ rest. row ∷ rest) (themselves rows)

is_table : (db : Trees) (rows : List Row) (found : Option BankRow) → IsReadFrom rows found → IsPermutation (map (stored_by_rowid 2) rows) (db 0) → IsBankTable db found
is_table db rows (Some b) stated same = one_permutation (bank_row_cells b) (db 0) (subst (λ l. IsPermutation l (db 0)) stated same)
is_table db rows None stated same = λ b is. stated b (one_permutation (bank_row_cells b) (map (stored_by_rowid 2) rows) (subst (λ l. IsPermutation l (map (stored_by_rowid 2) rows)) is (IsPermutation-sym _ _ same)))

pub tells_table : {E : Type 0} (old new : State) (rows : List Row) (r : Result (Option BankRow) E) → IfOk r (IsReadFrom rows) → IsPermutation (map (stored_by_rowid 2) rows) (map all_of_it (old.now.trees 0))
    → IsUnchanged old new × KeepsCommit old new → IfOk r (IsBankTable old.now.trees) × OnOk r (IsUnchanged old new) × KeepsCommit old new
tells_table old new rows (Ok found) stated same kept = (is_table old.now.trees rows found stated (subst (IsPermutation (map (stored_by_rowid 2) rows)) (themselves (old.now.trees 0)) same), kept.0, kept.1)
tells_table old new rows (Err e) stated same kept = (tt, tt, kept.1)
