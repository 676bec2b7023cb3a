-- What stands somewhere is unread where a part of it is.
use Rattle.std.proofs.Common.{◌≡◌, ◌<◌, ℕ, zero, suc, ℤ, pos, List, [], ◌∷◌, map, length, Result, Ok, Err, IfErr, IsErrAnd, refl, sym, ap, arith, ◌∙◌, subst}
use Rattle.std.specs.Prelude.{slice_index_or}
use Rattle.money.specs.declared.fault.Fault.{Fault}
use Rattle.sqlite.specs.declared.types.Value.TheVariants.{Int}
use Rattle.sqlite.specs.Order.{Row}
use Rattle.sqlite_value.specs.Order.{column}
use Rattle.sql_schema.specs.Cells.{AnyRow}
use Rattle.sql_schema.specs.Readable.{IsUnread}

-- The fault that a part was not read for is handed on.
pub unread_part : {X V P R : Type 0} (cells : X → Row) (readable : X → Type 0) (there : Row) (part : Row → P) (cell : V → P) (good : V → Type 0) (of : X → V) (r : Result R Fault) (fault : Fault)
    → IsErrAnd r (λ e. e ≡ fault) → IsUnread cell good (part there) fault → ((x : X) → readable x → (part (cells x) ≡ cell (of x)) × good (of x)) → IfErr r (IsUnread cells readable there)
unread_part cells readable there part cell good of (Ok x) fault handed unread tells = tt
unread_part cells readable there part cell good of (Err e) fault handed unread tells =
    subst (IsUnread cells readable there) (sym handed) (λ failed x can same. unread failed (of x) (tells x can).1 (ap part same ∙ (tells x can).0))

-- ---- eight whole numbers

whole_column : (members : List ℤ) (place : ℕ) → place < length members → column (map Int members) place ≡ Int (slice_index_or members place (pos 0))
whole_column [] place within = absurd (omega (arith, within))
whole_column (n ∷ members) zero within = refl
whole_column (n ∷ members) (suc place) within = whole_column members place (omega (arith, within))

pub unread_whole : {R : Type 0} (place : ℕ) (there : Row) (r : Result R Fault) (fault : Fault) → place < 8 → IsErrAnd r (λ e. e ≡ fault) → IsUnread Int AnyRow (column there place) fault
    → IfErr r (IsUnread (map Int) (λ (members : List ℤ). length members ≡ 8) there)
unread_whole place there r fault within handed unread =
    unread_part (map Int) (λ members. length members ≡ 8) there (λ row. column row place) Int AnyRow (λ members. slice_index_or members place (pos 0)) r fault handed unread (λ members eight. (whole_column members place (omega (arith, within, eight)), tt))
