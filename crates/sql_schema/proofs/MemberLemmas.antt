-- The eight members of the operation of a release, or of a slip, each in a column of its own.
use Rattle.std.proofs.Common.{◌≡◌, ℤ, pos, List, [], ◌∷◌, ◌++◌, map, length, Result, IfErr, IsErrAnd, refl, sym, ap, arith, ◌∙◌}
use Rattle.std.specs.Prelude.{slice_index_or}
use Rattle.money.specs.declared.fault.Fault.{Fault}
use Rattle.sqlite.specs.declared.types.Value.{Value}
use Rattle.sqlite.specs.declared.types.Value.TheVariants.{Int}
use Rattle.sqlite.specs.Order.{Row}
use Rattle.sqlite_value.specs.Order.{column}
use Rattle.bank_books.specs.SlipRow.{SlipRow}
use Rattle.bank_books.specs.declared.rows.Release.{Release}
use Rattle.sql_schema.specs.Cells.{ReleaseFits, SlipFits, release_cells, slip_cells}
use Rattle.sql_schema.specs.Readable.{IsReadableRelease, IsReadableSlip, IsUnread}
use Rattle.sql_schema.specs.ReadBack.{columns_from, stored_by_columns}
use Rattle.sql_schema.proofs.ReadableLemmas.{unread_part}

abbrev eight_cells : List ℤ → Row
eight_cells members =
    Int (slice_index_or members 0 (pos 0)) ∷ Int (slice_index_or members 1 (pos 0)) ∷ Int (slice_index_or members 2 (pos 0)) ∷ Int (slice_index_or members 3 (pos 0))
    ∷ Int (slice_index_or members 4 (pos 0)) ∷ Int (slice_index_or members 5 (pos 0)) ∷ Int (slice_index_or members 6 (pos 0)) ∷ Int (slice_index_or members 7 (pos 0)) ∷ []

all_eight : (members : List ℤ) → length members ≡ 8 → map Int members ≡ eight_cells members
all_eight (a ∷ b ∷ c ∷ d ∷ e ∷ f ∷ g ∷ h ∷ []) is = refl
all_eight members is = absurd (omega (arith, is))

pub release_read : (row : Row) (user number giver branch day form used : Value) (members : List ℤ) → column row 0 ≡ user → column row 1 ≡ number → column row 2 ≡ giver → column row 3 ≡ branch → column row 4 ≡ day → column row 5 ≡ form
    → columns_from 6 8 row ≡ map Int members → length members ≡ 8 → column row 14 ≡ used → stored_by_columns 15 row ≡ user ∷ number ∷ giver ∷ branch ∷ day ∷ form ∷ (eight_cells members ++ used ∷ [])
release_read row user number giver branch day form used members first second third fourth fifth sixth then eight last =
    let seventh : columns_from 6 8 row ≡ eight_cells members = then ∙ all_eight members eight in
    λ i. first i ∷ second i ∷ third i ∷ fourth i ∷ fifth i ∷ sixth i ∷ (seventh i ++ last i ∷ [])

pub unread_members : {R : Type 0} (there : Row) (r : Result R Fault) (fault : Fault) → IsErrAnd r (λ e. e ≡ fault) → IsUnread (map Int) (λ (members : List ℤ). length members ≡ 8) (columns_from 6 8 there) fault
    → IfErr r (IsUnread release_cells IsReadableRelease there)
unread_members there r fault handed unread =
    unread_part release_cells IsReadableRelease there (columns_from 6 8) (map Int) (λ members. length members ≡ 8) (λ x. x.operation.members) r fault handed unread (λ x can. (sym (all_eight x.operation.members can.members), can.members))

pub slip_of_test : (row : Row) (user number form reply : Value) (members : List ℤ) → column row 0 ≡ user → column row 1 ≡ number → column row 2 ≡ form
    → columns_from 3 8 row ≡ map Int members → length members ≡ 8 → column row 11 ≡ reply → stored_by_columns 12 row ≡ user ∷ number ∷ form ∷ (eight_cells members ++ reply ∷ [])
slip_of_test row user number form reply members first second third then eight last =
    let fourth : columns_from 3 8 row ≡ eight_cells members = then ∙ all_eight members eight in
    λ i. first i ∷ second i ∷ third i ∷ (fourth i ++ last i ∷ [])

pub unread_slip_members : {R : Type 0} (there : Row) (r : Result R Fault) (fault : Fault) → IsErrAnd r (λ e. e ≡ fault) → IsUnread (map Int) (λ (members : List ℤ). length members ≡ 8) (columns_from 3 8 there) fault
    → IfErr r (IsUnread slip_cells IsReadableSlip there)
unread_slip_members there r fault handed unread =
    unread_part slip_cells IsReadableSlip there (columns_from 3 8) (map Int) (λ members. length members ≡ 8) (λ x. x.operation.members) r fault handed unread (λ x can. (sym (all_eight x.operation.members can.members), can.members))

-- eight members are determined by their cells
pub same_eight : (xs ys : List ℤ) → length xs ≡ 8 → length ys ≡ 8 → eight_cells xs ≡ eight_cells ys → xs ≡ ys
same_eight (a ∷ b ∷ c ∷ d ∷ e ∷ f ∷ g ∷ h ∷ []) (i ∷ j ∷ k ∷ l ∷ m ∷ n ∷ o ∷ p ∷ []) all others same = cc
same_eight xs ys all others same = absurd (omega (arith, all, others))

pub release_members : (row : Row) (members : List ℤ) (r : Release) → columns_from 6 8 row ≡ map Int members → length members ≡ 8 → ReleaseFits r → row ≡ release_cells r → members ≡ r.operation.members
release_members row members r stated eight fit is = same_eight members r.operation.members eight fit.members (sym (all_eight members eight) ∙ sym stated ∙ ap (columns_from 6 8) is)

pub slip_members : (row : Row) (members : List ℤ) (s : SlipRow) → columns_from 3 8 row ≡ map Int members → length members ≡ 8 → SlipFits s → row ≡ slip_cells s → members ≡ s.operation.members
slip_members row members s stated eight fit is = same_eight members s.operation.members eight fit.members (sym (all_eight members eight) ∙ sym stated ∙ ap (columns_from 3 8) is)
