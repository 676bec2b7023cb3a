-- A release that a request names: what it is judged by, and whether it is valid. It is another user's authorization of
-- one exact operation on one day of a branch.
use Rattle.std.specs.Prelude.{ℕ, ◌==◌, ◌&&◌, Bool, false, not, List, Option, option_map}
use Rattle.std.specs.Cmp.Lexicographic.{pointwise}
use Rattle.std.specs.Option.{option_map_or}
use Rattle.std.specs.Ordering.{int_eq}
use Rattle.bank_policy.specs.HeldRows.{HeldTriple, standing, triples_of}
use Rattle.bank_policy.specs.Tests.{current, is_held_for}
use Rattle.bank_policy.specs.declared.rows.Standing.{Standing}
use Rattle.bank_terms.specs.Procedure.{number_of}
use Rattle.bank_terms.specs.declared.item.Cdi.{Cdi}
use Rattle.bank_terms.specs.declared.operation_row.OperationRow.{OperationRow}
use Rattle.bank_terms.specs.declared.procedure.Procedure.TheVariants as procedure
use Rattle.bank_books.specs.Records.{branch_record}
use Rattle.bank_books.specs.WorldLists.{WorldLists}
use Rattle.bank_books.specs.declared.rows.Release.{Release}
use Rattle.world_reads.specs.BookReads.{release}

-- all that a release is judged by, where it is there
pub record ReleaseGrounds : Type 0 where
  pub row : Release
  -- the present day of its branch
  pub today : Option ℕ
  -- what the giver's row says of whether they may, and those of their triples for releases that are valid at the moment
  pub giver : Option Standing
  pub held : List HeldTriple

abbrev pub release_grounds_of : WorldLists → ℕ → Release → ReleaseGrounds
release_grounds_of w moment row = record {
  row = row;
  today = option_map (λ b. b.row.day) (branch_record w row.branch);
  giver = standing w.policy row.giver;
  held = current moment (triples_of w.policy row.giver procedure.Release);
}

-- by its user and its number, at a moment
abbrev pub release_grounds : WorldLists → ℕ → ℕ → ℕ → Option ReleaseGrounds
release_grounds w user number moment = option_map (release_grounds_of w moment) (release w user number)

-- the same operation: of one form, and with the same members
abbrev pub is_same_operation : OperationRow → OperationRow → Bool
is_same_operation row other = number_of row.form == number_of other.form && pointwise int_eq row.members other.members

-- the user is there and is not suspended; no session is looked at
abbrev pub is_active : Option Standing → Bool
is_active row = option_map_or (λ s. not s.suspended) row false

-- it bears the present day of its branch
abbrev pub is_of_today : ReleaseGrounds → Bool
is_of_today g = option_map_or (λ day. g.row.day == day) g.today false

-- who gave it is another than this user, may ask, and holds some one triple for releases that has all the items, up to the amount
abbrev pub is_giver_for : ReleaseGrounds → ℕ → List Cdi → ℕ → Bool
is_giver_for g user items amount = not (g.row.giver == user) && (is_active g.giver && is_held_for g.held items amount)

-- The release is valid for the operation of this row, of this user, with these items and this amount: it is unused,
-- names exactly that operation, is of the present day, and who gave it could give it now.
abbrev pub counts : ReleaseGrounds → ℕ → OperationRow → List Cdi → ℕ → Bool
counts g user operation items amount = not g.row.used && (is_same_operation g.row.operation operation && (is_of_today g && is_giver_for g user items amount))
