-- A release: the ranges of its members, and its numbers in the order in which its form names them.
use Rattle.std.specs.Prelude.{ℤ, pos, List, ◌∷◌}
use Rattle.bank_terms.specs.Limits.{max_user}
use Rattle.counter_ops.specs.declared.release.Release.{Release}
use Rattle.bank_terms.specs.Procedure.{number_of}
use Rattle.counter_ops.specs.Op.{procedure_of}
use Rattle.row_members.specs.Ranges.{IsWithin}
use Rattle.counter_ops.specs.Releasable.{IsReleasable, releasable_numbers, op_of}

pub record IsRelease (release : Release) : Type 0 where
  pub beneficiary : IsWithin 1 max_user release.beneficiary
  pub operation : IsReleasable release.operation

-- whom it is for, then the procedure and the numbers of the operation that it is for
abbrev pub release_numbers : Release → List ℤ
release_numbers release =
    pos release.beneficiary
    ∷ pos (number_of (procedure_of (op_of release.operation)))
    ∷ releasable_numbers release.operation
