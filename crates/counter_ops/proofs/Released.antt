-- The places of a release: after the first two stand those of the operation that it is for.
use Rattle.std.proofs.Common.{◌≡◌, [], ◌∷◌, ℤ, pos}
use Rattle.bank_terms.specs.Procedure.{number_of}
use Rattle.bank_terms.specs.declared.procedure.Procedure.{Procedure}
use Rattle.counter_ops.specs.Op.{procedure_of}
use Rattle.row_members.specs.Places.{places}
use Rattle.counter_ops.specs.Rows.{op_numbers}
use Rattle.counter_ops.specs.Releasable.{op_of, releasable_numbers}
use Rattle.counter_ops.specs.declared.releasable.Releasable.{Releasable}
use Rattle.counter_ops.specs.declared.releasable.Releasable.TheVariants as releasable

pub release_stands : (o : Releasable) (user form : ℤ) (p : Procedure) (a b c d e f : ℤ) → pos (number_of p) ≡ form → procedure_of (op_of o) ≡ p → places (op_numbers (op_of o)) ≡ a ∷ b ∷ c ∷ d ∷ e ∷ f ∷ pos 0 ∷ pos 0 ∷ [] → places (user ∷ pos (number_of (procedure_of (op_of o))) ∷ releasable_numbers o) ≡ user ∷ form ∷ a ∷ b ∷ c ∷ d ∷ e ∷ f ∷ []
release_stands (releasable.Post _) user form p a b c d e f is_form is_p is = cc
release_stands (releasable.Transfer _) user form p a b c d e f is_form is_p is = cc
release_stands (releasable.Correct _) user form p a b c d e f is_form is_p is = cc
release_stands (releasable.DrawerOn _) user form p a b c d e f is_form is_p is = cc
release_stands (releasable.MoveCash _) user form p a b c d e f is_form is_p is = cc
