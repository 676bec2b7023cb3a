-- Procedures and their numbers, 1 to 13: each number is that of one procedure.
use Rattle.std.proofs.Common.{◌≡◌, ℕ, ◌==◌, ◌^◌, ◌<◌, ◌≤◌, ◌∷◌, true, get_or, refl, ap, sym, ◌∙◌, arith}
use Rattle.std.specs.List.{list_any}
use Rattle.bank_terms.specs.Procedure.{number_of, procedures}
use Rattle.bank_terms.specs.declared.procedure.Procedure.{Procedure}
use Rattle.bank_terms.specs.declared.procedure.Procedure.TheVariants as procedure
use Rattle.bank_terms.specs.contracts.procedure.ProcedurePartialEq.TheImpl as test

-- the procedure of a number, and a post of any other number
abbrev pub procedure_with : ℕ → Procedure
procedure_with number = get_or (procedure.Post ∷ procedures) number procedure.Post

pub of_its_number : (p : Procedure) → procedure_with (number_of p) ≡ p
of_its_number procedure.Post = refl
of_its_number procedure.Transfer = refl
of_its_number procedure.Correct = refl
of_its_number procedure.DrawerOn = refl
of_its_number procedure.DrawerOff = refl
of_its_number procedure.MoveCash = refl
of_its_number procedure.NewAccount = refl
of_its_number procedure.Release = refl
of_its_number procedure.Balance = refl
of_its_number procedure.Statement = refl
of_its_number procedure.Accounts = refl
of_its_number procedure.Proof = refl
of_its_number procedure.CloseDay = refl

pub one_procedure : (p q : Procedure) → number_of p ≡ number_of q → p ≡ q
one_procedure p q same = sym (of_its_number p) ∙ ap procedure_with same ∙ of_its_number q

pub at_most_thirteen : (p : Procedure) → number_of p ≤ 13
at_most_thirteen procedure.Post = omega arith
at_most_thirteen procedure.Transfer = omega arith
at_most_thirteen procedure.Correct = omega arith
at_most_thirteen procedure.DrawerOn = omega arith
at_most_thirteen procedure.DrawerOff = omega arith
at_most_thirteen procedure.MoveCash = omega arith
at_most_thirteen procedure.NewAccount = omega arith
at_most_thirteen procedure.Release = omega arith
at_most_thirteen procedure.Balance = omega arith
at_most_thirteen procedure.Statement = omega arith
at_most_thirteen procedure.Accounts = omega arith
at_most_thirteen procedure.Proof = omega arith
at_most_thirteen procedure.CloseDay = omega arith

pub below_fourteen : (p : Procedure) → number_of p < 14
below_fourteen p = omega (arith, at_most_thirteen p)

pub small_number : (p : Procedure) → number_of p < 2 ^ 32
small_number p = omega (arith, at_most_thirteen p)

-- the number of a procedure is that of one of all
pub among_all : (p : Procedure) → list_any (λ q. number_of p == number_of q) procedures ≡ true
among_all procedure.Post = refl
among_all procedure.Transfer = refl
among_all procedure.Correct = refl
among_all procedure.DrawerOn = refl
among_all procedure.DrawerOff = refl
among_all procedure.MoveCash = refl
among_all procedure.NewAccount = refl
among_all procedure.Release = refl
among_all procedure.Balance = refl
among_all procedure.Statement = refl
among_all procedure.Accounts = refl
among_all procedure.Proof = refl
among_all procedure.CloseDay = refl

-- the derived test `==` compares numbers
pub equal_by_number : (p q : Procedure) → test.eq-value.it p q ≡ (number_of p == number_of q)
equal_by_number procedure.Post procedure.Post = refl
equal_by_number procedure.Transfer procedure.Transfer = refl
equal_by_number procedure.Correct procedure.Correct = refl
equal_by_number procedure.DrawerOn procedure.DrawerOn = refl
equal_by_number procedure.DrawerOff procedure.DrawerOff = refl
equal_by_number procedure.MoveCash procedure.MoveCash = refl
equal_by_number procedure.NewAccount procedure.NewAccount = refl
equal_by_number procedure.Release procedure.Release = refl
equal_by_number procedure.Balance procedure.Balance = refl
equal_by_number procedure.Statement procedure.Statement = refl
equal_by_number procedure.Accounts procedure.Accounts = refl
equal_by_number procedure.Proof procedure.Proof = refl
equal_by_number procedure.CloseDay procedure.CloseDay = refl
equal_by_number p q = refl
