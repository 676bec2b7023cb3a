-- What was counted says what was answered.
use Rattle.std.proofs.Common.{◌≡◌, Bool, false, Result, Ok, Err, Option, None, IfErr, IfOk, IsErr, IsTrue, OnErr, OnOk, subst, sym}
use Rattle.bank_books.specs.WorldLists.{WorldLists}
use Rattle.money.specs.declared.fault.Fault.{Fault}
use Rattle.store_rows.specs.Status.{after_mark, mark_of}

-- an answer comes as it is, and a fault as a fault
pub record IsCounted {A : Type 0} (answer counted : Result A Fault) : Type 0 where
  pub ok : IfOk answer (λ it. counted ≡ Ok it)
  pub err : IfErr answer (λ fault. IsErr counted)

no_err : {A X : Type 0} (it : A) → IsErr {T = A} {E = Fault} (Ok it) → X
no_err it is = absurd cc

pub answered : {A : Type 0} (answer counted : Result A Fault) (P : A → Type 0) → IsCounted answer counted → IfOk answer P → IfOk counted P
answered (Ok it) counted P is says = subst (λ r. IfOk r P) (sym is.ok) says
answered (Err fault) (Err stated) P is says = tt
answered (Err fault) (Ok it) P is says = no_err it is.err

pub went_through : {A : Type 0} (answer counted : Result A Fault) (P : Type 0) → IsCounted answer counted → OnOk answer P → OnOk counted P
went_through (Ok it) counted P is says = subst (λ r. OnOk r P) (sym is.ok) says
went_through (Err fault) (Err stated) P is says = tt
went_through (Err fault) (Ok it) P is says = no_err it is.err

-- without a mark it went through
pub unmarked : {A : Type 0} (answer counted : Result A Fault) (P : Type 0) → IsCounted answer counted → ◌≡◌ {A = Option Fault} (mark_of counted) None → OnOk answer P → P
unmarked (Ok it) counted P is none says = says
unmarked (Err fault) (Err stated) P is none says = absurd cc
unmarked (Err fault) (Ok it) P is none says = no_err it is.err

-- the World after a change that went through, and the one before it after a change that did not
pub marked : {A : Type 0} (answer counted : Result A Fault) (P : WorldLists → Type 0) (after before : WorldLists) → IsCounted answer counted → OnOk answer (P after) → OnErr answer (P before) → P (after_mark (mark_of counted) after before)
marked (Ok it) counted P after before is done undone = subst (λ r. P (after_mark (mark_of r) after before)) (sym is.ok) done
marked (Err fault) (Err stated) P after before is done undone = undone
marked (Err fault) (Ok it) P after before is done undone = no_err it is.err

-- what is said where it went through, by what is known then
pub known_then : {A E : Type 0} (r : Result A E) (P Q : Type 0) → OnOk r Q → (Q → OnOk r P) → OnOk r P
known_then (Ok it) P Q now says = says now
known_then (Err fault) P Q now says = tt

pub known_of : {A E : Type 0} (r : Result A E) (P : A → Type 0) (Q : Type 0) → OnOk r Q → (Q → IfOk r P) → IfOk r P
known_of (Ok it) P Q now says = says now
known_of (Err fault) P Q now says = tt

pub known_else : {A E : Type 0} (r : Result A E) (P Q : Type 0) → Q → OnErr r (Q → P) → OnErr r P
known_else (Ok it) P Q now says = tt
known_else (Err fault) P Q now says = says now

pub not_both : {X : Type 0} (b : Bool) → b ≡ false → IsTrue b → X
not_both b isnt is = absurd cc
