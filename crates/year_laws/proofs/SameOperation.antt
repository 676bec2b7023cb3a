-- Two operations are the same by their rows at both banks or at neither, and what is replied alike to one of them is so
-- to the other.
use Rattle.std.proofs.Common.{◌≡◌, ◌==◌, ◌&&◌, ◌+◌, ◌∙◌, ℕ, ℤ, pos, List, [], ◌∷◌, Bool, true, false, int_eq, refl, ap, arith, sym, subst}
use Rattle.std.specs.Prelude.{unsigned_abs}
use Rattle.std.proofs.lemmas.Bool.{true≢false}
use Rattle.std.proofs.lemmas.Int.{ints}
use Rattle.bank_terms.specs.Procedure.{number_of}
use Rattle.bank_terms.specs.declared.operation_row.OperationRow.{OperationRow}
use Rattle.bank_terms.specs.declared.procedure.Procedure.TheVariants as procedure
use Rattle.counter_ops.specs.Rows.{row_of}
use Rattle.counter_ops.specs.declared.correct.Correct.{Correct}
use Rattle.counter_ops.specs.declared.op.Op.{Op}
use Rattle.counter_ops.specs.declared.op.Op.TheVariants as op
use Rattle.counter_ops.specs.declared.releasable.Releasable.{Releasable}
use Rattle.counter_ops.specs.declared.releasable.Releasable.TheVariants as form
use Rattle.counter_ops.specs.declared.release.Release.{Release}
use Rattle.counter_ops.specs.declared.statement.Statement.{Statement}
use Rattle.bank_meaning.specs.Meaning.{ReplyText, json}
use Rattle.bank_meaning.specs.NamedRelease.{is_same_operation}
use Rattle.year_laws.specs.GoesOn.{Turn, correct_at_old, op_at_old, releasable_at_old}
use Rattle.year_laws.specs.RepliedAlike.{IsRepliedAlike}
use Rattle.year_laws.proofs.YearForms.{year_of}

-- ---- numbers

int_is : (a b : ℕ) → int_eq (pos a) (pos b) ≡ true → a ≡ b
int_is a b e = grind (arith, ints)

int_is_not : (a b : ℕ) → int_eq (pos a) (pos b) ≡ false → a ≡ b → ⊥
int_is_not a b e same = absurd (grind (arith, ints))

int_same : (a b : ℕ) → a ≡ b → int_eq (pos a) (pos b) ≡ true
int_same a b same = grind (arith, ints)

int_apart : (a b : ℕ) → (a ≡ b → ⊥) → int_eq (pos a) (pos b) ≡ false
int_apart a b apart = grind (arith, ints)

less : (a b n : ℕ) → (a ≡ b → ⊥) → a + n ≡ b + n → ⊥
less a b n apart same = apart (omega (arith, same))

moved_ints : (a b n : ℕ) → int_eq (pos (a + n)) (pos (b + n)) ≡ int_eq (pos a) (pos b)
moved_ints a b n = go (int_eq (pos a) (pos b)) refl
  where
    go : (c : Bool) → int_eq (pos a) (pos b) ≡ c → int_eq (pos (a + n)) (pos (b + n)) ≡ c
    go true is = int_same (a + n) (b + n) (ap (λ k. k + n) (int_is a b is))
    go false is = int_apart (a + n) (b + n) (less a b n (int_is_not a b is))

none_of_both : (a x y : Bool) → a ≡ false → (a && x) ≡ (a && y)
none_of_both true x y none = absurd cc
none_of_both false x y none = refl

-- ---- the row of an operation

-- of a form that names no entry
other_form : (t : Turn) (row : OperationRow) → (number_of row.form == number_of procedure.Correct) ≡ false → (number_of row.form == number_of procedure.Release) ≡ false
    → (number_of row.form == number_of procedure.Statement) ≡ false → (x : Op) → is_same_operation row (row_of (op_at_old t x)) ≡ is_same_operation row (row_of x)
other_form t row c r s (op.Correct f) = none_of_both _ _ _ c
other_form t row c r s (op.Release f) = none_of_both _ _ _ r
other_form t row c r s (op.Statement f) = none_of_both _ _ _ s
other_form t row c r s x = refl

-- two corrections name the same entry of one branch at both banks or at neither
both_correct : (t : Turn) (c d : Correct) (b rest : Bool) → int_eq (pos c.branch) (pos d.branch) ≡ b
    → (b && (int_eq (pos (c.entry + t.entries c.branch)) (pos (d.entry + t.entries d.branch)) && rest)) ≡ (b && (int_eq (pos c.entry) (pos d.entry) && rest))
both_correct t c d true rest is =
    ap (λ e. e && rest) (ap (λ n. int_eq (pos (c.entry + t.entries c.branch)) (pos (d.entry + n))) (ap (λ k. t.entries k) (sym (int_is c.branch d.branch is))) ∙ moved_ints c.entry d.entry (t.entries c.branch))
both_correct t c d false rest is = refl

correct_form : (t : Turn) (c : Correct) (x : Op) → is_same_operation (row_of (op.Correct (correct_at_old t c))) (row_of (op_at_old t x)) ≡ is_same_operation (row_of (op.Correct c)) (row_of x)
correct_form t c (op.Correct d) = both_correct t c d _ _ refl
correct_form t c x = refl

both_released : (t : Turn) (a b : ℕ) (o p : Releasable)
    → is_same_operation (row_of (op.Release (record { beneficiary = a; operation = releasable_at_old t o }))) (row_of (op.Release (record { beneficiary = b; operation = releasable_at_old t p })))
    ≡ is_same_operation (row_of (op.Release (record { beneficiary = a; operation = o }))) (row_of (op.Release (record { beneficiary = b; operation = p })))
both_released t a b (form.Correct c) (form.Correct d) = ap (λ z. int_eq (pos a) (pos b) && z) (both_correct t c d _ _ refl)
both_released t a b o (form.Correct d) = refl
both_released t a b o p = refl

release_form : (t : Turn) (r : Release) (x : Op) → is_same_operation (row_of (op_at_old t (op.Release r))) (row_of (op_at_old t x)) ≡ is_same_operation (row_of (op.Release r)) (row_of x)
release_form t r (op.Release s) = both_released t r.beneficiary s.beneficiary r.operation s.operation
release_form t r x = refl

both_stated : (t : Turn) (c d : Statement) (b rest : Bool) → int_eq (pos c.account) (pos d.account) ≡ b
    → (b && (int_eq (pos (c.start + t.turns c.account)) (pos (d.start + t.turns d.account)) && rest)) ≡ (b && (int_eq (pos c.start) (pos d.start) && rest))
both_stated t c d true rest is =
    ap (λ e. e && rest) (ap (λ n. int_eq (pos (c.start + t.turns c.account)) (pos (d.start + n))) (ap (λ k. t.turns k) (sym (int_is c.account d.account is))) ∙ moved_ints c.start d.start (t.turns c.account))
both_stated t c d false rest is = refl

statement_form : (t : Turn) (c : Statement) (x : Op) → is_same_operation (row_of (op_at_old t (op.Statement c))) (row_of (op_at_old t x)) ≡ is_same_operation (row_of (op.Statement c)) (row_of x)
statement_form t c (op.Statement d) = both_stated t c d _ _ refl
statement_form t c x = refl

-- Both are one operation at both banks or at neither.
pub same_operation : (t : Turn) (y x : Op) → is_same_operation (row_of (op_at_old t y)) (row_of (op_at_old t x)) ≡ is_same_operation (row_of y) (row_of x)
same_operation t (op.Correct c) x = correct_form t c x
same_operation t (op.Release r) x = release_form t r x
same_operation t (op.Statement c) x = statement_form t c x
same_operation t y x = other_form t (row_of y) refl refl refl x

-- ---- what is replied

-- the number that a row begins with
first_number : OperationRow → ℕ
first_number row = of_list row.members
  where
    of_list : List ℤ → ℕ
    of_list [] = 0
    of_list (z ∷ zs) = unsigned_abs z

-- what is replied alike to an operation is so to one of the same row
pub replied_too : (t : Turn) (y x : Op) (a b : ReplyText) → row_of y ≡ row_of x → IsRepliedAlike t y a b → IsRepliedAlike t x a b
unfolding first_number
replied_too t (op.Post f) (op.Post g) a b same replied = replied
replied_too t (op.Transfer f) (op.Transfer g) a b same replied = replied
replied_too t (op.Correct f) (op.Correct g) a b same replied = replied
replied_too t (op.DrawerOn f) (op.DrawerOn g) a b same replied = replied
replied_too t (op.DrawerOff f) (op.DrawerOff g) a b same replied = replied
replied_too t (op.MoveCash f) (op.MoveCash g) a b same replied = replied
replied_too t (op.NewAccount f) (op.NewAccount g) a b same replied = replied
replied_too t (op.Release f) (op.Release g) a b same replied = replied
replied_too t (op.Balance f) (op.Balance g) a b same replied = replied
replied_too t (op.Statement f) (op.Statement g) a b same replied = replied
replied_too t (op.Accounts f) (op.Accounts g) a b same replied = replied
replied_too t (op.Proof f) (op.Proof g) a b same replied = replied
replied_too t (op.CloseDay f) (op.CloseDay g) a b same replied =
    let branch : f.branch ≡ g.branch = ap first_number same in
    subst (λ k. IsRepliedAlike t (op.CloseDay (record { branch = k })) a b) branch replied
replied_too t y x a b same replied =
    let clash : true ≡ false = ap (λ (row : OperationRow). number_of row.form == number_of (row_of y).form) same in
    absurd (true≢false clash)

-- and so is what is kept of both replies
pub kept_too : (t : Turn) (x : Op) (a b : ReplyText) → IsRepliedAlike t x a b → IsRepliedAlike t x (json a.bytes) (json b.bytes)
kept_too t x a b replied = (year_of x).kept t a b replied
