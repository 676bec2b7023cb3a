-- The least branch of which a condition fails: two conditions at once, and another wording.
use Rattle.std.proofs.Common.{◌≡◌, ℕ, min, Option, Some, None, arith, sym, subst, inl, inr}
use Rattle.std.proofs.lemmas.Bool.{cases_lt}
use Rattle.book_check.specs.Least.{IsFirstFailing, IsLeastFailing, lesser_of}

-- the least branch of which one of two conditions fails
pub both : (first second : ℕ → Type 0) (one other : Option ℕ) → IsFirstFailing first one → IsFirstFailing second other →
    IsFirstFailing (λ b. first b × second b) (lesser_of one other)
both first second None None holds_one holds_other = λ b. (holds_one b, holds_other b)
both first second None (Some other) holds_one fails_other = record {
  fails = λ all. fails_other.fails all.1;
  least = λ b lower. (holds_one b, fails_other.least b lower);
}
both first second (Some one) None fails_one holds_other = record {
  fails = λ all. fails_one.fails all.0;
  least = λ b lower. (fails_one.least b lower, holds_other b);
}
both first second (Some one) (Some other) fails_one fails_other = elim (cases_lt other one) [
  | inl lower ↦
      let is_other : min one other ≡ other = omega arith in
      let P : ℕ → Type 0 = λ m. IsLeastFailing (λ b. first b × second b) m in
      subst P (sym is_other) (record {
        fails = λ all. fails_other.fails all.1;
        least = λ b less. (fails_one.least b (omega arith), fails_other.least b less);
      })
  | inr higher ↦
      let is_one : min one other ≡ one = omega arith in
      let P : ℕ → Type 0 = λ m. IsLeastFailing (λ b. first b × second b) m in
      subst P (sym is_one) (record {
        fails = λ all. fails_one.fails all.0;
        least = λ b less. (fails_one.least b less, fails_other.least b (omega arith));
      })
]

-- the same of a condition that is equivalent
pub reworded : (first second : ℕ → Type 0) (least : Option ℕ) → ((b : ℕ) → first b → second b) → ((b : ℕ) → second b → first b) →
    IsFirstFailing first least → IsFirstFailing second least
reworded first second None there back holds = λ b. there b (holds b)
reworded first second (Some least) there back fails = record {
  fails = λ all. fails.fails (back least all);
  least = λ other lower. there other (fails.least other lower);
}
