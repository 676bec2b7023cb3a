-- A stream that was served by a counter, by the parts that it was made of.
use Rattle.std.proofs.Common.{◌≡◌, ℕ, List, Option, Result, subst, sym}
use Rattle.store_rows.specs.Status.{Status}
use Rattle.counter_api.specs.Exit.{IsServed}
use Rattle.http_messages.specs.declared.serving.ServeFault.{ServeFault}
use Rattle.http_messages.specs.declared.serving.Served.{Served}

module _ {S C : Type 0} (status : S → Status) (may_give : C → ℕ → C → Type 0) (most : ℕ) (left_old written_old left_new written_new : Option (List ℕ)) where
  pub by_parts : (known users : List ℕ → Option ℕ) (begun opened ended left : S) (began standing to : C) (result : Result Served ServeFault)
      → known ≡ users → begun ≡ opened → began ≡ standing → left ≡ ended
      → IsServed status known may_give most (record { left = left_old; written = written_old; store = begun; clock = began })
      (record { left = left_new; written = written_new; store = ended; clock = to }) result
      → IsServed status users may_give most (record { left = left_old; written = written_old; store = opened; clock = standing })
      (record { left = left_new; written = written_new; store = left; clock = to }) result
  by_parts known users begun opened ended left began standing to result same over stands is_left is =
      subst (λ s. IsServed status users may_give most (record { left = left_old; written = written_old; store = opened; clock = standing })
      (record { left = left_new; written = written_new; store = s; clock = to }) result) (sym is_left)
      (subst (λ c. IsServed status users may_give most (record { left = left_old; written = written_old; store = opened; clock = c })
      (record { left = left_new; written = written_new; store = ended; clock = to }) result) stands
      (subst (λ s. IsServed status users may_give most (record { left = left_old; written = written_old; store = s; clock = began })
      (record { left = left_new; written = written_new; store = ended; clock = to }) result) over
      (subst (λ known. IsServed status known may_give most (record { left = left_old; written = written_old; store = begun; clock = began })
      (record { left = left_new; written = written_new; store = ended; clock = to }) result) same is)))
