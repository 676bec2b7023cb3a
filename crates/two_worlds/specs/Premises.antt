-- That what the laws on two Worlds suppose is met by what it is named for, and that they except no more than they name.
use Rattle.std.specs.Prelude.{ℕ, ◌≡◌, ◌≢◌, ◌+◌, Contains, true, false, Some, [], ◌∷◌}
use Rattle.std.specs.List.{filter}
use Rattle.bank_policy.specs.HeldRows.{user_row}
use Rattle.bank_policy.specs.declared.rows.Triple.{Triple}
use Rattle.bank_terms.specs.declared.procedure.Procedure.TheVariants as procedure
use Rattle.bank_terms.specs.declared.rule.Rule.TheVariants as rule
use Rattle.bank_books.specs.WorldLists.{WorldLists}
use Rattle.bank_books.specs.declared.rows.Account.{Account}
use Rattle.bank_books.specs.declared.rows.Release.{Release}
use Rattle.counter_ops.specs.Op.{procedure_of}
use Rattle.counter_ops.specs.Touched.{account_item, branch_item, touched}
use Rattle.counter_ops.specs.declared.op.Op.{Op}
use Rattle.counter_ops.specs.declared.op.Op.TheVariants as op
use Rattle.counter_ops.specs.declared.release.Release.{Release as Given}
use Rattle.world_reads.specs.BookReads.{accounts_triples, is_account_of, release}
use Rattle.bank_meaning.specs.PolicyRules.{asker}
use Rattle.bank_meaning.specs.Requests.{ends_session, executes, opens_session, rules}
use Rattle.bank_meaning.specs.Sums.{IsProper}
use Rattle.bank_meaning.specs.declared.execution.Execution.{Execution}
use Rattle.bank_meaning.specs.declared.request.Asked.{Asked}
use Rattle.bank_meaning.specs.declared.request.Asked.TheVariants as asked
use Rattle.bank_meaning.specs.declared.who.Who.{Who}
use Rattle.two_worlds.specs.Agree.{Agree, AgreeOnPolicy, AgreeOnSlip, releases_given}
use Rattle.two_worlds.specs.Along.{IsAgreed, IsOutside}
use Rattle.two_worlds.specs.Laws.{IsOtherRelease, is_blind, is_operation}
use Rattle.two_worlds.specs.Local.{HasNoPart, IsElsewhere, IsOtherTriple}

-- the next release of a user for whom the operation gives one
abbrev pub IsNextGiven : WorldLists → Op → ℕ → Type 0
IsNextGiven w o number = (form : Given) × (given : ℕ) × (o ≡ op.Release form) × (releases_given w form.beneficiary ≡ Some given) × (number ≡ given + 1)

-- Another release is each of a user who neither asks nor is given one; and each of whatever user that has another number than the one that is named and the next one
-- given.
pub record AreReleasesCovered : Type 0 where
  pub of_another : (w : WorldLists) (x : Execution) (user number : ℕ) → user ≢ asker x.who → ((form : Given) → x.op ≡ op.Release form → user ≢ form.beneficiary)
      → IsOtherRelease w x user number
  pub of_number : (w : WorldLists) (x : Execution) (user number : ℕ) → number ≢ x.who.release → ¬ IsNextGiven w x.op number → IsOtherRelease w x user number

-- of what looks at no item, or changes none
pub record AreItemsCovered : Type 0 where
  -- the rules that look at no item are the first five
  pub blind : filter is_blind rules ≡ rule.Identity ∷ rule.Slip ∷ rule.NotCertified ∷ rule.NoTriple ∷ rule.Limit ∷ []
  -- sessions, commands and the listing are no operations
  pub no_operation : (a : Asked) → is_operation a ≡ true → (o : Op) × (a ≡ asked.Operation o)

-- of rows that have no part in an operation
pub record AreRowsCovered : Type 0 where
  pub account : (w : WorldLists) (x : Execution) (a : Account) → ¬ Contains (touched x.op) (account_item a.account) → ¬ Contains (touched x.op) (branch_item a.home)
      → is_account_of (accounts_triples w (asker x.who) x.moment) a.account ≡ false → IsElsewhere w x a
  -- where no release is named, each user but the one who asks and the one for whom a release is
  pub user : (w : WorldLists) (x : Execution) (user : ℕ) → user ≢ asker x.who → ((r : Release) → release w (asker x.who) x.who.release ≡ Some r → user ≢ r.giver)
      → ((form : Given) → x.op ≡ op.Release form → user ≢ form.beneficiary) → HasNoPart w x user
  -- each triple for another procedure, but for releases; and each of a user who neither asks nor gave the release
  pub other_procedure : (w : WorldLists) (x : Execution) (t : Triple) → t.procedure ≢ procedure_of x.op → t.procedure ≢ procedure.Release → IsOtherTriple w x t
  pub other_user : (w : WorldLists) (x : Execution) (t : Triple) → HasNoPart w x t.user → IsOtherTriple w x t

-- Two Worlds agree on a request of a user where they agree for its operation, or on the policy and the slip where it is outside; of a session by the row of its user.
pub record AreRequestsCovered : Type 0 where
  pub operation : (w v : WorldLists) (x : Execution) → IsProper (executes x) → Agree w v x → IsAgreed w v (asker x.who) (executes x)
  pub outside : (w v : WorldLists) (x : Execution) → IsProper (executes x) → AgreeOnPolicy w v x → AgreeOnSlip w v x → IsOutside w x → IsAgreed w v (asker x.who) (executes x)
  pub opening : (w v : WorldLists) (user : ℕ) → user_row w.policy user ≡ user_row v.policy user → IsAgreed w v user (opens_session (Some user))
  pub ending : (w v : WorldLists) (who : Who) → IsProper (ends_session who) → user_row w.policy (asker who) ≡ user_row v.policy (asker who)
      → IsAgreed w v (asker who) (ends_session who)

abbrev pub PremisesAreMet : Type 0
PremisesAreMet = AreReleasesCovered × AreItemsCovered × AreRowsCovered × AreRequestsCovered
