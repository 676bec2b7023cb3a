-- Rules that deny at both banks or at neither, and what the forms have in common to show it.
use Rattle.std.proofs.Common.{◌≡◌, ◌==◌, ◌||◌, ◌&&◌, ◌∙◌, ℕ, ℤ, Bool, true, false, List, [], ◌∷◌, refl, ap, ap₂}
use Rattle.std.specs.Prelude.{if◌then◌else◌, is_none, option_map, ⊤}
use Rattle.std.proofs.lemmas.Bool.{eqb-true}
use Rattle.bank_terms.specs.Rule.{number_of}
use Rattle.bank_terms.specs.declared.rule.Rule.{Rule}
use Rattle.bank_terms.specs.declared.rule.Rule.TheVariants as rule
use Rattle.bank_books.specs.Records.{account_record, branch_record, teller_record}
use Rattle.bank_books.specs.WorldLists.{WorldLists}
use Rattle.rule_tests.specs.BranchParts.{cash_book_of, ledger_of}
use Rattle.rule_tests.specs.Denial.{is_denial}
use Rattle.rule_tests.specs.Rules.{account_keeps_floor, drawer_is_held_by, teller_is_of}
use Rattle.year_laws.specs.GoesOn.{GoesOn, IsSameAccount, IsSameBranch, IsSameTeller, Turn}
use Rattle.year_laws.specs.JudgedAlike.{begins_anew}
use Rattle.year_laws.proofs.AlikeRows.{held_by_same, keeps_floor_same, none_mapped, none_same, teller_is_of_same, vault_same}

-- the same rules, each of which denies in both or in neither, but for those that begin anew
abbrev pub AreTestsAlike : List (Rule × Bool) → List (Rule × Bool) → Type 0
AreTestsAlike [] [] = ⊤
AreTestsAlike ((r, a) ∷ olds) ((s, b) ∷ news) = (r ≡ s) × (begins_anew r ≡ false → a ≡ b) × AreTestsAlike olds news
AreTestsAlike _ _ = ⊥

chosen : (c a b x y : Bool) → (c ≡ true → a ≡ b) → x ≡ y → (if c then a else x) ≡ (if c then b else y)
chosen true a b x y same rest = same refl
chosen false a b x y same rest = rest

pub same_denial : (r : Rule) → begins_anew r ≡ false → (olds news : List (Rule × Bool)) → AreTestsAlike olds news → is_denial r olds ≡ is_denial r news
same_denial r not_anew [] [] same = refl
same_denial r not_anew ((s, a) ∷ olds) ((u, b) ∷ news) same =
    chosen (number_of s == number_of r) a b (is_denial r olds) (is_denial r news)
    (λ is. same.1 (ap (λ n. (n == number_of rule.Range) || (n == number_of rule.Full)) (eqb-true (number_of s) (number_of r) is) ∙ not_anew))
    (same_denial r not_anew olds news same.2)
    ∙ ap (λ z. if number_of z == number_of r then b else is_denial r news) same.0
same_denial r not_anew [] (b ∷ news) same = absurd same
same_denial r not_anew (a ∷ olds) [] same = absurd same

-- nothing is said of a rule that begins anew
pub anew : (a b : Bool) → true ≡ false → a ≡ b
anew a b z = cc

pub either : {a b c d : Bool} → a ≡ b → c ≡ d → (a || c) ≡ (b || d)
either first second = ap₂ (λ p q. p || q) first second

pub both : {a b c d : Bool} → a ≡ b → c ≡ d → (a && c) ≡ (b && d)
both first second = ap₂ (λ p q. p && q) first second

module _ {t : Turn} {old new : WorldLists} (on : GoesOn t old new) where
  pub no_ledger : (key : ℕ) → is_none (option_map ledger_of (branch_record old key)) ≡ is_none (option_map ledger_of (branch_record new key))
  no_ledger key = none_mapped (IsSameBranch (t.entries key)) ledger_of (branch_record old key) (branch_record new key) (on.branches key)

  pub no_book : (key : ℕ) → is_none (option_map cash_book_of (branch_record old key)) ≡ is_none (option_map cash_book_of (branch_record new key))
  no_book key = none_mapped (IsSameBranch (t.entries key)) cash_book_of (branch_record old key) (branch_record new key) (on.branches key)

  pub no_account : (key : ℕ) → is_none (account_record old key) ≡ is_none (account_record new key)
  no_account key = none_same (IsSameAccount (t.turns key)) (account_record old key) (account_record new key) (on.accounts key)

  pub no_teller : (key : ℕ) → is_none (teller_record old key) ≡ is_none (teller_record new key)
  no_teller key = none_same IsSameTeller (teller_record old key) (teller_record new key) (on.tellers key)

  pub vaults : (key : ℕ) → option_map (λ b. b.vault) (branch_record old key) ≡ option_map (λ b. b.vault) (branch_record new key)
  vaults key = vault_same (t.entries key) (branch_record old key) (branch_record new key) (on.branches key)

  pub floors : (key : ℕ) (added : ℤ) → account_keeps_floor (account_record old key) added ≡ account_keeps_floor (account_record new key) added
  floors key added = keeps_floor_same (t.turns key) (account_record old key) (account_record new key) (on.accounts key) added

  pub of_branch : (key branch : ℕ) → teller_is_of (teller_record old key) branch ≡ teller_is_of (teller_record new key) branch
  of_branch key branch = teller_is_of_same (teller_record old key) (teller_record new key) (on.tellers key) branch

  pub held_by : (key user : ℕ) → drawer_is_held_by (teller_record old key) user ≡ drawer_is_held_by (teller_record new key) user
  held_by key user = held_by_same (teller_record old key) (teller_record new key) (on.tellers key) user

  -- of a drawer that is put on or off
  pub no_drawer : (teller branch : ℕ)
      → (is_none (teller_record old teller) || is_none (option_map cash_book_of (branch_record old branch)) || is_none (option_map (λ b. b.vault) (branch_record old branch)))
      ≡ (is_none (teller_record new teller) || is_none (option_map cash_book_of (branch_record new branch)) || is_none (option_map (λ b. b.vault) (branch_record new branch)))
  no_drawer teller branch = either (either (no_teller teller) (no_book branch)) (ap is_none (vaults branch))
