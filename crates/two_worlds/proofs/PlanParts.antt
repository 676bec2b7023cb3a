-- Changes that are all among the items that an operation touches, and what forms have in common to show it.
use Rattle.std.proofs.Common.{List, None, Option, Some, [], arith, false, map, not, refl, subst, sym, true, ℕ, ◌∙◌, ◌≡◌, ◌≢◌}
use Rattle.std.specs.Option.{option_map_or}
use Rattle.std.specs.Prelude.{option_map}
use Rattle.std.proofs.lemmas.Bool.{eqb-true, not-false}
use Rattle.keyed_rows.specs.Ordered.{AreDistinct}
use Rattle.keyed_rows.proofs.Rows.{find_of_key}
use Rattle.bank_terms.specs.declared.item.Cdi.{Cdi}
use Rattle.bank_terms.specs.declared.rule.Rule.TheVariants as rule
use Rattle.bank_books.specs.Keys.{teller_key}
use Rattle.bank_books.specs.Records.{teller_record, teller_record_of}
use Rattle.bank_books.specs.WorldLists.{WorldLists}
use Rattle.bank_books.specs.declared.row_write.RowWrite.{RowWrite}
use Rattle.bank_books.specs.declared.rows.Release.{Release as ReleaseRow}
use Rattle.bank_books.specs.declared.rows.Teller.{Teller}
use Rattle.row_members.specs.Ranges.{IsKey}
use Rattle.rule_tests.specs.Rules.{teller_is_of}
use Rattle.rule_tests.proofs.RuleTests.{passed_by}
use Rattle.bank_meaning.specs.Meaning.{Meaning, by_books}
use Rattle.two_worlds.proofs.Releases.{releases_after}
use Rattle.two_worlds.proofs.Within.{AreWithin, IsOfBranch}

-- the changes are among these items alone, and leave each other release
pub record IsCarried (items : List Cdi) (tellers : List Teller) (other : ℕ → ℕ → Type 0) (changes : List RowWrite) : Type 0 where
  pub within : AreWithin items tellers changes
  pub releases : (user number : ℕ) → other user number → (o : Option ReleaseRow) → releases_after changes user number o ≡ o

pub nothing_carried : (items : List Cdi) (tellers : List Teller) (other : ℕ → ℕ → Type 0) → IsCarried items tellers other []
nothing_carried items tellers other = record { within = tt; releases = λ user number is o. refl }

-- changes that are made of a row, and none where it is missing
pub by_row : {A : Type 0} (items : List Cdi) (tellers : List Teller) (other : ℕ → ℕ → Type 0) (f : A → List RowWrite) (row : Option A) → ((a : A) → IsCarried items tellers other (f a))
    → IsCarried items tellers other (option_map_or f row [])
by_row items tellers other f None each = nothing_carried items tellers other
by_row items tellers other f (Some a) each = each a

-- ---- the teller is of the branch

pub not_nothing : (n : ℕ) → IsKey n → n ≢ 0
not_nothing n key none = omega (arith, key.0)

-- where the rule on branches does not deny
pub branch_passes : (m : Meaning) → (by_books m).first ≡ None → m.denies rule.Branch ≡ false
branch_passes m none = (passed_by (m.denies rule.Branch) _ _ (passed_by (m.denies rule.Unknown) _ _ none).1).0

pub of_its_branch : (w : WorldLists) (teller branch : ℕ) → AreDistinct (map teller_key w.tellers) → teller_is_of (teller_record w teller) branch ≡ true → IsOfBranch w.tellers teller branch
of_its_branch w teller branch distinct is t there named =
    eqb-true t.branch branch (subst (λ o. teller_is_of (option_map (teller_record_of w) o) branch ≡ true) (find_of_key teller_key teller w.tellers t distinct there named) is)

-- the teller that an operation names is so, if no rule denies it
pub passed_teller : (w : WorldLists) (m : Meaning) (teller branch : ℕ) → AreDistinct (map teller_key w.tellers) → m.denies rule.Branch ≡ not (teller_is_of (teller_record w teller) branch) → (by_books m).first ≡ None
    → IsOfBranch w.tellers teller branch
passed_teller w m teller branch distinct is none = of_its_branch w teller branch distinct (not-false (teller_is_of (teller_record w teller) branch) (sym is ∙ branch_passes m none))
