-- Along operations one after another both banks answer alike and stay alike, up to where they part.
use Rattle.std.proofs.Common.{◌≡◌, ◌≢◌, ◌⊎◌, ◌∙◌, List, [], ◌∷◌, Bool, true, false, cond, Option, Some, None, refl, sym, inl, inr}
use Rattle.std.specs.List.{find}
use Rattle.std.proofs.lemmas.Bool.{false≢true}
use Rattle.keyed_rows.proofs.Rows.{find-found}
use Rattle.bank_terms.specs.declared.rule.Rule.{Rule}
use Rattle.bank_books.specs.WorldLists.{WorldLists}
use Rattle.bank_meaning.specs.Meaning.{rules_after_policy}
use Rattle.bank_meaning.specs.Operations.{meaning_of}
use Rattle.bank_meaning.specs.Run.{if_allowed, stated}
use Rattle.year_forward.specs.Forward.{forward}
use Rattle.year_laws.specs.GoesOn.{Turn, op_at_old, turn_of}
use Rattle.year_laws.specs.JudgedAlike.{NamesAnEntry, begins_anew}
use Rattle.year_laws.specs.RunAlike.{AreAnsweredAlike, BooksRunAlike, PartThere, RunAlike, SignedOp, YearRunsAlike, denied_by}
use Rattle.year_laws.specs.StaysAlike.{StayAlike}
use Rattle.year_laws.proofs.AlikeReplies.{replied}
use Rattle.year_laws.proofs.AlikeTests.{judged}
use Rattle.year_laws.proofs.StaysAlike.{books_stay_alike, turns_alike}

-- ---- the first rule that denies

module _ (p q : Rule → Bool) (same : (r : Rule) → begins_anew r ≡ false → p r ≡ q r) where
  -- a rule that denies at one alone is one of those that begin anew
  anew : (r : Rule) → (p r ≡ q r → ⊥) → begins_anew r ≡ true
  anew r apart = go (begins_anew r) refl
    where
      go : (b : Bool) → begins_anew r ≡ b → b ≡ true
      go true is = refl
      go false is = absurd (apart (same r is))

  not_found : (f : Rule → Bool) (rules : List Rule) (r : Rule) → f r ≡ false → find f rules ≢ Some r
  not_found f rules r fails is = false≢true (sym fails ∙ (find-found f rules r is).1)

  -- The first that denies at the one is the first at the other, or they part there.
  pub firsts : (rules : List Rule) → (find p rules ≡ find q rules) ⊎ PartThere (find p rules) (find q rules)
  firsts [] = inl refl
  firsts (r ∷ rules) = go (p r) (q r) refl refl (firsts rules)
    where
      go : (a b : Bool) → p r ≡ a → q r ≡ b → (find p rules ≡ find q rules) ⊎ PartThere (find p rules) (find q rules)
          → (cond a (Some r) (find p rules) ≡ cond b (Some r) (find q rules)) ⊎ PartThere (cond a (Some r) (find p rules)) (cond b (Some r) (find q rules))
      go true true a_is b_is rest = inl refl
      go false false a_is b_is rest = rest
      go true false a_is b_is rest = inr (r, (anew r (λ is. false≢true (sym b_is ∙ sym is ∙ a_is)), inl (refl, not_found q rules r b_is)))
      go false true a_is b_is rest = inr (r, (anew r (λ is. false≢true (sym a_is ∙ is ∙ b_is)), inr (refl, not_found p rules r a_is)))

-- ---- one operation

module _ (t : Turn) (old new : WorldLists) (stay : StayAlike t old new) (s : SignedOp) (names : NamesAnEntry s.op) (rest : List SignedOp) where
  abbrev OnwardBy : Option Rule → Option Rule → Type 0
  OnwardBy f g =
      AreAnsweredAlike t s.op (stated f (meaning_of (op_at_old t s.op) s.by old).reply) (stated g (meaning_of s.op s.by new).reply)
      × RunAlike t (if_allowed f (meaning_of (op_at_old t s.op) s.by old).effect old) (if_allowed g (meaning_of s.op s.by new).effect new) rest

  onward : ((o n : WorldLists) → StayAlike t o n → RunAlike t o n rest) → (f g : Option Rule) → denied_by old (op_at_old t s.op) s.by ≡ f → denied_by new s.op s.by ≡ g → f ≡ g → OnwardBy f g
  onward run None None f_is g_is same = (replied t old new stay.alike s.op names s.by, run _ _ (books_stay_alike t old new stay s.op names s.by f_is g_is))
  onward run (Some r) (Some o) f_is g_is same = (let is : r ≡ o = cc in is, run old new stay)
  onward run None (Some o) f_is g_is same = absurd cc
  onward run (Some r) None f_is g_is same = absurd cc

  pub stepped : ((o n : WorldLists) → StayAlike t o n → RunAlike t o n rest) → RunAlike t old new (s ∷ rest)
  stepped run =
      let firsts_are = firsts (λ r. (meaning_of (op_at_old t s.op) s.by old).denies r) (λ r. (meaning_of s.op s.by new).denies r) (judged t old new stay.alike s.op names s.by) rules_after_policy in (
        stay.alike,
        elim firsts_are [
          | inl same ↦ inr (onward run _ _ refl refl same)
          | inr part ↦ inl part
        ],
      )

pub books_run_alike : BooksRunAlike
books_run_alike t old new stay [] names = stay.alike
books_run_alike t old new stay (s ∷ rest) names = stepped t old new stay s names.0 rest (λ o n stays. books_run_alike t o n stays rest names.1)

-- ---- from the turn of a year

pub year_runs_alike : YearRunsAlike
year_runs_alike w books order closed ops names = books_run_alike (turn_of w) w (forward w) (turns_alike w books order closed) ops names
