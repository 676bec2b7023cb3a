-- The opening by its eight texts.
use Rattle.std.proofs.Common.{◌≡◌, ◌⊎◌, ℕ, List, [], ◌∷◌, length, get_or, map, Bor, Option, Some, Result, Ok, Err, refl, sym, ap, subst, arith, ◌∙◌, inl, inr}
use Rattle.std.specs.Prelude.{IfSome, IsErrAnd}
use Rattle.bank_books.specs.WorldLists.{WorldLists}
use Rattle.bank_policy.specs.Policy.{PolicyLists}
use Rattle.list_opening.specs.Opening.{IsReported, Ledger, ◌>>=◌, ledger_of, opened, opening, policy_of}
use Rattle.list_opening.specs.declared.list_fault.ListFault.{ListFault}
use Rattle.list_opening.specs.declared.list_fault.ListFault.TheVariants.{Memory}

abbrev pub books_at : List (Bor (List ℕ)) → Bor (List ℕ) → Result Ledger ListFault
books_at texts d = ledger_of (get_or texts 0 d).now (get_or texts 1 d).now (get_or texts 2 d).now

abbrev pub policy_at : List (Bor (List ℕ)) → Bor (List ℕ) → Result PolicyLists ListFault
policy_at texts d = policy_of (get_or texts 3 d).now (get_or texts 4 d).now (get_or texts 5 d).now (get_or texts 6 d).now (get_or texts 7 d).now

abbrev both : Result Ledger ListFault → Result PolicyLists ListFault → Result WorldLists ListFault
both books policy = books >>= (λ b. policy >>= (λ p. Ok (opened b p)))

opening_of : (texts : List (Bor (List ℕ))) (d : Bor (List ℕ)) → length texts ≡ 8 → opening (map (λ t. t.now) texts) ≡ both (books_at texts d) (policy_at texts d)
opening_of ([]) d eight = absurd (omega arith)
opening_of (a ∷ []) d eight = absurd (omega arith)
opening_of (a ∷ b ∷ []) d eight = absurd (omega arith)
opening_of (a ∷ b ∷ c ∷ []) d eight = absurd (omega arith)
opening_of (a ∷ b ∷ c ∷ e ∷ []) d eight = absurd (omega arith)
opening_of (a ∷ b ∷ c ∷ e ∷ f ∷ []) d eight = absurd (omega arith)
opening_of (a ∷ b ∷ c ∷ e ∷ f ∷ g ∷ []) d eight = absurd (omega arith)
opening_of (a ∷ b ∷ c ∷ e ∷ f ∷ g ∷ h ∷ []) d eight = absurd (omega arith)
opening_of (a ∷ b ∷ c ∷ e ∷ f ∷ g ∷ h ∷ i ∷ []) d eight = refl
opening_of (a ∷ b ∷ c ∷ e ∷ f ∷ g ∷ h ∷ i ∷ j ∷ rest) d eight = absurd (omega arith)

pub opens : (texts : List (Bor (List ℕ))) (d : Bor (List ℕ)) (books : Ledger) (policy : PolicyLists) (world : WorldLists) → length texts ≡ 8 → books_at texts d ≡ Ok books → policy_at texts d ≡ Ok policy → world ≡ opened books policy
    → IsReported (opening (map (λ t. t.now) texts)) (Ok world)
opens texts d books policy world eight b p is = inl (ap Ok is ∙ sym (opening_of texts d eight ∙ ap (λ r. both r (policy_at texts d)) b ∙ ap (both (Ok books)) p))

pub refuses : (texts : List (Bor (List ℕ))) (d : Bor (List ℕ)) (books : Ledger) (fault : ListFault) (result : Result WorldLists ListFault) → length texts ≡ 8 → books_at texts d ≡ Ok books
    → (fault ≡ Memory) ⊎ (policy_at texts d ≡ Err fault) → IsErrAnd result (λ e. e ≡ fault) → IsReported (opening (map (λ t. t.now) texts)) result
refuses texts d books fault (Ok w) eight b p is = absurd is
refuses texts d books fault (Err e) eight b (inl memory) is = inr (ap Err (is ∙ memory))
refuses texts d books fault (Err e) eight b (inr p) is = inl (ap Err is ∙ sym (opening_of texts d eight ∙ ap (λ r. both r (policy_at texts d)) b ∙ ap (both (Ok books)) p))

pub some_is : {X : Type 0} (o : Option X) (x : X) (P : X → Type 0) → IfSome o P → o ≡ Some x → P x
some_is o x P h is = subst (λ found. IfSome found P) is h
