-- The least of what is found among rows in order of their numbers is found among them.
use Rattle.std.proofs.Common.{◌≡◌, ◌≢◌, ◌≤◌, ◌<◌, ℕ, suc, List, [], ◌∷◌, Bool, true, false, cond, ◌||◌, ◌&&◌, Option, Some, None, refl, ap, arith, ◌∙◌, subst, Contains}
use Rattle.std.specs.Prelude.{nat_le, nat_lt}
use Rattle.std.specs.List.{find, list_any}
use Rattle.std.proofs.lemmas.Bool.Decides.{nat_tests}
use Rattle.bank_terms.specs.declared.item.Kind.TheVariants as kind
use Rattle.bank_policy.specs.HeldRows.{HeldTriple}
use Rattle.bank_policy.specs.Tests.{is_within}
use Rattle.bank_policy.specs.declared.rows.Member.{Member}
use Rattle.bank_books.specs.declared.records.AccountRecord.{AccountRecord}
use Rattle.keyed_rows.proofs.Rows.{find-found, first_apart}
use Rattle.book_kept.specs.Keepable.{IsOrdered}
use Rattle.book_kept.specs.Sheets.{account_no}
use Rattle.world_reads.specs.BookReads.{is_account_of}
use Rattle.store_sql.specs.LeastShown.{is_held_above, is_shown_by, least_by, lower}
use Rattle.store_sql.proofs.LeastLemmas.{least_of}

le_yes : (m n : ℕ) → m ≤ n → nat_le m n ≡ true
le_yes m n h = grind (arith, nat_tests)

le_no : (m n : ℕ) → m < n → nat_le n m ≡ false
le_no m n h = grind (arith, nat_tests)

lower_finds : (p q : AccountRecord → Bool) (rows : List AccountRecord) → IsOrdered account_no rows → lower (find p rows) (find q rows) ≡ find (λ r. p r || q r) rows
lower_finds p q [] o = refl
lower_finds p q (x ∷ xs) o = go (p x) (q x) (lower_finds p q xs (record { in_order = λ i j d le below. o.in_order (suc i) (suc j) d (omega arith) (omega arith); distinct = o.distinct.1 }))
  where
    following : (y : AccountRecord) → Contains xs y → x.row.account ≤ y.row.account
    following y (k, within, is) = subst (λ z. x.row.account ≤ z.row.account) is (o.in_order 0 (suc k) y (omega arith) (omega arith))

    first : (r : Option AccountRecord) → find q xs ≡ r → lower (Some x) r ≡ Some x
    first None is = refl
    first (Some y) is = ap (λ b. cond b (Some x) (Some y)) (le_yes x.row.account y.row.account (following y (find-found q xs y is).0))

    second : (r : Option AccountRecord) → find p xs ≡ r → lower r (Some x) ≡ Some x
    second None is = refl
    second (Some y) is =
        let there = (find-found p xs y is).0 in
        let apart : x.row.account ≢ y.row.account = first_apart account_no x xs y o.distinct there in
        let low = following y there in
        ap (λ b. cond b (Some y) (Some x)) (le_no x.row.account y.row.account (omega arith))

    same : (b : Bool) → ◌≡◌ {A = Option AccountRecord} (cond b (Some x) (Some x)) (Some x)
    same true = refl
    same false = refl

    go : (a b : Bool) → lower (find p xs) (find q xs) ≡ find (λ r. p r || q r) xs → lower (cond a (Some x) (find p xs)) (cond b (Some x) (find q xs)) ≡ cond (a || b) (Some x) (find (λ r. p r || q r) xs)
    go true true rest = same (nat_le x.row.account x.row.account)
    go true false rest = first (find q xs) refl
    go false true rest = second (find p xs) refl
    go false false rest = rest

or_none : (b : Bool) → b ≡ (b || false)
or_none true = refl
or_none false = refl

or_three : (a b c : Bool) → ((a || b) || c) ≡ (a || (b || c))
or_three true b c = refl
or_three false b c = refl

none_found : (rows : List AccountRecord) → ◌≡◌ {A = Option AccountRecord} None (find (λ a. false) rows)
none_found [] = refl
none_found (x ∷ xs) = none_found xs

nobody : (ms : List Member) → list_any (λ m. false) ms ≡ false
nobody [] = refl
nobody (m ∷ ms) = nobody ms

spread : (b : Bool) (n : ℕ) (hs : List HeldTriple) → list_any (λ h. list_any (λ m. b && is_within (record { kind = kind.Account; key = n }) m) h.members) hs ≡ (b && is_account_of hs n)
spread true n hs = refl
spread false n [] = refl
spread false n (h ∷ hs) = ap (λ b. b || list_any (λ h. list_any (λ m. false) h.members) hs) (nobody h.members) ∙ spread false n hs

module _ (rows : List AccountRecord) (o : IsOrdered account_no rows) (after : ℕ) where
  by_finds : (ms : List Member) (q : AccountRecord → Bool) → least_by rows after ms (find q rows) ≡ find (λ a. q a || list_any (λ m. is_shown_by after m a) ms) rows
  by_finds [] q = λ i. find (λ a. or_none (q a) i) rows
  by_finds (m ∷ ms) q =
      ap (least_by rows after ms) (lower_finds q (is_shown_by after m) rows o) ∙ by_finds ms (λ a. q a || is_shown_by after m a)
      ∙ (λ i. find (λ a. or_three (q a) (is_shown_by after m a) (list_any (λ k. is_shown_by after k a) ms) i) rows)

  of_finds : (hs : List HeldTriple) (q : AccountRecord → Bool) → least_of rows after hs (find q rows) ≡ find (λ a. q a || list_any (λ h. list_any (λ m. is_shown_by after m a) h.members) hs) rows
  of_finds [] q = λ i. find (λ a. or_none (q a) i) rows
  of_finds (h ∷ hs) q =
      ap (least_of rows after hs) (by_finds h.members q) ∙ of_finds hs (λ a. q a || list_any (λ m. is_shown_by after m a) h.members)
      ∙ (λ i. find (λ a. or_three (q a) (list_any (λ m. is_shown_by after m a) h.members) (list_any (λ k. list_any (λ m. is_shown_by after m a) k.members) hs) i) rows)

  pub least_is : (hs : List HeldTriple) → least_of rows after hs None ≡ find (is_held_above hs after) rows
  least_is hs = ap (least_of rows after hs) (none_found rows) ∙ of_finds hs (λ a. false) ∙ (λ i. find (λ a. spread (nat_lt after a.row.account) a.row.account hs i) rows)
