-- Accounts that are shown, found one after another.
use Rattle.std.proofs.Common.{◌≡◌, ◌<◌, ◌≤◌, ◌+◌, ◌-◌, ◌++◌, ℕ, zero, suc, List, [], ◌∷◌, map, filter, take, find, Bool, true, false, cond, Some, None, refl, ap, sym, arith, append-nil, append_assoc, ◌∙◌}
use Rattle.std.proofs.lemmas.List.{take_all}
use Rattle.sqlite_keyed.proofs.ListLemmas.{filter-map}
use Rattle.bank_policy.specs.HeldRows.{HeldTriple}
use Rattle.bank_books.specs.Records.{account_record_of}
use Rattle.bank_books.specs.WorldLists.{WorldLists}
use Rattle.bank_books.specs.declared.records.AccountRecord.{AccountRecord}
use Rattle.book_kept.specs.Keepable.{IsOrdered}
use Rattle.book_kept.specs.Sheets.{account_no, sheets_of}
use Rattle.world_reads.specs.BookReads.{is_account_after, is_account_of}
use Rattle.world_reads.proofs.GoesOn.{next-kept}
use Rattle.world_reads.proofs.Rising.{rises}
use Rattle.store_sql.specs.LeastShown.{is_held_above}

none_kept : {X : Type 0} (p : X → Bool) (xs : List X) → find p xs ≡ None → filter p xs ≡ []
none_kept p [] is = refl
none_kept p (x ∷ xs) is = go (p x) (none_kept p xs) is
  where
    go : (b : Bool) → (find p xs ≡ None → filter p xs ≡ []) → cond b (Some x) (find p xs) ≡ None → cond b (x ∷ filter p xs) (filter p xs) ≡ []
    go true rest is = absurd cc
    go false rest is = rest is

take-map : {X Y : Type 0} (f : X → Y) (n : ℕ) (xs : List X) → take n (map f xs) ≡ map f (take n xs)
take-map f zero xs = refl
take-map f (suc n) [] = refl
take-map f (suc n) (x ∷ xs) = ap (λ ys. f x ∷ ys) (take-map f n xs)

module _ (accounts : List AccountRecord) (held : List HeldTriple) where
  -- those above a number, at most n
  abbrev pub above : ℕ → ℕ → List AccountRecord
  above after count = take count (filter (is_held_above held after) accounts)

  -- the next one is there, and was added
  pub one_shown : (after a b : ℕ) (row : AccountRecord) (before made all : List AccountRecord) → IsOrdered account_no accounts → a < b → Some row ≡ find (is_held_above held after) accounts
      → before ++ above after (b - a) ≡ all → made ≡ before ++ row ∷ [] → made ++ above row.row.account (b - (a + 1)) ≡ all
  one_shown after a b row before made all order below found so_far made_is =
      let rest = above row.row.account (b - (a + 1)) in
      let more : b - a ≡ suc (b - (a + 1)) = omega arith in
      let next = next-kept account_no (λ r. is_account_of held r.row.account) after accounts row (rises account_no accounts order.in_order order.distinct) (sym found) in
      ap (λ rows. rows ++ rest) made_is ∙ append_assoc before (row ∷ []) rest ∙ ap (λ rows. before ++ rows) (sym (ap (above after) more ∙ ap (take (suc (b - (a + 1)))) next)) ∙ so_far

  -- no further one is there
  pub none_shown : (after a b : ℕ) (before all : List AccountRecord) → None ≡ find (is_held_above held after) accounts → before ++ above after (b - a) ≡ all → before ≡ all
  none_shown after a b before all found so_far =
      sym (append-nil before) ∙ ap (λ rows. before ++ rows) (sym (ap (take (b - a)) (none_kept (is_held_above held after) accounts (sym found)) ∙ take_all (b - a) [] (omega arith))) ∙ so_far

  -- as many as were asked for were found
  pub all_shown : (after a b : ℕ) (before all : List AccountRecord) → b ≤ a → before ++ above after (b - a) ≡ all → before ≡ all
  all_shown after a b before all enough so_far =
      let none : b - a ≡ 0 = omega (arith, enough) in
      sym (append-nil before) ∙ ap (λ n. before ++ above after n) (sym none) ∙ so_far

-- those of a World
pub above_of : (w : WorldLists) (held : List HeldTriple) (after count : ℕ) → above (sheets_of w).accounts held after count ≡ map (account_record_of w) (take count (filter (is_account_after held after) w.accounts))
above_of w held after count = ap (take count) (filter-map (is_held_above held after) (account_record_of w) w.accounts) ∙ take-map (account_record_of w) count (filter (is_account_after held after) w.accounts)
