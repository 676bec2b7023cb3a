-- Along a list of requests the checks pass, the sums agree, and what is written stays.
use Rattle.std.proofs.Common.{◌≡◌, ℕ, ◌+◌, zero, suc, ℤ, pos, ◌+ℤ◌, ◌&&◌, List, [], ◌∷◌, map, take, Bool, true, false, Option, Some, None, refl, ap, arith, sym, ◌∙◌}
use Rattle.std.specs.Prelude.{neg_ℤ, is_none, if◌then◌else◌}
use Rattle.std.proofs.lemmas.Int.{ints}
use Rattle.std.proofs.lemmas.List.Elements.{All-head, All-tail}
use Rattle.std.proofs.lemmas.List.Sums.{sum_by-cons}
use Rattle.std.specs.List.{sum_by}
use Rattle.keyed_rows.specs.Totals.{total}
use Rattle.money.specs.declared.fault.Fault.{Fault}
use Rattle.bank_terms.specs.declared.rule.Rule.{Rule}
use Rattle.bank_books.specs.Balances.{account_balance, branch_balance, entry_count, teller_balance}
use Rattle.bank_books.specs.Cash.{cash_entry_total, difference_total, drawer_total, place_cash, vault_opening}
use Rattle.bank_books.specs.Range.{IsBranch}
use Rattle.bank_books.specs.WorldLists.{WorldLists}
use Rattle.book_laws.specs.Kept.{OnlyAdds}
use Rattle.book_laws.proofs.BooksSplit.{books_parts}
use Rattle.book_laws.proofs.Kept.{adds_nothing, adds_then}
use Rattle.book_laws.proofs.LineAdded.{cash_balances}
use Rattle.store_rows.specs.Status.{after_mark}
use Rattle.bank_meaning.specs.Requests.{effect, first, repeated}
use Rattle.bank_meaning.specs.Run.{Marked, accepted, after_request, if_allowed, is_accepted, world_after, unless_repeated}
use Rattle.bank_meaning.specs.Moves.{Moves, moves_nothing}
use Rattle.bank_meaning.specs.Sums.{AreProper, IsProper, PassesChecks, SumsAlwaysAgree, branch_cash, moved_along, moves}
use Rattle.bank_meaning.proofs.OperationSteps.{by_asked}
use Rattle.bank_meaning.proofs.Steps.{IsStep, none_more, plus_zero, stands}

-- ---- one request, with its mark and the rule against it

-- where it is made
abbrev Proper : Marked → Type 0
Proper m = m.mark ≡ None → IsProper m.request

abbrev moves_if : Bool → Moves → Moves
moves_if accepted m = if accepted then m else moves_nothing

pub one_request : (w : WorldLists) (m : Marked) → PassesChecks w → Proper m → IsStep w (after_request w m) (moves_if (is_accepted w m) (moves m.request))
one_request w m checks proper = go m.mark (repeated w m.request) (first w m.request) refl refl refl
  where
    go : (mark : Option Fault) (kept : Option (List ℕ)) (r : Option Rule) → m.mark ≡ mark → repeated w m.request ≡ kept → first w m.request ≡ r
        → IsStep w (after_mark mark (unless_repeated kept (if_allowed r (effect w m.request) w) w) w) (if is_none mark && (is_none kept && is_none r) then moves m.request else moves_nothing)
    go None None None made fresh is =
        by_asked w m.request.asked m.request.who m.request.moment checks (proper made) fresh is
    go None None (Some r) made fresh is = stands w checks
    go None (Some kept) r made fresh is = stands w checks
    go (Some f) kept r made fresh is = stands w checks

-- ---- a list of them

checks_along : (w : WorldLists) (ms : List Marked) (n : ℕ) → PassesChecks w → AreProper ms → PassesChecks (world_after w (take n ms))
checks_along w [] zero checks proper = checks
checks_along w [] (suc n) checks proper = checks
checks_along w (m ∷ ms) zero checks proper = checks
checks_along w (m ∷ ms) (suc n) checks proper =
    checks_along (after_request w m) ms n (one_request w m checks (All-head Proper m ms proper)).checks (All-tail Proper m ms proper)

-- what the first of a list gains, and the others
gained_in_front : (before mid after first rest : ℤ) → mid ≡ before +ℤ first → after ≡ mid +ℤ rest → after ≡ before +ℤ (first +ℤ rest)
gained_in_front before mid after first rest here following = omega (arith, ints)

share_if : (share : Moves → ℤ) (b : Bool) (m : Moves) → share moves_nothing ≡ pos 0 → share (if b then m else moves_nothing) ≡ (if b then share m else pos 0)
share_if share true m none = refl
share_if share false m none = none

total_in_front : {X : Type 0} (f : X → ℤ) (b : Bool) (x : X) (xs : List X) → (if b then f x else pos 0) +ℤ total (map f xs) ≡ total (map f (if b then x ∷ xs else xs))
total_in_front f true x xs = refl
total_in_front f false x xs = no_more (total (map f xs))
  where
    no_more : (z : ℤ) → pos 0 +ℤ z ≡ z
    no_more z = omega (arith, ints)

-- A number of the World that each step moves by its share is moved by all shares.
moved_by_all : (number : WorldLists → ℤ) (share : Moves → ℤ) → share moves_nothing ≡ pos 0
    → ((before after : WorldLists) (m : Moves) → IsStep before after m → number after ≡ number before +ℤ share m) → (w : WorldLists) (ms : List Marked) → PassesChecks w → AreProper ms
    → number (world_after w ms) ≡ number w +ℤ moved_along share w ms
moved_by_all number share none each w [] checks proper = plus_zero (number w)
moved_by_all number share none each w (m ∷ ms) checks proper =
    let here = one_request w m checks (All-head Proper m ms proper) in
    let mid : WorldLists = after_request w m in
    let moved = each w mid (moves_if (is_accepted w m) (moves m.request)) here ∙ ap (λ z. number w +ℤ z) (share_if share (is_accepted w m) (moves m.request) none) in
    gained_in_front (number w) (number mid) (number (world_after mid ms)) (if is_accepted w m then share (moves m.request) else pos 0)
    (moved_along share mid ms) moved (moved_by_all number share none each mid ms here.checks (All-tail Proper m ms proper))
    ∙ ap (λ z. number w +ℤ z) (total_in_front (λ r. share (moves r)) (is_accepted w m) m.request (accepted mid ms))

entered_in_front : (before mid after first rest : ℕ) → mid ≡ before + first → after ≡ mid + rest → after ≡ before + (first + rest)
entered_in_front before mid after first rest here following = omega arith

sum_in_front : {X : Type 0} (f : X → ℕ) (b : Bool) (x : X) (xs : List X) → (if b then f x else 0) + sum_by f xs ≡ sum_by f (if b then x ∷ xs else xs)
sum_in_front f true x xs = sym (sum_by-cons f x xs)
sum_in_front f false x xs = no_more (sum_by f xs)
  where
    no_more : (n : ℕ) → 0 + n ≡ n
    no_more n = omega arith

entries_if : (branch : ℕ) (b : Bool) (m : Moves) → (if b then m else moves_nothing).entries branch ≡ (if b then m.entries branch else 0)
entries_if branch true m = refl
entries_if branch false m = refl

entered_along : (w : WorldLists) (ms : List Marked) → PassesChecks w → AreProper ms → (branch : ℕ)
    → entry_count branch (world_after w ms).entries ≡ entry_count branch w.entries + sum_by (λ r. (moves r).entries branch) (accepted w ms)
entered_along w [] checks proper branch = none_more (entry_count branch w.entries)
entered_along w (m ∷ ms) checks proper branch =
    let here = one_request w m checks (All-head Proper m ms proper) in
    let mid : WorldLists = after_request w m in
    entered_in_front (entry_count branch w.entries) (entry_count branch mid.entries) (entry_count branch (world_after mid ms).entries) (if is_accepted w m then (moves m.request).entries branch else 0)
    (sum_by (λ r. (moves r).entries branch) (accepted mid ms))
    (here.history branch ∙ ap (λ n. entry_count branch w.entries + n) (entries_if branch (is_accepted w m) (moves m.request)))
    (entered_along mid ms here.checks (All-tail Proper m ms proper) branch)
    ∙ ap (λ n. entry_count branch w.entries + n) (sum_in_front (λ r. (moves r).entries branch) (is_accepted w m) m.request (accepted mid ms))

adds_along : (w : WorldLists) (ms : List Marked) → PassesChecks w → AreProper ms → OnlyAdds w (world_after w ms)
adds_along w [] checks proper = adds_nothing w
adds_along w (m ∷ ms) checks proper =
    let here = one_request w m checks (All-head Proper m ms proper) in
    adds_then w (after_request w m) (world_after (after_request w m) ms) here.added (adds_along (after_request w m) ms here.checks (All-tail Proper m ms proper))

-- ---- the cash of a branch

stay_along : (w : WorldLists) (ms : List Marked) → PassesChecks w → AreProper ms → (branch : ℕ) → IsBranch w.branches branch → IsBranch (world_after w ms).branches branch
stay_along w [] checks proper branch is = is
stay_along w (m ∷ ms) checks proper branch is =
    let here = one_request w m checks (All-head Proper m ms proper) in
    stay_along (after_request w m) ms here.checks (All-tail Proper m ms proper) branch (here.stay branch is)

vaults_along : (w : WorldLists) (ms : List Marked) → PassesChecks w → AreProper ms → (branch : ℕ) → vault_opening branch (world_after w ms).branches ≡ vault_opening branch w.branches
vaults_along w [] checks proper branch = refl
vaults_along w (m ∷ ms) checks proper branch =
    let here = one_request w m checks (All-head Proper m ms proper) in
    vaults_along (after_request w m) ms here.checks (All-tail Proper m ms proper) branch ∙ here.vaults branch

-- where its books hold, the cash of a branch is that of the opening of its vault, and what its lines explain
explained : (opening vault drawers entries differences : ℤ) → (vault +ℤ drawers) +ℤ neg_ℤ (entries +ℤ differences) ≡ pos 0 → (opening +ℤ vault) +ℤ drawers ≡ opening +ℤ (entries +ℤ differences)
explained opening vault drawers entries differences none = omega (arith, ints)

cash_explained : (w : WorldLists) → PassesChecks w → (branch : ℕ) → IsBranch w.branches branch
    → branch_cash w branch ≡ vault_opening branch w.branches +ℤ (cash_entry_total branch w.lines +ℤ difference_total branch w.lines)
cash_explained w checks branch is =
    explained (vault_opening branch w.branches) (place_cash branch 0 w.lines) (drawer_total branch w.lines) (cash_entry_total branch w.lines) (difference_total branch w.lines)
    ((cash_balances w.branches w.lines branch is).0 (((books_parts w).0 checks.books).0.balanced branch))

between : (opening opening' cash cash' entries entries' differences differences' moved : ℤ) → cash ≡ opening +ℤ (entries +ℤ differences) → cash' ≡ opening' +ℤ (entries' +ℤ differences')
    → opening' ≡ opening → entries' ≡ entries +ℤ moved → cash' ≡ cash +ℤ (moved +ℤ (differences' +ℤ neg_ℤ differences))
between opening opening' cash cash' entries entries' differences differences' moved before after same more = omega (arith, ints)

take_all : (w : WorldLists) (ms : List Marked) → PassesChecks w → AreProper ms → PassesChecks (world_after w ms)
take_all w [] checks proper = checks
take_all w (m ∷ ms) checks proper =
    take_all (after_request w m) ms (one_request w m checks (All-head Proper m ms proper)).checks (All-tail Proper m ms proper)

cash_entries_along : (w : WorldLists) (ms : List Marked) → PassesChecks w → AreProper ms → (branch : ℕ)
    → cash_entry_total branch (world_after w ms).lines ≡ cash_entry_total branch w.lines +ℤ moved_along (λ m. m.branches branch) w ms
cash_entries_along w ms checks proper branch = moved_by_all (λ v. cash_entry_total branch v.lines) (λ m. m.branches branch) refl (λ before after m step. step.cash_entries branch) w ms checks proper

pub sums_always_agree : SumsAlwaysAgree
sums_always_agree w ms checks proper = record {
  checks = λ n. checks_along w ms n checks proper;
  branches = λ branch. moved_by_all (λ v. branch_balance v branch) (λ m. m.branches branch) refl (λ before after m step. step.branches branch) w ms checks proper;
  tellers = λ teller. moved_by_all (λ v. teller_balance v teller) (λ m. m.tellers teller) refl (λ before after m step. step.tellers teller) w ms checks proper;
  accounts = λ account. moved_by_all (λ v. account_balance v account) (λ m. m.accounts account) refl (λ before after m step. step.accounts account) w ms checks proper;
  history = entered_along w ms checks proper;
  cash_entries = cash_entries_along w ms checks proper;
  cash = λ branch is.
      between (vault_opening branch w.branches) (vault_opening branch (world_after w ms).branches) (branch_cash w branch) (branch_cash (world_after w ms) branch) (cash_entry_total branch w.lines)
      (cash_entry_total branch (world_after w ms).lines) (difference_total branch w.lines) (difference_total branch (world_after w ms).lines) (moved_along (λ m. m.branches branch) w ms)
      (cash_explained w checks branch is) (cash_explained (world_after w ms) (take_all w ms checks proper) branch (stay_along w ms checks proper branch is))
      (vaults_along w ms checks proper branch) (cash_entries_along w ms checks proper branch);
  added = adds_along w ms checks proper;
}
