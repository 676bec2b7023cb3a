-- Along a list of requests each row of the policy is what the last one says that speaks of it.
use Rattle.std.proofs.Common.{◌≡◌, ℕ, ◌+◌, ◌≤◌, ◌&&◌, zero, suc, List, [], ◌∷◌, take, Bool, true, false, cond, count_by, None, refl, ap, arith, sym, subst, ◌∙◌}
use Rattle.std.specs.Prelude.{if◌then◌else◌}
use Rattle.std.proofs.lemmas.Bool.{ltb-false}
use Rattle.std.proofs.lemmas.List.Elements.{All-head, All-tail, All-take}
use Rattle.std.proofs.lemmas.List.Sums.{sum_by-cons}
use Rattle.bank_terms.specs.Limits.{max_version}
use Rattle.bank_books.specs.WorldLists.{WorldLists}
use Rattle.bank_policy.specs.Policy.{PolicyLists}
use Rattle.policy_check.specs.Soundness.{IsPolicySound}
use Rattle.bank_meaning.specs.InForce.{IsInForce}
use Rattle.bank_meaning.specs.LastWord.{LastWord, finds_room, effective, is_command, is_effective}
use Rattle.bank_meaning.specs.Order.{IsPolicyInOrder}
use Rattle.bank_meaning.specs.Requests.{first}
use Rattle.bank_meaning.specs.Run.{Marked, accepted, after_request, is_accepted, world_after}
use Rattle.bank_meaning.specs.Sums.{AreProper, IsProper, PassesChecks}
use Rattle.bank_meaning.specs.declared.request.Asked.{Asked}
use Rattle.bank_meaning.specs.declared.request.Asked.TheVariants as asked
use Rattle.bank_meaning.specs.declared.request.Request.{Request}
use Rattle.bank_meaning.proofs.LastWordAlone.{one_in_force}
use Rattle.bank_meaning.proofs.LastWordSaid.{first_said, none_more, opening_in_force}
use Rattle.bank_meaning.proofs.LastWordSteps.{IsNext, leaves_alone, one_request}
use Rattle.bank_meaning.proofs.RunSums.{sums_always_agree}

abbrev Proper : Marked → Type 0
Proper m = m.mark ≡ None → IsProper m.request

-- the checks pass after the first request
next_checks : (w : WorldLists) (m : Marked) (ms : List Marked) → PassesChecks w → AreProper (m ∷ ms) → PassesChecks (after_request w m)
next_checks w m ms checks proper = (sums_always_agree w (m ∷ ms) checks proper).checks (suc zero)

-- and after all of them
last_checks : (w : WorldLists) (ms : List Marked) → PassesChecks w → AreProper ms → PassesChecks (world_after w ms)
last_checks w [] checks proper = checks
last_checks w (m ∷ ms) checks proper = last_checks (after_request w m) ms (next_checks w m ms checks proper) (All-tail Proper m ms proper)

-- what the first request leaves
next : (w : WorldLists) (m : Marked) (ms : List Marked) → PassesChecks w → AreProper (m ∷ ms) → IsNext (is_effective w m) m.request w (after_request w m)
next w m ms checks proper = one_request w m checks (All-head Proper m ms proper)

-- ---- the policy in force

in_force_along : (w : WorldLists) (ms : List Marked) → PassesChecks w → AreProper ms → IsInForce w.policy (effective w ms) (world_after w ms).policy
in_force_along w [] checks proper = opening_in_force w.policy
in_force_along w (m ∷ ms) checks proper =
    go (is_effective w m) (next w m ms checks proper) (in_force_along (after_request w m) ms (next_checks w m ms checks proper) (All-tail Proper m ms proper))
  where
    go : (b : Bool) → IsNext b m.request w (after_request w m) → IsInForce (after_request w m).policy (effective (after_request w m) ms) (world_after (after_request w m) ms).policy
        → IsInForce w.policy (if b then m.request ∷ effective (after_request w m) ms else effective (after_request w m) ms) (world_after (after_request w m) ms).policy
    go true here rest = first_said m.request (effective (after_request w m) ms) w.policy (after_request w m).policy (world_after (after_request w m) ms).policy here.said rest
    go false here rest = subst (λ p. IsInForce p (effective (after_request w m) ms) (world_after (after_request w m) ms).policy) here.policy rest

alone : (w : WorldLists) (ms : List Marked) → PassesChecks w → AreProper ms → (p : PolicyLists) → IsPolicySound p → IsPolicyInOrder p → IsInForce w.policy (effective w ms) p
    → p ≡ (world_after w ms).policy
alone w ms checks proper p sound order rows =
    let last = last_checks w ms checks proper in
    one_in_force w.policy (effective w ms) p (world_after w ms).policy sound order rows last.sound last.in_order.policy (in_force_along w ms checks proper)

-- ---- the version, and who is heard

-- how many commands are among the requests
abbrev commands_of : List Request → ℕ
commands_of rs = count_by (λ r. is_command r.asked) rs

abbrev one_if_command : Marked → ℕ
one_if_command m = cond (is_command m.request.asked) 1 0

raised : (before mid after one rest all : ℕ) → mid ≡ before + one → after ≡ mid + rest → all ≡ one + rest → after ≡ before + all
raised before mid after one rest all here later sum = omega arith

version_along : (w : WorldLists) (ms : List Marked) → PassesChecks w → AreProper ms → (world_after w ms).version ≡ w.version + commands_of (effective w ms)
version_along w [] checks proper = none_more w.version
version_along w (m ∷ ms) checks proper =
    go (is_effective w m) (next w m ms checks proper) (version_along (after_request w m) ms (next_checks w m ms checks proper) (All-tail Proper m ms proper))
  where
    go : (b : Bool) → IsNext b m.request w (after_request w m) → (world_after (after_request w m) ms).version ≡ (after_request w m).version + commands_of (effective (after_request w m) ms)
        → (world_after (after_request w m) ms).version ≡ w.version + commands_of (if b then m.request ∷ effective (after_request w m) ms else effective (after_request w m) ms)
    go true here rest =
        raised w.version (after_request w m).version (world_after (after_request w m) ms).version (one_if_command m) (commands_of (effective (after_request w m) ms)) _ here.version rest
        (sum_by-cons (λ r. cond (is_command r.asked) 1 0) m.request (effective (after_request w m) ms))
    go false here rest = rest ∙ ap (λ v. v + commands_of (effective (after_request w m) ms)) here.version

-- no room is found by a command at the greatest version alone
no_room : (w : WorldLists) (a : Asked) → finds_room w a ≡ false → (is_command a ≡ true) × (max_version ≤ w.version)
no_room w (asked.Operation op) none = absurd cc
no_room w asked.Opening none = absurd cc
no_room w asked.Ending none = absurd cc
no_room w (asked.Command c) none = (refl, ltb-false w.version max_version none)
no_room w asked.Listing none = absurd cc

used_up : (version one rest all : ℕ) → one ≡ 1 → all ≡ one + rest → max_version ≤ version → version + all ≤ max_version → ⊥
used_up version one rest all command sum high within = omega arith

enough_left : (version next one rest all : ℕ) → next ≡ version + one → all ≡ one + rest → version + all ≤ max_version → next + rest ≤ max_version
enough_left version next one rest all here sum within = omega arith

all_effective : (w : WorldLists) (ms : List Marked) → PassesChecks w → AreProper ms → w.version + commands_of (accepted w ms) ≤ max_version → effective w ms ≡ accepted w ms
all_effective w [] checks proper within = refl
all_effective w (m ∷ ms) checks proper within =
    go (is_accepted w m) (finds_room w m.request.asked) refl (next w m ms checks proper) within
    (all_effective (after_request w m) ms (next_checks w m ms checks proper) (All-tail Proper m ms proper))
  where
    go : (b c : Bool) → finds_room w m.request.asked ≡ c → IsNext (b && c) m.request w (after_request w m)
        → w.version + commands_of (if b then m.request ∷ accepted (after_request w m) ms else accepted (after_request w m) ms) ≤ max_version
        → ((after_request w m).version + commands_of (accepted (after_request w m) ms) ≤ max_version → effective (after_request w m) ms ≡ accepted (after_request w m) ms)
        → (if b && c then m.request ∷ effective (after_request w m) ms else effective (after_request w m) ms) ≡ (if b then m.request ∷ accepted (after_request w m) ms else accepted (after_request w m) ms)
    go true true room here within later =
        ap (λ rs. m.request ∷ rs)
        (later (enough_left w.version (after_request w m).version (one_if_command m) (commands_of (accepted (after_request w m) ms)) _ here.version
        (sum_by-cons (λ r. cond (is_command r.asked) 1 0) m.request (accepted (after_request w m) ms)) within))
    go true false none here within later =
        let full = no_room w m.request.asked none in
        absurd (used_up w.version (one_if_command m) (commands_of (accepted (after_request w m) ms)) _ (ap (λ b. cond b 1 0) full.0)
        (sum_by-cons (λ r. cond (is_command r.asked) 1 0) m.request (accepted (after_request w m) ms)) full.1 within)
    go false c room here within later = later (subst (λ v. v + commands_of (accepted (after_request w m) ms) ≤ max_version) (sym here.version) within)

pub last_word : LastWord
last_word = (
  λ w ms checks proper. record {
    in_force = λ n. in_force_along w (take n ms) checks (All-take Proper n ms proper);
    version = version_along w ms checks proper;
    all_effective = all_effective w ms checks proper;
    alone = alone w ms checks proper;
    rules = λ p sound order rows q. ap (λ policy. first (record (world_after w ms) { policy = policy }) q) (alone w ms checks proper p sound order rows);
  },
  leaves_alone,
)
