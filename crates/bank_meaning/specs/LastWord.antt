-- That along every list of requests the policy is the one in force by last word, and no other is; and that what is asked for leaves the books or the policy alone.
use Rattle.std.specs.Prelude.{◌≡◌, ◌≤◌, ◌+◌, ◌&&◌, ℕ, Bool, true, false, nat_lt, List, [], ◌∷◌, take, count_by, if◌then◌else◌}
use Rattle.bank_terms.specs.Limits.{max_version}
use Rattle.bank_policy.specs.Policy.{PolicyLists}
use Rattle.bank_books.specs.WorldLists.{WorldLists}
use Rattle.policy_check.specs.Soundness.{IsPolicySound}
use Rattle.bank_meaning.specs.InForce.{IsInForce}
use Rattle.bank_meaning.specs.Order.{IsPolicyInOrder}
use Rattle.bank_meaning.specs.Requests.{first}
use Rattle.bank_meaning.specs.Run.{Marked, accepted, after_request, is_accepted, world_after}
use Rattle.bank_meaning.specs.Sums.{AreProper, PassesChecks}
use Rattle.bank_meaning.specs.declared.request.Asked.{Asked}
use Rattle.bank_meaning.specs.declared.request.Asked.TheVariants as asked
use Rattle.bank_meaning.specs.declared.request.Request.{Request}

-- ---- along a list of requests

abbrev pub is_command : Asked → Bool
is_command (asked.Command command) = true
is_command _ = false

-- A command at the greatest version of the policy is allowed and changes nothing. A store has no room for it and says so, and then the request is marked.
abbrev pub finds_room : WorldLists → Asked → Bool
finds_room w (asked.Command command) = nat_lt w.version max_version
finds_room w _ = true

abbrev pub is_effective : WorldLists → Marked → Bool
is_effective w m = is_accepted w m && finds_room w m.request.asked

-- the requests of a list that have a word: those that are accepted, with room for them where they are commands
abbrev pub effective : WorldLists → List Marked → List Request
effective w [] = []
effective w (m ∷ ms) = if is_effective w m then m.request ∷ effective (after_request w m) ms else effective (after_request w m) ms

-- after the requests
pub record HasLastWord (w : WorldLists) (requests : List Marked) : Type 0 where
  -- after each of them, too
  pub in_force : (n : ℕ) → IsInForce w.policy (effective w (take n requests)) (world_after w (take n requests)).policy
  -- each command that is heard makes one version more
  pub version : (world_after w requests).version ≡ w.version + count_by (λ r. is_command r.asked) (effective w requests)
  -- until the versions are used up, each request that is accepted is heard
  pub all_effective : w.version + count_by (λ r. is_command r.asked) (accepted w requests) ≤ max_version → effective w requests ≡ accepted w requests
  -- no other policy is in force
  pub alone : (p : PolicyLists) → IsPolicySound p → IsPolicyInOrder p → IsInForce w.policy (effective w requests) p → p ≡ (world_after w requests).policy
  -- so each rule says the same of a request, be it read over that
  pub rules : (p : PolicyLists) → IsPolicySound p → IsPolicyInOrder p → IsInForce w.policy (effective w requests) p
      → (q : Request) → first (record (world_after w requests) { policy = p }) q ≡ first (world_after w requests) q

-- What a request leaves alone: an operation the policy and its version, and every other one all lists of the books.
abbrev pub LeavesAlone : Asked → WorldLists → WorldLists → Type 0
LeavesAlone (asked.Operation op) before after = (after.policy ≡ before.policy) × (after.version ≡ before.version)
LeavesAlone _ before after = record after { policy = before.policy; version = before.version } ≡ before

-- of every World that passes both checks, and of every list of requests with any marks; and of every World whatever
abbrev pub LastWord : Type 0
LastWord = ((w : WorldLists) (requests : List Marked) → PassesChecks w → AreProper requests → HasLastWord w requests)
    × ((w : WorldLists) (m : Marked) → LeavesAlone m.request.asked w (after_request w m))
