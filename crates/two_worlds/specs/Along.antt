-- The replies to the requests of one user, one after another: two Worlds that agree for each of them give the same ones.
use Rattle.std.specs.Prelude.{ℕ, ◌≡◌, ◌⊎◌, Bool, true, false, List, [], ◌∷◌, All, Result}
use Rattle.bank_policy.specs.HeldRows.{user_row}
use Rattle.bank_terms.specs.declared.rule.Rule.{Rule}
use Rattle.bank_terms.specs.declared.rule.Rule.TheVariants as rule
use Rattle.bank_books.specs.WorldLists.{WorldLists}
use Rattle.bank_meaning.specs.Meaning.{ReplyText}
use Rattle.bank_meaning.specs.PolicyRules.{asker}
use Rattle.bank_meaning.specs.Requests.{denies, executes}
use Rattle.bank_meaning.specs.Run.{reply, step}
use Rattle.bank_meaning.specs.Sums.{IsProper, PassesChecks}
use Rattle.bank_meaning.specs.declared.execution.Execution.{Execution}
use Rattle.bank_meaning.specs.declared.request.Asked.{Asked}
use Rattle.bank_meaning.specs.declared.request.Asked.TheVariants as asked
use Rattle.bank_meaning.specs.declared.request.Request.{Request}
use Rattle.bank_meaning.specs.declared.who.Who.{Who}
use Rattle.two_worlds.specs.Agree.{Agree, AgreeOnPolicy, AgreeOnSlip}

-- the replies to requests, each to the World that the one before it left
abbrev pub replies : WorldLists → List Request → List (Result ReplyText Rule)
replies w [] = []
replies w (q ∷ qs) = reply w q ∷ replies (step w q) qs

-- the rules that look at relations and triples alone
abbrev pub is_of_triples : Rule → Bool
is_of_triples rule.NotCertified = true
is_of_triples rule.NoTriple = true
is_of_triples rule.Limit = true
is_of_triples _ = false

-- no relation or no triple of the user's holds all that it touches, or none reaches the amount and no release is named
pub record IsOutside (w : WorldLists) (x : Execution) : Type 0 where
  pub rule : Rule
  pub of_triples : is_of_triples rule ≡ true
  pub denies : denies rule w (executes x) ≡ true

-- On all that the reply to what is asked for depends on. It is nothing of items where an operation is outside of what
-- the user's triples hold, only the slip that it names, and the row of the user where a session is asked for. Of
-- commands and of the listing nothing is said.
abbrev pub AgreeOn : WorldLists → WorldLists → Who → ℕ → Asked → Type 0
AgreeOn w v who moment (asked.Operation op) =
    let x : Execution = record { who = who; moment = moment; op = op } in
    Agree w v x ⊎ (AgreeOnPolicy w v x × AgreeOnSlip w v x × IsOutside w x)
AgreeOn w v who moment asked.Opening = user_row w.policy (asker who) ≡ user_row v.policy (asker who)
AgreeOn w v who moment asked.Ending = user_row w.policy (asker who) ≡ user_row v.policy (asker who)
AgreeOn w v who moment _ = ⊥

-- a request of this user on which they agree
pub record IsAgreed (w v : WorldLists) (user : ℕ) (q : Request) : Type 0 where
  pub by : asker q.who ≡ user
  pub proper : IsProper q
  pub agree : AgreeOn w v q.who q.moment q.asked

-- If they agree at first for each of the user's requests, they give the same replies, whatever each of these changes.
abbrev pub TwoWorldsAlong : Type 0
TwoWorldsAlong = (w v : WorldLists) (user : ℕ) (requests : List Request) → PassesChecks w → PassesChecks v → All (IsAgreed w v user) requests → replies w requests ≡ replies v requests
