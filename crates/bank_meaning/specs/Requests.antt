-- What the rules say of a request, what it leaves and what it is replied.
use Rattle.std.specs.Prelude.{ℕ, Bool, List, ◌∷◌, Option, None}
use Rattle.std.specs.List.{find}
use Rattle.bank_terms.specs.declared.rule.Rule.{Rule}
use Rattle.bank_terms.specs.declared.rule.Rule.TheVariants as rule
use Rattle.bank_books.specs.WorldLists.{WorldLists}
use Rattle.bank_meaning.specs.Commands.{command_meaning}
use Rattle.bank_meaning.specs.Listing.{listing_meaning}
use Rattle.bank_meaning.specs.Meaning.{Meaning, ReplyText, Verdict, rules_after_policy}
use Rattle.bank_meaning.specs.Sessions.{ending_meaning, opening_meaning}
use Rattle.bank_meaning.specs.Slips.{repeated_execution, slipped_meaning}
use Rattle.policy_commands.specs.declared.policy_op.PolicyOp.{PolicyOp}
use Rattle.bank_meaning.specs.declared.execution.Execution.{Execution}
use Rattle.bank_meaning.specs.declared.request.Asked.{Asked}
use Rattle.bank_meaning.specs.declared.request.Asked.TheVariants as asked
use Rattle.bank_meaning.specs.declared.request.Request.{Request}
use Rattle.bank_meaning.specs.declared.who.Who.{Who}

-- the request for an operation
abbrev pub executes : Execution → Request
executes x = record { who = x.who; moment = x.moment; asked = asked.Operation x.op }

-- the request for the opening of a session; neither a session nor a moment is looked at
abbrev pub opens_session : Option ℕ → Request
opens_session user = record { who = record { user = user; session = 0; release = 0; slip = 0 }; moment = 0; asked = asked.Opening }

-- the request for the ending of a session; no moment is looked at
abbrev pub ends_session : Who → Request
ends_session who = record { who = who; moment = 0; asked = asked.Ending }

-- the request for a command; no moment is looked at
abbrev pub commands : PolicyOp → Who → Request
commands command who = record { who = who; moment = 0; asked = asked.Command command }

-- the request for the listing of the policy; no moment is looked at
abbrev pub lists : Who → Request
lists who = record { who = who; moment = 0; asked = asked.Listing }

-- what it is that is asked for, in a World
abbrev pub asked_meaning : Asked → Who → ℕ → WorldLists → Meaning
asked_meaning (asked.Operation op) who moment w = slipped_meaning w (record { who = who; moment = moment; op = op })
asked_meaning asked.Opening who moment w = opening_meaning who w
asked_meaning asked.Ending who moment w = ending_meaning who w
asked_meaning (asked.Command command) who moment w = command_meaning command who w
asked_meaning asked.Listing who moment w = listing_meaning who w

abbrev pub meaning : WorldLists → Request → Meaning
meaning w q = asked_meaning q.asked q.who q.moment w

-- what is asked for was carried out before, with the slip that it bears: the bytes of what was replied then
abbrev pub asked_repeated : Asked → Who → ℕ → WorldLists → Option (List ℕ)
asked_repeated (asked.Operation op) who moment w = repeated_execution w (record { who = who; moment = moment; op = op })
asked_repeated asked.Opening who moment w = None
asked_repeated asked.Ending who moment w = None
asked_repeated (asked.Command command) who moment w = None
asked_repeated asked.Listing who moment w = None

abbrev pub repeated : WorldLists → Request → Option (List ℕ)
repeated w q = asked_repeated q.asked q.who q.moment w

-- the rule denies the request
abbrev pub denies : Rule → WorldLists → Request → Bool
denies r w q = (meaning w q).denies r

-- All rules, in their order. Which of two comes first is said by their places in this list, and not by their numbers.
abbrev pub rules : List Rule
rules = rule.Identity ∷ rule.Slip ∷ rule.NotCertified ∷ rule.NoTriple ∷ rule.Limit ∷ rule.Release ∷ rules_after_policy

-- the first rule that denies a request, or none
abbrev pub first : WorldLists → Request → Option Rule
first w q = find (λ r. denies r w q) rules

-- the World after a request that no rule denies
abbrev pub effect : WorldLists → Request → WorldLists
effect w q = (meaning w q).effect

-- and what it is replied
abbrev pub reply_text : WorldLists → Request → ReplyText
reply_text w q = (meaning w q).reply

-- all of this at once
abbrev pub verdict : Request → WorldLists → Verdict
verdict q w = record { first = first w q; effect = effect w q; reply = reply_text w q }
