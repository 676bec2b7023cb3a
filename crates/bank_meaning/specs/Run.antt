-- Requests one after another: what each leaves, what it is answered, and which of them are accepted.
use Rattle.std.specs.Prelude.{ℕ, Bool, ◌&&◌, List, [], ◌∷◌, is_none, if◌then◌else◌, Option, None, Some, Result, Ok, Err}
use Rattle.money.specs.declared.fault.Fault.{Fault}
use Rattle.bank_terms.specs.declared.rule.Rule.{Rule}
use Rattle.bank_books.specs.WorldLists.{WorldLists}
use Rattle.store_rows.specs.Status.{after_mark}
use Rattle.bank_meaning.specs.Meaning.{ReplyText, json}
use Rattle.bank_meaning.specs.Requests.{effect, first, repeated, reply_text}
use Rattle.bank_meaning.specs.declared.request.Request.{Request}

-- a request, and the fault that kept it from being made, if one did
pub record Marked : Type 0 where
  pub request : Request
  pub mark : Option Fault

-- the first of two where no rule denies, else the second
abbrev pub if_allowed : {A : Type 0} → Option Rule → A → A → A
if_allowed None allowed denied = allowed
if_allowed (Some rule) allowed denied = denied

-- the first of two where a request is no repeat, else the second
abbrev pub unless_repeated : {A : Type 0} → Option (List ℕ) → A → A → A
unless_repeated None made again = made
unless_repeated (Some text) made again = again

-- The World after a request: its effect where it is no repeat and no rule denies it, else the World as it was.
abbrev pub step : WorldLists → Request → WorldLists
step w r = unless_repeated (repeated w r) (if_allowed (first w r) (effect w r) w) w

-- a request that is marked leaves the World, and counts as not made
abbrev pub after_request : WorldLists → Marked → WorldLists
after_request w m = after_mark m.mark (step w m.request) w

-- the World after a list of requests
abbrev pub world_after : WorldLists → List Marked → WorldLists
world_after w [] = w
world_after w (m ∷ ms) = world_after (after_request w m) ms

abbrev pub stated : Option Rule → ReplyText → Result ReplyText Rule
stated None text = Ok text
stated (Some rule) text = Err rule

-- of a repeat, what was kept
abbrev pub repeated_reply : Option (List ℕ) → Result ReplyText Rule → Result ReplyText Rule
repeated_reply None text = text
repeated_reply (Some kept) text = Ok (json kept)

-- What a request is replied: its text, or the first rule that denies it; of a repeat, what was replied before.
abbrev pub reply : WorldLists → Request → Result ReplyText Rule
reply w r = repeated_reply (repeated w r) (stated (first w r) (reply_text w r))

-- the rule by which it is denied, or none: none denies a repeat
abbrev pub denied_by : WorldLists → Request → Option Rule
denied_by w r = unless_repeated (repeated w r) (first w r) None

-- it is not marked, is no repeat, and no rule denies it
abbrev pub is_accepted : WorldLists → Marked → Bool
is_accepted w m = is_none m.mark && (is_none (repeated w m.request) && is_none (first w m.request))

-- the accepted requests of a list
abbrev pub accepted : WorldLists → List Marked → List Request
accepted w [] = []
accepted w (m ∷ ms) = if is_accepted w m then m.request ∷ accepted (after_request w m) ms else accepted (after_request w m) ms
