-- What one request makes of a store, and what is returned for it.
use Rattle.std.specs.Prelude.{◌≡◌, ◌<◌, ◌⊎◌, ℕ, Option, None, Result, Ok, Err, IfOk, OnOk}
use Rattle.std.specs.Global.{Vec}
use Rattle.money.specs.declared.fault.Fault.{Fault}
use Rattle.bank_terms.specs.Limits.{max_version}
use Rattle.bank_terms.specs.declared.rule.Rule.{Rule}
use Rattle.bank_books.specs.WorldLists.{WorldLists}
use Rattle.store_rows.specs.Status.{Status, Tells, after_mark}
use Rattle.bank_meaning.specs.Meaning.{ReplyText, json}
use Rattle.bank_meaning.specs.Run.{reply, step}
use Rattle.bank_meaning.specs.declared.request.Request.{Request}

module _ (old new : Status) (r : Request) where
  -- where the store represented a World, it represents the World after the request; where a fault is answered, the same
  abbrev pub Moves : Option Fault → Type 0
  Moves mark = Tells old new (λ w. new.holds (after_mark mark (step w r) w))

  -- what is answered says this of the reply to it
  abbrev pub Replies : {A : Type 0} → (Result ReplyText Rule → A → Type 0) → Result A Fault → Type 0
  Replies says result = Tells old new (λ w. IfOk result (says (reply w r)))

  -- a crash leaves what it could leave before, or the World after the request
  abbrev pub LeavesBoth : Type 0
  LeavesBoth = Tells old new (λ w. (left : WorldLists) → new.may_leave left → old.may_leave left ⊎ (left ≡ step w r))

  -- once it is answered: that World alone, or the request changed nothing
  abbrev pub Settles : Option Fault → Type 0
  Settles mark = mark ≡ None → Tells old new (λ w. ((left : WorldLists) → new.may_leave left → left ≡ step w r)
      ⊎ ((step w r ≡ w) × ((left : WorldLists) → new.may_leave left → old.may_leave left)))

-- Where a command is reported done, there was a next version of the policy: none is reported done that changed nothing.
abbrev pub FindsVersion : Status → Status → Result (Result (Vec ℕ) Rule) Fault → Type 0
FindsVersion old new result = Tells old new (λ w. IfOk result (λ stated. OnOk stated (w.version < max_version)))

-- the reply is this: the bytes of its text, in JSON, or the first rule that denies
abbrev pub IsAnsweredInJson : Result ReplyText Rule → Result (Vec ℕ) Rule → Type 0
IsAnsweredInJson reply (Ok text) = reply ≡ Ok (json text.items)
IsAnsweredInJson reply (Err rule) = reply ≡ Err rule
