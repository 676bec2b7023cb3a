-- What holds of every request: a report is what is replied in plain text, and what is stated is in range.
use Rattle.std.specs.Prelude.{◌≡◌, ◌↔◌, ◌≤◌, ℕ, List, Option, IfOk}
use Rattle.bank_terms.specs.Limits.{max_moment}
use Rattle.bank_books.specs.WorldLists.{WorldLists}
use Rattle.bank_meaning.specs.Requests.{reply_text}
use Rattle.bank_meaning.specs.Sums.{IsProper}
use Rattle.bank_meaning.specs.declared.reply_kind.ReplyKind.TheVariants as kind
use Rattle.bank_meaning.specs.declared.request.Request.{Request}
use Rattle.http_messages.specs.Parts.{MessageParts}
use Rattle.requests.specs.Request.{IsReport, request_of}

-- and all else is an object in JSON, so that what is written row by row is a report and nothing else
abbrev pub ReportsArePlain : Type 0
ReportsArePlain = (w : WorldLists) (q : Request) → IsReport q.asked ↔ ((reply_text w q).kind ≡ kind.Plain)

-- What a message states is in range, whatever comes of it: its members, its slip, and the moment that it bears.
abbrev pub WhatIsStatedIsInRange : Type 0
WhatIsStatedIsInRange = (users : List ℕ → Option ℕ) (moment : ℕ) (m : MessageParts) → moment ≤ max_moment → IfOk (request_of users moment m) IsProper
