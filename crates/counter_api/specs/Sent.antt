-- How far the reply of a report went out.
use Rattle.std.specs.Prelude.{ℕ, List, Option, Some, None, codes, ⊤}
use Rattle.std.specs.Io.KnownBytes.{Appends}
use Rattle.money.specs.declared.fault.Fault.{Fault}
use Rattle.money.specs.declared.tallied.Tallied.{Tallied}
use Rattle.http_heads.specs.Framing.{closes}
use Rattle.http_messages.specs.Failures.{CountsNone, CountsOne}
use Rattle.http_messages.specs.Parts.{MessageParts}
use Rattle.http_messages.specs.Reply.{head_bytes}
use Rattle.store_rows.specs.Status.{Keeps, RoseBy, Status, Tells}
use Rattle.bank_meaning.specs.Meaning.{plain}
use Rattle.reports.specs.Report.{BeginsWith, IsCounted, text_of}
use Rattle.reports.specs.declared.contents.Contents.{Contents}
use Rattle.counter_api.specs.Response.{done_parts}
use Rattle.counter_api.specs.Run.{IsWhole, framed}
use Rattle.counter_api.specs.declared.sent.Sent.{Sent}
use Rattle.counter_api.specs.declared.sent.Sent.TheVariants.{Whole, Stopped, Broken}

-- how what went out stands to the reply
abbrev pub went : Sent → List ℕ → List ℕ → Type 0
went Whole = IsWhole
went Stopped = BeginsWith
went (Broken fault) = BeginsWith

-- the fault that broke it off, if one did
abbrev pub fault_of : Sent → Option Fault
fault_of Whole = None
fault_of Stopped = None
fault_of (Broken fault) = Some fault

-- the reply to a message whose body is this text
abbrev pub report_reply : MessageParts → List ℕ → List ℕ
report_reply m text = framed m (done_parts (plain text))

-- the head of that reply, where the text has this length
abbrev pub report_head : MessageParts → ℕ → List ℕ
report_head m len = head_bytes 200 (codes "text/plain") len (closes m.head)

-- The head went out, with the length that its text was to have.
abbrev pub HasHead : MessageParts → List ℕ → Type 0
HasHead m sent = (len : ℕ) × BeginsWith sent (report_head m len)

-- a report breaks after its head alone
abbrev pub IsHeaded : MessageParts → Sent → List ℕ → Type 0
IsHeaded m (Broken fault) sent = HasHead m sent
IsHeaded m _ sent = ⊤

-- What went out, of each World in which the report was counted and that the store stood for: the reply, or a beginning of it.
abbrev pub IsStreamed : Status → Status → Option (List ℕ) → Option (List ℕ) → MessageParts → Contents → Sent → Type 0
IsStreamed old new before after m c how =
    Keeps old new (fault_of how) × (sent : List ℕ) × Appends before after sent × IsHeaded m how sent × Tells old new (λ w. IsCounted w c → went how (report_reply m (text_of w c)) sent)

-- The fault that broke it off was counted, of each World in which the report was counted: want of memory counts, too.
abbrev pub CountsBreak : Status → Status → Contents → Sent → Type 0
CountsBreak old new c (Broken fault) = Tells old new (λ w. IsCounted w c → RoseBy 1 old.fault_count new.fault_count)
CountsBreak old new c _ = ⊤

-- the writer counted a write that failed, and nothing else
abbrev pub CountsBySent : {W : Type 0} → Tallied W → Tallied W → Sent → Type 0
CountsBySent old new Whole = CountsNone old new
CountsBySent old new Stopped = CountsOne old new
CountsBySent old new (Broken fault) = CountsNone old new
