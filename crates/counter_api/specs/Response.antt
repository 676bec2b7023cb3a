-- What a message is answered: the status (RFC 9110, section 15), the type of the content, and the body: an object of RFC 8259, or plain text.
use Rattle.std.specs.Prelude.{ℕ, List, if◌then◌else◌}
use Rattle.bank_terms.specs.Rule.{is_forbidden}
use Rattle.bank_terms.specs.declared.rule.Rule.{Rule}
use Rattle.bank_meaning.specs.Denial.{denial_text}
use Rattle.bank_meaning.specs.Meaning.{ReplyText, content_type_of}
use Rattle.bank_meaning.specs.declared.reply_kind.ReplyKind.TheVariants as kind
use Rattle.http_heads.specs.Fault as message
use Rattle.http_heads.specs.declared.fault.MessageFault.{MessageFault}
use Rattle.money.specs.declared.fault.Fault.{Fault}
use Rattle.counter_api.specs.Fault.{fault_text}
use Rattle.counter_api.specs.declared.response.Body.{Body}
use Rattle.counter_api.specs.declared.response.Body.TheVariants.{Text, Fixed}

-- a reply's status, the type of its content, and its body
pub record ResponseParts : Type 0 where
  pub status : ℕ
  pub content_type : List ℕ
  pub body : List ℕ

-- the bytes of a body
abbrev pub body_bytes : Body → List ℕ
body_bytes (Text text) = text.items
body_bytes (Fixed text) = text.now

-- to a request that was carried out: 200 OK
abbrev pub done_parts : ReplyText → ResponseParts
done_parts text = record { status = 200; content_type = content_type_of text.kind; body = text.bytes }

-- to a request that a rule denies: 403 Forbidden where the rule is about who asks, and 409 Conflict where it is about the state of the bank
abbrev pub denied_parts : Rule → ResponseParts
denied_parts rule = record { status = if is_forbidden rule then 403 else 409; content_type = content_type_of kind.Json; body = denial_text rule }

-- to a message that asks for nothing that is served, or not in the form that it has to have
abbrev pub refused_parts : MessageFault → ResponseParts
refused_parts fault = record { status = message.fault_status fault; content_type = content_type_of kind.Json; body = message.fault_text fault }

-- to a request that a fault kept from being made: 503 Service Unavailable
abbrev pub faulted_parts : Fault → ResponseParts
faulted_parts fault = record { status = 503; content_type = content_type_of kind.Json; body = fault_text fault }
