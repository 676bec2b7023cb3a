-- How each fault of a message is answered.
use Rattle.std.specs.Prelude.{ℕ, List, codes}
use Rattle.http_heads.specs.declared.fault.MessageFault.{MessageFault}
use Rattle.http_heads.specs.declared.fault.MessageFault.TheVariants.{BadHead, HeadTooLong, BodyTooLong, TransferEncoding, NoSuchRoute, BadContent}

-- the status code (RFC 9110, section 15; RFC 6585 for 431)
abbrev pub fault_status : MessageFault → ℕ
fault_status BadHead = 400
fault_status HeadTooLong = 431
fault_status BodyTooLong = 413
fault_status TransferEncoding = 501
fault_status NoSuchRoute = 404
fault_status BadContent = 422

-- the body
abbrev pub fault_text : MessageFault → List ℕ
fault_text BadHead = codes "{\"fault\":\"M1\"}"
fault_text HeadTooLong = codes "{\"fault\":\"M2\"}"
fault_text BodyTooLong = codes "{\"fault\":\"M3\"}"
fault_text TransferEncoding = codes "{\"fault\":\"M4\"}"
fault_text NoSuchRoute = codes "{\"fault\":\"M5\"}"
fault_text BadContent = codes "{\"fault\":\"M6\"}"
