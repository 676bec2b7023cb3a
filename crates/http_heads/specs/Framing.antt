-- What the fields of a head say of its body and of the connection, and the faults that they make.
use Rattle.std.specs.Prelude.{ℕ, List, [], ◌∷◌, Bool, not, ◌&&◌, ◌||◌, ◌==◌, nat_lt, length, codes, Option, Some, None, unwrap_or, if◌then◌else◌, flat_map, bytes_eq}
use Rattle.std.specs.List.{list_all, list_any}
use Rattle.std.specs.Option.{is_some}
use Rattle.std.specs.Char.{is_ascii_digit}
use Rattle.std.specs.Str.Parse.{digits_value}
use Rattle.http_heads.specs.declared.fault.MessageFault.{MessageFault}
use Rattle.http_heads.specs.declared.fault.MessageFault.TheVariants.{BadHead, BodyTooLong, TransferEncoding}
use Rattle.http_heads.specs.Fields.{eq_ignore_case, values_named}
use Rattle.http_heads.specs.Parts.{HeadParts}
use Rattle.http_heads.specs.Words.{words}

-- the longest body
abbrev pub max_body_len : ℕ
max_body_len = 1024

-- 1*DIGIT
abbrev pub is_digits : List ℕ → Bool
is_digits value = nat_lt 0 (length value) && list_all is_ascii_digit value

-- the length that the values of Content-Length fields state (RFC 9110, section 8.6): 0 where there is none;
-- nothing where there are two, or where one is not digits
abbrev pub stated_len : List (List ℕ) → Option ℕ
stated_len [] = Some 0
stated_len (value ∷ []) = if is_digits value then Some (digits_value 10 value) else None
stated_len (value ∷ other ∷ values) = None

-- the length that a head states
unfoldable pub content_length : HeadParts → Option ℕ
content_length p = stated_len (values_named (codes "content-length") p.fields)

-- one Host field, or none in HTTP/1.0 (RFC 9112, section 3.2)
unfoldable pub has_host : HeadParts → Bool
has_host p = let n = length (values_named (codes "host") p.fields) in (n == 1) || ((n == 0) && (p.minor == 0))

-- a Transfer-Encoding field
unfoldable pub is_encoded : HeadParts → Bool
is_encoded p = nat_lt 0 (length (values_named (codes "transfer-encoding") p.fields))

-- how many bytes of body follow a head
abbrev pub body_len : HeadParts → ℕ
body_len p = unwrap_or (content_length p) 0

-- the fault of a head: the one of the least number
abbrev pub head_fault : HeadParts → Option MessageFault
head_fault p =
    if not (has_host p) || not (is_some (content_length p)) then Some BadHead
    else (if nat_lt max_body_len (body_len p) then Some BodyTooLong
    else (if is_encoded p then Some TransferEncoding else None))

-- the method HEAD (RFC 9110, section 9.3.2): the reply has no body bytes
abbrev pub asks_head : HeadParts → Bool
asks_head p = bytes_eq p.method (codes "HEAD")

-- the elements of every Connection field
unfoldable pub connection_words : HeadParts → List (List ℕ)
connection_words p = flat_map words (values_named (codes "connection") p.fields)

-- the connection ends after the reply (RFC 9112, section 9.3): in HTTP/1.0, or where Connection lists `close`
abbrev pub closes : HeadParts → Bool
closes p = (p.minor == 0) || list_any (λ word. eq_ignore_case word (codes "close")) (connection_words p)
