use Rattle.std.proofs.Common.{map, take}
use Rattle.httparse.specs.Spans.{header_bytes}
use Rattle.http_heads.specs.Fields.{values_named}
use Rattle.http_heads.specs.Found.{IsFound}
use Rattle.http_heads.proofs.fields.find_field.Given as goal

abbrev pub invariant-loop-header : goal.invariant-loop-header
invariant-loop-header l = IsFound (values_named l.name (map (header_bytes l.bytes) (take l.header-index l.headers))) l.found
