use Rattle.std.proofs.Common.{◌≡◌, map, take}
use Rattle.std.specs.Prelude.{codes, flat_map}
use Rattle.std.specs.List.{list_any}
use Rattle.httparse.specs.Spans.{header_bytes}
use Rattle.http_heads.specs.Fields.{eq_ignore_case, values_named}
use Rattle.http_heads.specs.Words.{words}
use Rattle.http_heads.proofs.words.lists_close.Given as goal

abbrev pub invariant-loop-header : goal.invariant-loop-header
invariant-loop-header l =
    l.close ≡ list_any (λ word. eq_ignore_case word (codes "close"))
    (flat_map words (values_named (codes "connection") (map (header_bytes l.bytes) (take l.header-index l.headers))))
