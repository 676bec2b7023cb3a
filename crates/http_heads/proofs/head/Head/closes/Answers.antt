use Rattle.std.proofs.Common.{◌||◌, map, sym, ap, ◌∙◌}
use Rattle.std.specs.Prelude.{codes, flat_map}
use Rattle.std.specs.List.{list_any}
use Rattle.std.proofs.lemmas.Bool.{ne_eqb}
use Rattle.httparse.specs.Spans.{header_bytes}
use Rattle.http_heads.specs.Fields.{values_named}
use Rattle.http_heads.specs.Framing.{connection_words, closes}
use Rattle.http_heads.specs.Words.{words}
use Rattle.http_heads.proofs.WordLemmas.{is_close}
use Rattle.http_heads.proofs.head.Head.closes.Goals as goal

pub returns : goal.returns
unfolding connection_words
returns c =
    let h = c.self.inside in
    let later = ne_eqb h.minor 0 c.if-self-eq0.false in
    let listed = flat_map words (values_named (codes "connection") (map (header_bytes h.bytes.now) h.headers.now)) in
    c.lists_close.ensures ∙ (λ k. sym later k || list_any is_close listed) ∙ ap closes c.self.view_is
