use Rattle.std.proofs.Common.{sym, ap, arith}
use Rattle.std.specs.Prelude.{nat_lt, length}
use Rattle.std.proofs.lemmas.Bool.{lt-ltb}
use Rattle.http_heads.specs.Framing.{is_encoded}
use Rattle.http_heads.proofs.head.Head.is_encoded.Goals as goal

pub returns-in-Missing : goal.returns-in-Missing
unfolding is_encoded
returns-in-Missing c = sym (ap (λ values. nat_lt 0 (length values)) c.in-Missing.ensures)

pub returns-in-One : goal.returns-in-One
unfolding is_encoded
returns-in-One c = sym (ap (λ values. nat_lt 0 (length values)) c.in-One.ensures)

pub returns-in-Several : goal.returns-in-Several
unfolding is_encoded
returns-in-Several c = sym (lt-ltb 0 _ (omega (arith, c.in-Several.ensures)))
