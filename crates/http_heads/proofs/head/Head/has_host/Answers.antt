use Rattle.std.proofs.Common.{◌≡◌, ℕ, ◌≤◌, Bool, false, ◌||◌, ◌&&◌, List, length, sym, ap, ◌∙◌, arith}
use Rattle.std.specs.Prelude.{◌==◌}
use Rattle.std.proofs.lemmas.Bool.{ne_eqb}
use Rattle.http_heads.specs.Framing.{has_host}
use Rattle.http_heads.proofs.head.Head.has_host.Goals as goal

-- the test on how many values there are
abbrev test : ℕ → List (List ℕ) → Bool
test minor values = (length values == 1) || ((length values == 0) && (minor == 0))

two : (minor : ℕ) (values : List (List ℕ)) → 2 ≤ length values → false ≡ test minor values
two minor values h =
    sym (λ k. ne_eqb (length values) 1 (λ e. omega arith) k || (ne_eqb (length values) 0 (λ e. omega arith) k && (minor == 0)))

pub returns-in-Missing : goal.returns-in-Missing
unfolding has_host
returns-in-Missing c = ap (λ h. h.minor == 0) c.self.view_is ∙ sym (ap (test c.args.self.now.minor) c.in-Missing.ensures)

pub returns-in-One : goal.returns-in-One
unfolding has_host
returns-in-One c = sym (ap (test c.args.self.now.minor) c.in-One.ensures)

pub returns-in-Several : goal.returns-in-Several
unfolding has_host
returns-in-Several c = two c.args.self.now.minor _ c.in-Several.ensures
