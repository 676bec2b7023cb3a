-- What a stream reports, from one moment to the next.
use Rattle.std.proofs.Common.{◌≡◌, ◌≢◌, ◌<◌, ℕ, List, [], ◌++◌, length, length-drop, drop, take, Option, Some, None, Result, Ok, Err, sym, ap, subst, ◌∙◌, append-nil, append_assoc, arith}
use Rattle.counter_door.specs.Ways.{IsAsked, IsReadBy, Moves, Ways}

pub moves_none : (w : Option Ways) → Moves w w [] []
moves_none None = tt
moves_none (Some w) = (sym (append-nil w.received), sym (append-nil w.sent), omega arith)

pub moves_then : (u v w : Option Ways) (came later out more : List ℕ) → Moves u v came out → Moves v w later more → Moves u w (came ++ later) (out ++ more)
moves_then None v w came later out more here there = tt
moves_then (Some u) None w came later out more here there = absurd here
moves_then (Some u) (Some v) None came later out more here there = absurd there
moves_then (Some u) (Some v) (Some w) came later out more here there = (
  there.0 ∙ ap (λ l. l ++ later) here.0 ∙ append_assoc u.received came later,
  there.1 ∙ ap (λ l. l ++ more) here.1 ∙ append_assoc u.sent out more,
  (let first = here.2 in let second = there.2 in omega (arith, first, second)),
)

-- it moved, and was asked then
pub asked_then : (u v w : Option Ways) (came out : List ℕ) → Moves u v came out → IsAsked v w → IsAsked u w
asked_then None v w came out moved asked = tt
asked_then (Some u) None w came out moved asked = absurd moved
asked_then (Some u) (Some v) None came out moved asked = absurd asked
asked_then (Some u) (Some v) (Some w) came out moved asked = let first = moved.2 in omega (arith, first, asked)

pub moves_same : (u v : Option Ways) (came came' out out' : List ℕ) → came ≡ came' → out ≡ out' → Moves u v came out → Moves u v came' out'
moves_same u v came came' out out' is_came is_out moves = subst (λ l. Moves u v l out') is_came (subst (λ l. Moves u v came l) is_out moves)

-- what a read gave, if it gave any
pub came_by : {E : Type 0} (old new : Option Ways) (r : Result ℕ E) (buf : List ℕ) → IsReadBy old new r buf → (came : List ℕ) × Moves old new came []
came_by old new (Ok n) buf is = (take n buf, is)
came_by old new (Err e) buf is = ([], is)

-- n were taken, and not all
pub some_left : (n : ℕ) (given all rest : List ℕ) → given ≡ all → rest ≡ drop n all → n < length given → rest ≢ []
some_left n given all rest is left less none =
    let same = ap length is in
    let empty : length (drop n all) ≡ 0 = ap length (sym left ∙ none) in
    absurd (omega (arith, same, empty, length-drop n all, less))
