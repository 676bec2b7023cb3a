-- What is supposed of turns, and of rounds, is met by what it is named for.
use Rattle.std.proofs.Common.{◌≡◌, ◌++◌, ℕ, List, [], ◌∷◌, length, length-append, append-nil, All, inl, refl, sym, ap, arith}
use Rattle.std.proofs.lemmas.List.Elements.{All-cons, All-head, All-nil, All-tail}
use Rattle.http_heads.proofs.LineLemmas.{head_len}
use Rattle.http_messages.specs.Next.{IsPartial}
use Rattle.http_messages.specs.Whole.{IsMessage, Splits, WholeMessage, print_message}
use Rattle.http_messages.proofs.EndLemmas.{one_end}
use Rattle.counter_loop.specs.Boxes.{HoldsWhole}
use Rattle.counter_loop.specs.Premises.{PremisesAreMet}
use Rattle.counter_loop.specs.Turns.{AreUnbroken, Turn}

unbroken : (turns : List Turn) → All (λ t. length t.run ≡ length t.messages) turns → AreUnbroken turns
unbroken [] whole = tt
unbroken (t ∷ ts) whole =
    (All-head (λ t. length t.run ≡ length t.messages) t ts whole, unbroken ts (All-tail (λ t. length t.run ≡ length t.messages) t ts whole))

-- a message has bytes, and no part of one is its reading, too
no_part : (m : WholeMessage) (more : List ℕ) → IsMessage m → IsPartial (print_message m ++ more) → ⊥
no_part m more is part =
    let bytes : List ℕ = print_message m ++ more in
    let none : Splits bytes [] bytes = record { whole = refl; each = All-nil IsMessage } in
    let one : Splits bytes (m ∷ []) more = record {
      whole = ap (λ l. l ++ more) (sym (append-nil (print_message m)));
      each = All-cons IsMessage m [] is (All-nil IsMessage);
    } in
    omega (arith, one_end bytes [] (m ∷ []) bytes more none one (inl part))

held_whole : (m : WholeMessage) (more : List ℕ) → IsMessage m → HoldsWhole (print_message m ++ more)
held_whole m more is = (
  λ none. omega (arith, head_len m.head is.head, ap length none, length-append {A = ℕ}),
  no_part m more is,
)

pub premises_are_met : PremisesAreMet
premises_are_met = record { unbroken = unbroken; whole = held_whole }
