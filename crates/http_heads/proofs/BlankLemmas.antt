-- Line ends at the front of a list.
use Rattle.std.proofs.Common.{◌≡◌, ◌≢◌, ℕ, List, [], ◌∷◌, ◌++◌, length, length-append, drop, sym, ap, ◌∙◌, arith}
use Rattle.httparse.specs.Grammar.{LineEnd, crlf, lf, print_end, print_blank}
use Rattle.http_heads.proofs.LineLemmas.{end_some}

-- line ends alone
abbrev pub IsBlank : List ℕ → Type 0
IsBlank bytes = (ends : List LineEnd) × (bytes ≡ print_blank ends)

pub more : (bytes rest : List ℕ) (e : LineEnd) → bytes ≡ print_end e ++ rest → IsBlank rest → IsBlank bytes
more bytes rest e is (ends, all) = (e ∷ ends, is ∙ ap (λ l. print_end e ++ l) all)

-- the two line ends begin with different bytes, so the rest is that of the list
same_rest : (d e : LineEnd) (x y : List ℕ) → print_end d ++ x ≡ print_end e ++ y → x ≡ y
same_rest crlf crlf x y is = ap (drop 2) is
same_rest crlf lf x y is = cc
same_rest lf crlf x y is = cc
same_rest lf lf x y is = ap (drop 1) is

pub fewer : (bytes rest : List ℕ) (e : LineEnd) → bytes ≡ print_end e ++ rest → IsBlank bytes → IsBlank rest
fewer bytes rest e is ([], all) =
    absurd (omega (arith, ap length is, ap length all, length-append (print_end e) rest, end_some e))
fewer bytes rest e is (d ∷ ends, all) = (ends, same_rest e d rest (print_blank ends) (sym is ∙ all))

-- bytes that begin with no line end are line ends only if there are none
pub none_left : (bytes : List ℕ) → ((e : LineEnd) (rest : List ℕ) → bytes ≢ print_end e ++ rest) → IsBlank bytes → bytes ≡ []
none_left bytes none ([], all) = all
none_left bytes none (e ∷ ends, all) = absurd (none e (print_blank ends) all)
