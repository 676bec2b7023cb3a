-- A reply is the texts of which it is put together.
use Rattle.std.proofs.Common.{◌≡◌, ℕ, List}
use Rattle.http_messages.specs.Reply.{reply_texts}

-- the same texts make the same bytes
pub same_texts : (a a' b b' c c' d d' e e' f f' : List ℕ) → a ≡ a' → b ≡ b' → c ≡ c' → d ≡ d' → e ≡ e' → f ≡ f'
    → reply_texts a b c d e f ≡ reply_texts a' b' c' d' e' f'
same_texts a a' b b' c c' d d' e e' f f' p q r s t u = λ i. reply_texts (p i) (q i) (r i) (s i) (t i) (u i)
