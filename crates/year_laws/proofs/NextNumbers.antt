-- The numbers that entries are given next, at both banks.
use Rattle.std.proofs.Common.{◌≡◌, ◌+◌, ℕ, arith}

-- the next number, and the one after it, at the bank that goes on
pub next : (a b n : ℕ) → a ≡ b + n → a + 1 ≡ (b + 1) + n
next a b n is = omega (arith, is)

pub second : (a b n : ℕ) → a ≡ b + n → a + 2 ≡ (b + 2) + n
second a b n is = omega (arith, is)
