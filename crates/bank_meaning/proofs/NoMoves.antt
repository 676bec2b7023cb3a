-- What moves nothing is within each amount.
use Rattle.std.proofs.Common.{ℕ}
use Rattle.bank_meaning.specs.Moves.{moves_nothing}
use Rattle.bank_meaning.proofs.AmountParts.{no_amount}
use Rattle.bank_meaning.proofs.IsForm.{AreWithin}

pub none_within : (most : ℕ) → AreWithin most moves_nothing
none_within most = record { branches = λ key. no_amount most; tellers = λ key. no_amount most; accounts = λ key. no_amount most }
