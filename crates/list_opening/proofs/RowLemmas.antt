-- Records of another length.
use Rattle.std.proofs.Common.{◌≡◌, ◌≢◌, [], ◌∷◌, None, length, refl}
use Rattle.list_records.specs.Records.{Record}
use Rattle.list_opening.specs.Rows.{account_row}

pub no_account : (r : Record) → length r ≢ 4 → None ≡ account_row r
no_account [] other = refl
no_account (a ∷ []) other = refl
no_account (a ∷ b ∷ []) other = refl
no_account (a ∷ b ∷ c ∷ []) other = refl
no_account (a ∷ b ∷ c ∷ d ∷ []) other = absurd (other refl)
no_account (a ∷ b ∷ c ∷ d ∷ e ∷ rest) other = refl
