-- The reply to a release that is given is the compact text of its JSON value.
use Rattle.std.proofs.Common.{◌≡◌, ℕ, append_assoc}
use Rattle.serde_json.specs.Written.{compact_text}
use Rattle.serde_json.proofs.OnLiterals.{serde_json_on_literals}
use Rattle.bank_meaning.specs.Release.{release_data, release_text}

pub release_text_is : (beneficiary number : ℕ) → compact_text (release_data beneficiary number) ≡ release_text beneficiary number
unfolding serde_json_on_literals release_text
release_text_is beneficiary number = simp append_assoc
