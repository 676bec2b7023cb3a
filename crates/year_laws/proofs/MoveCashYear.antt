-- Cash that is moved at the bank that goes on and at the next year's.
use Rattle.std.proofs.Common.{Bool, None, Option, [], ap, ap₂, false, not, refl, true, ℕ, ℤ, ◌&&◌, ◌||◌, ◌≡◌}
use Rattle.std.specs.Option.{option_map_or}
use Rattle.std.specs.Prelude.{if◌then◌else◌, is_none, option_and_then, option_map}
use Rattle.bank_books.specs.Records.{teller_record}
use Rattle.bank_books.specs.WorldLists.{WorldLists}
use Rattle.bank_books.specs.declared.records.TellerRecord.{TellerRecord}
use Rattle.bank_books.specs.declared.signature.Signature.{Signature}
use Rattle.counter_ops.specs.declared.move_cash.MoveCash.{MoveCash}
use Rattle.counter_ops.specs.declared.op.Op.TheVariants as op
use Rattle.rule_tests.specs.Rules.{drawer_covers, vault_covers}
use Rattle.drawers.specs.MoveCash.{from_source, is_missing, is_vault, move_rows, move_tests, moved, place_cash, teller_at}
use Rattle.bank_meaning.specs.Meaning.{ReplyText, json}
use Rattle.bank_meaning.specs.MoveCash.{moved_text}
use Rattle.bank_meaning.specs.Operations.{meaning_of}
use Rattle.year_laws.specs.GoesOn.{AreBoth, GoesOn, IsSameTeller, Turn, op_at_old}
use Rattle.year_laws.specs.RepliedAlike.{IsRepliedAlike}
use Rattle.year_laws.proofs.AlikeRows.{chosen_same, covers_same, free_same, held_by_same, mapped_same, none_same, teller_is_of_same}
use Rattle.year_laws.proofs.IsYearForm.{IsYearForm}
use Rattle.year_laws.proofs.MovesAlike.{move_stays}
use Rattle.year_laws.proofs.TestParts.{AreTestsAlike, anew, both, either, no_book, vaults}

-- the cash of a place: of the vault, or of a drawer
place_same : (place : ℕ) (c : Bool) (a b : Option TellerRecord) (v u : Option ℤ) → AreBoth IsSameTeller a b → v ≡ u
    → (if c then v else option_map (λ x. x.cash) a) ≡ (if c then u else option_map (λ x. x.cash) b)
place_same place true a b v u same is = is
place_same place false a b v u same is = mapped_same IsSameTeller (λ x. x.cash) (λ x y s. s.cash) a b same

module _ (t : Turn) (old new : WorldLists) (on : GoesOn t old new) where
  places : (key : ℕ) → AreBoth IsSameTeller (teller_at old key) (teller_at new key)
  places key = chosen_same IsSameTeller (is_vault key) (teller_record old key) (teller_record new key) (on.tellers key)

  move_vault : (move : MoveCash) → (move_rows old move).vault ≡ (move_rows new move).vault
  move_vault move = ap (λ v. if is_vault move.source || is_vault move.target then v else None) (vaults on move.branch)

  missing : (key : ℕ) → is_missing key (teller_at old key) ≡ is_missing key (teller_at new key)
  missing key = ap (λ p. not (is_vault key) && p) (none_same IsSameTeller (teller_at old key) (teller_at new key) (places key))

  giver : (c : Bool) (source target : ℕ) → AreBoth IsSameTeller (if c then teller_at old target else teller_at old source) (if c then teller_at new target else teller_at new source)
  giver true source target = places target
  giver false source target = places source

  giver_covers : (c : Bool) (key : ℕ) (added : ℤ) (v u : Option ℤ) → v ≡ u
      → (if c then vault_covers v added else drawer_covers (teller_at old key) added) ≡ (if c then vault_covers u added else drawer_covers (teller_at new key) added)
  giver_covers true key added v u same = ap (λ x. vault_covers x added) same
  giver_covers false key added v u same = covers_same (teller_at old key) (teller_at new key) (places key) added

  move_alike : (move : MoveCash) (by : Signature) → AreTestsAlike (move_tests (move_rows old move) move by) (move_tests (move_rows new move) move by)
  move_alike move by = (
    refl,
    (λ z. either (either (either (missing move.source) (missing move.target)) (no_book on move.branch)) (ap (λ v. (is_vault move.source || is_vault move.target) && is_none v) (move_vault move))),
    (
      refl,
      (λ z. ap not (both (teller_is_of_same (teller_at old move.source) (teller_at new move.source) (places move.source) move.branch)
          (teller_is_of_same (teller_at old move.target) (teller_at new move.target) (places move.target) move.branch))),
      (
        refl,
        (λ z. ap not (both (held_by_same _ _ (giver (is_vault move.source) move.source move.target) by.user)
            (ap not (free_same (teller_at old move.target) (teller_at new move.target) (places move.target))))),
        (
          refl,
          (λ z. ap not (giver_covers (is_vault move.source) move.source (from_source move) (move_rows old move).vault (move_rows new move).vault (move_vault move))),
          (
            refl,
            (λ z. anew _ _ z),
            (
              refl,
              (λ z. anew _ _ z),
              tt,
            ),
          ),
        ),
      ),
    ),
  )

  cash_at : (move : MoveCash) (place : ℕ) → place_cash place (teller_at old place) (move_rows old move).vault ≡ place_cash place (teller_at new place) (move_rows new move).vault
  cash_at move place =
      place_same place (is_vault place) (teller_at old place) (teller_at new place) (move_rows old move).vault (move_rows new move).vault (places place) (move_vault move)

  move_cash_replied : (move : MoveCash) (by : Signature) → IsRepliedAlike t (op.MoveCash move) (meaning_of (op_at_old t (op.MoveCash move)) by old).reply (meaning_of (op.MoveCash move) by new).reply
  move_cash_replied move by =
      ap₂ (λ s u. json (option_map_or moved_text (option_and_then (λ source. option_map (λ target. moved move source target) u) s) [])) (cash_at move move.source) (cash_at move move.target)

pub move_cash_in_years : (form : MoveCash) → IsYearForm (op.MoveCash form)
move_cash_in_years form = record {
  tests = λ t old new on names by. move_alike t old new on form by;
  replies = λ t old new on names by. move_cash_replied t old new on form by;
  kept = λ t a b replied. ap (λ (r : ReplyText). json r.bytes) replied;
  stays = λ t old new stay names by old_none new_none. move_stays t old new stay form by old_none new_none;
}
