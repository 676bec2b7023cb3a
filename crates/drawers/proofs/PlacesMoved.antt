-- What is known of a place whose cash is moved, where neither the rule on missing rows nor the one on the range denies.
use Rattle.std.proofs.Common.{◌≡◌, ◌+ℤ◌, ℕ, ℤ, Some, None, true, false, not, refl}
use Rattle.std.specs.Prelude.{◌||◌, ◌&&◌, Bool, Option, is_none, option_map, if◌then◌else◌, IsSomeAnd}
use Rattle.std.proofs.lemmas.Bool.{and_parts, or_parts, true≢false}
use Rattle.money.specs.Range.{IsCents}
use Rattle.bank_books.specs.declared.records.TellerRecord.{TellerRecord}
use Rattle.counter_ops.specs.declared.move_cash.MoveCash.{MoveCash}
use Rattle.rule_tests.proofs.RuleTests.{cents_from}
use Rattle.rule_tests.specs.Rules.{drawer_in_range, vault_in_range}
use Rattle.drawers.specs.MoveCash.{from_source, into_target, is_in_range, is_missing, is_unknown, is_vault, place_cash, place_in_range}
use Rattle.drawers.specs.declared.move_cash.MoveRows.{MoveRows}

by_form : (vaulted : Bool) (row : Option TellerRecord) (vault : Option ℤ) (added : ℤ) → not vaulted && is_none row ≡ false → vaulted && is_none vault ≡ false
    → (if vaulted then vault_in_range vault added else drawer_in_range row added) ≡ true
    → IsSomeAnd (if vaulted then vault else option_map (λ t. t.cash) row) (λ cash. IsCents (cash +ℤ added))
by_form true row (Some cash) added known there in_range = cents_from _ in_range
by_form true row None added known there in_range = absurd (true≢false there)
by_form false (Some teller) vault added known there in_range = cents_from _ in_range
by_form false None vault added known there in_range = absurd (true≢false known)

place_there : (place : ℕ) (row : Option TellerRecord) (vault : Option ℤ) (added : ℤ) → is_missing place row ≡ false → is_vault place && is_none vault ≡ false
    → place_in_range place row vault added ≡ true → IsSomeAnd (place_cash place row vault) (λ cash. IsCents (cash +ℤ added))
place_there place row vault added known there in_range = by_form (is_vault place) row vault added known there in_range

of_first : (first second none : Bool) → (first || second) && none ≡ false → first && none ≡ false
of_first true second none known = known
of_first false second none known = refl

of_second : (first second none : Bool) → (first || second) && none ≡ false → second && none ≡ false
of_second true true none known = known
of_second true false none known = refl
of_second false second none known = known

pub source_there : (rows : MoveRows) (move : MoveCash) → is_unknown rows move ≡ false → is_in_range rows move ≡ true
    → IsSomeAnd (place_cash move.source rows.source rows.vault) (λ cash. IsCents (cash +ℤ from_source move))
source_there rows move known in_range =
    let missing = or_parts _ _ known in
    let rest = or_parts _ _ missing.0 in
    let tellers = or_parts _ _ rest.0 in
    let places = and_parts _ _ (and_parts _ _ in_range).0 in
    place_there move.source rows.source rows.vault (from_source move) tellers.0 (of_first (is_vault move.source) (is_vault move.target) _ missing.1) places.0

pub target_there : (rows : MoveRows) (move : MoveCash) → is_unknown rows move ≡ false → is_in_range rows move ≡ true
    → IsSomeAnd (place_cash move.target rows.target rows.vault) (λ cash. IsCents (cash +ℤ into_target move))
target_there rows move known in_range =
    let missing = or_parts _ _ known in
    let rest = or_parts _ _ missing.0 in
    let tellers = or_parts _ _ rest.0 in
    let places = and_parts _ _ (and_parts _ _ in_range).0 in
    place_there move.target rows.target rows.vault (into_target move) tellers.1 (of_second (is_vault move.source) (is_vault move.target) _ missing.1) places.1
