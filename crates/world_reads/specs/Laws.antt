-- How reads of many rows and reads of one row answer each other.
use Rattle.std.specs.Prelude.{ℕ, ◌+◌, ◌<◌, ◌≡◌, ◌∷◌, length, map, Some, None}
use Rattle.std.specs.List.{slice_get}
use Rattle.std.specs.List.Sorted.{IsNonDecreasingBy}
use Rattle.keyed_rows.specs.Ordered.{AreDistinct}
use Rattle.bank_books.specs.Keys.{account_key}
use Rattle.bank_books.specs.declared.records.AccountRecord.{AccountRecord}
use Rattle.bank_books.specs.WorldLists.{WorldLists}
use Rattle.bank_policy.specs.PolicyKeys.{ArePolicyRowsInOrder}
use Rattle.policy_check.specs.Soundness.{IsPolicySound}
use Rattle.world_reads.specs.declared.policy_row.PolicyRow.{PolicyRow}
use Rattle.world_reads.specs.BookReads.{entries_of, entry_at, next_shown, shown}
use Rattle.world_reads.specs.PolicyListing.{key_of, next_policy, policy_rows}

-- each of the entries listed from a turn on is that of its turn
abbrev pub EntriesStandByTurn : Type 0
EntriesStandByTurn = (w : WorldLists) (account start count k : ℕ) → k < length (entries_of w account start count) →
    slice_get (entries_of w account start count) k ≡ entry_at w account (start + k)

-- where there are fewer than were asked for, the turn after the last isn't there
abbrev pub EntriesEndWithTurns : Type 0
EntriesEndWithTurns = (w : WorldLists) (account start count : ℕ) → length (entries_of w account start count) < count →
    entry_at w account (start + length (entries_of w account start count)) ≡ None

-- the first of the accounts that are shown is the next one
abbrev pub FirstShownIsNext : Type 0
FirstShownIsNext = (w : WorldLists) (user after count moment : ℕ) → slice_get (shown w user after (count + 1) moment) 0 ≡ next_shown w user after moment

-- the first line of the policy is the next one where no key is given
abbrev pub FirstLineIsNext : Type 0
FirstLineIsNext = (w : WorldLists) → slice_get (policy_rows w) 0 ≡ next_policy w None

-- where accounts stand in order of their numbers and no two bear one number, those above the first follow it
abbrev pub ShownGoesOn : Type 0
ShownGoesOn = (w : WorldLists) (user after count moment : ℕ) (row : AccountRecord) →
    IsNonDecreasingBy account_key w.accounts → AreDistinct (map account_key w.accounts) → next_shown w user after moment ≡ Some row →
    shown w user after (count + 1) moment ≡ row ∷ shown w user row.row.account count moment

-- in a sound policy the line after the key of one is the next of the list
abbrev pub NextLineFollows : Type 0
NextLineFollows = (w : WorldLists) (k : ℕ) (line : PolicyRow) →
    ArePolicyRowsInOrder w.policy.users w.policy.sets w.policy.relations w.policy.triples w.policy.certifiers → IsPolicySound w.policy →
    slice_get (policy_rows w) k ≡ Some line → next_policy w (Some (key_of line)) ≡ slice_get (policy_rows w) (k + 1)
