-- What a store answers of the books of a World: one row by its key, or rows in order of their keys.
use Rattle.std.specs.Prelude.{ℕ, ℤ, ◌==◌, ◌&&◌, Bool, not, nat_lt, List, [], ◌∷◌, map, take, Option, option_map}
use Rattle.std.specs.List.{filter, find, list_any, range_with_len}
use Rattle.std.specs.Option.{option_map_or}
use Rattle.bank_policy.specs.HeldRows.{HeldTriple, triples_of}
use Rattle.bank_policy.specs.Tests.{current, is_within}
use Rattle.bank_terms.specs.declared.item.Kind.TheVariants as kind
use Rattle.bank_terms.specs.declared.procedure.Procedure.TheVariants as procedure
use Rattle.bank_books.specs.Records.{account_record_of, branch_record, entry_record_of, teller_record, teller_record_of}
use Rattle.bank_books.specs.SlipRow.{SlipRow}
use Rattle.bank_books.specs.WorldLists.{WorldLists}
use Rattle.bank_books.specs.declared.records.AccountRecord.{AccountRecord}
use Rattle.bank_books.specs.declared.records.EntryRecord.{EntryRecord}
use Rattle.bank_books.specs.declared.records.TellerRecord.{TellerRecord}
use Rattle.bank_books.specs.declared.rows.Account.{Account}
use Rattle.bank_books.specs.declared.rows.Entry.{Entry}
use Rattle.bank_books.specs.declared.rows.Release.{Release}
use Rattle.bank_books.specs.declared.rows.Teller.{Teller}
use Rattle.world_reads.specs.declared.records.DrawerRecord.{DrawerRecord}

abbrev pub is_teller_of : ℕ → Teller → Bool
is_teller_of branch row = row.branch == branch

-- the tellers of a branch, by number
abbrev pub roster : WorldLists → ℕ → List TellerRecord
roster w branch = map (teller_record_of w) (filter (is_teller_of branch) w.tellers)

abbrev pub is_teller_after : ℕ → ℕ → Teller → Bool
is_teller_after branch after row = row.branch == branch && nat_lt after row.teller

-- the next teller of a branch above a number
abbrev pub next_teller : WorldLists → ℕ → ℕ → Option TellerRecord
next_teller w branch after = option_map (teller_record_of w) (find (is_teller_after branch after) w.tellers)

abbrev pub drawer_record_of : TellerRecord → DrawerRecord
drawer_record_of row = record { cash = row.cash; holder = row.holder }

-- the drawer of a teller
abbrev pub drawer : WorldLists → ℕ → Option DrawerRecord
drawer w teller = option_map drawer_record_of (teller_record w teller)

-- the cash of a branch's vault
abbrev pub vault : WorldLists → ℕ → Option ℤ
vault w branch = option_map (λ row. row.vault) (branch_record w branch)

abbrev pub is_entry : ℕ → ℕ → Entry → Bool
is_entry branch number e = e.branch == branch && e.number == number

-- the entry of this number in the history of a branch
abbrev pub entry : WorldLists → ℕ → ℕ → Option Entry
entry w branch number = find (is_entry branch number) w.entries

abbrev pub undoes_entry : ℕ → ℕ → Entry → Bool
undoes_entry branch number e = e.branch == branch && e.undoes == number

-- some entry of the branch corrects the one of this number; 0 is the number of none
abbrev pub undone : WorldLists → ℕ → ℕ → Bool
undone w branch number = not (number == 0) && list_any (undoes_entry branch number) w.entries

abbrev pub is_entry_at : ℕ → ℕ → Entry → Bool
is_entry_at account turn e = e.account == account && e.turn == turn

-- the entry of an account that is its turn of this number, with the balance after it
abbrev pub entry_at : WorldLists → ℕ → ℕ → Option EntryRecord
entry_at w account turn = option_map (entry_record_of w) (find (is_entry_at account turn) w.entries)

-- the rows that are there, up to the first that is not
abbrev pub there : {A : Type 0} → List (Option A) → List A
there [] = []
there (o ∷ os) = option_map_or (λ row. row ∷ there os) o []

-- the entries of an account that are its turns start, start plus 1 and so on, as long as they are there, at most n
abbrev pub entries_of : WorldLists → ℕ → ℕ → ℕ → List EntryRecord
entries_of w account start count = there (map (entry_at w account) (range_with_len start count))

abbrev pub is_release : ℕ → ℕ → Release → Bool
is_release user number r = r.user == user && r.number == number

-- the release of a user that bears this number
abbrev pub release : WorldLists → ℕ → ℕ → Option Release
release w user number = find (is_release user number) w.releases

abbrev pub is_slip : ℕ → ℕ → SlipRow → Bool
is_slip user number s = s.user == user && s.number == number

-- the slip of a user that bears this number
abbrev pub slip : WorldLists → ℕ → ℕ → Option SlipRow
slip w user number = find (is_slip user number) w.slips

-- the account lies in the set of some one of these triples
abbrev pub is_account_of : List HeldTriple → ℕ → Bool
is_account_of held account = list_any (λ row. list_any (is_within (record { kind = kind.Account; key = account })) row.members) held

abbrev pub is_account_after : List HeldTriple → ℕ → Account → Bool
is_account_after held after a = nat_lt after a.account && is_account_of held a.account

-- the user's triples for the list of accounts that are valid at the moment
abbrev pub accounts_triples : WorldLists → ℕ → ℕ → List HeldTriple
accounts_triples w user moment = current moment (triples_of w.policy user procedure.Accounts)

-- the accounts above a number that the user is shown at a moment, in the order of the World, each row once, at most n
abbrev pub shown : WorldLists → ℕ → ℕ → ℕ → ℕ → List AccountRecord
shown w user after count moment =
    map (account_record_of w) (take count (filter (is_account_after (accounts_triples w user moment) after) w.accounts))

-- the next account above a number that the user is shown then: the first in their order
abbrev pub next_shown : WorldLists → ℕ → ℕ → ℕ → Option AccountRecord
next_shown w user after moment = option_map (account_record_of w) (find (is_account_after (accounts_triples w user moment) after) w.accounts)
