-- What is asked of the kept rows of a branch is what the history asks of the branch.
use Rattle.std.proofs.Common.{◌≡◌, ℕ, ◌<◌, ◌^◌, ◌==◌, ◌&&◌, ◌+ℤ◌, List, map, Contains, refl, ap, arith, sym, ◌∙◌, subst, inl, inr}
use Rattle.std.specs.List.{count_by}
use Rattle.std.specs.List.Sorted.{IsPermutation}
use Rattle.std.specs.Option.{option_map_or}
use Rattle.std.proofs.lemmas.Bool.{cases_lt, eqb-true}
use Rattle.std.proofs.lemmas.List.Sorted.{Contains-permutation, IsPermutation-sym}
use Rattle.keyed_rows.specs.Ordered.{AreDistinct}
use Rattle.bank_books.specs.declared.records.AccountRecord.{AccountRecord}
use Rattle.bank_books.specs.declared.records.EntryRecord.{EntryRecord}
use Rattle.bank_books.specs.declared.rows.Account.{Account}
use Rattle.bank_books.specs.declared.rows.Entry.{Entry}
use Rattle.bank_books.specs.Conditions.{HistoryAgrees, home_of}
use Rattle.bank_books.specs.Keys.{account_key, entry_key}
use Rattle.bank_books.specs.Numbering.{AreNumbered}
use Rattle.bank_books.specs.Range.{IsAccount, IsBranch, IsEntryInRange, IsInRange}
use Rattle.bank_books.specs.Records.{KeptLists}
use Rattle.bank_books.specs.WorldLists.{WorldLists}
use Rattle.book_range.specs.Numbers.{BranchesBearNumbers}
use Rattle.book_check.specs.RowConditions.{AccountsOfHistory, BranchesOfHistory, EntriesOfHistory, TellersOfHistory, TurnsOfHistory}
use Rattle.book_check.specs.Turns.{IsAccountInTurns, turn_balance}
use Rattle.book_sums.specs.Shares.{total_up_to}
use Rattle.book_sums.specs.Sums.{AreSumsOf}
use Rattle.book_sums.specs.declared.shares.Part.{Part}
use Rattle.book_sums.specs.declared.sums.Sums.{Sums}
use Rattle.book_sums.proofs.Counting.{both_true, counted_row, made_of, source_of}
use Rattle.book_check.proofs.CashConditions.{amount_in_range}
use Rattle.book_range.proofs.FoundRows.{finds_itself}
use Rattle.book_range.proofs.NumberedRows.{AreNamed, branches_from_numbered, branches_numbered}
use Rattle.book_check.proofs.TurnParts.{balance_given, parts_from_turns, turns_from_parts}

-- what is asked of all kept rows of a branch
abbrev pub RowsAgree : WorldLists → KeptLists → ℕ → Type 0
RowsAgree w kept branch =
    ((BranchesOfHistory w kept branch × TellersOfHistory w kept branch) × (AccountsOfHistory w kept branch × (EntriesOfHistory w kept branch × TurnsOfHistory w kept branch)))
    × BranchesBearNumbers entry_key (λ e. e.number) w.entries kept branch

-- what is kept of an entry is in range
entry_in_range : (w : WorldLists) (kept : KeptLists) → IsInRange w kept → (e : Entry) → Contains w.entries e → (r : EntryRecord) × (IsEntryInRange w.branches w.tellers w.accounts w.entries w.policy.users r × (r.row ≡ e))
entry_in_range w kept in_range e there =
    let source = source_of (λ (r : EntryRecord). r.row) kept.entries w.entries e in_range.rows.entries there in
    (source.0, (in_range.entries source.0 source.1.0, source.1.1))

entries_named : (w : WorldLists) (kept : KeptLists) → IsInRange w kept → AreNamed w (λ e. e.branch) (λ e. e.number) w.entries
entries_named w kept in_range e there =
    let P : Entry → Type 0 = λ row. IsBranch w.branches row.branch × (row.number < 2 ^ 32) in
    let found = entry_in_range w kept in_range e there in
    subst P found.1.1 (found.1.0.branch, omega (arith, found.1.0.number.1))

-- the account of an entry is there
names_account : (w : WorldLists) (kept : KeptLists) → IsInRange w kept → (e : Entry) → Contains w.entries e → IsAccount w.accounts e.account
names_account w kept in_range e there =
    let P : Entry → Type 0 = λ row. IsAccount w.accounts row.account in
    let found = entry_in_range w kept in_range e there in
    subst P found.1.1 found.1.0.account

-- an account that is there is found by its key
home_found : (w : WorldLists) (row : Account) → AreDistinct (map account_key w.accounts) → Contains w.accounts row → home_of w.accounts row.account ≡ row.home
home_found w row distinct there = ap (λ o. option_map_or (λ a. a.home) o 0) (finds_itself account_key w.accounts row distinct there)

turns_agree : (w : WorldLists) (kept : KeptLists) (branch : ℕ) → IsInRange w kept → TurnsOfHistory w kept branch → (account : ℕ) → home_of w.accounts account ≡ branch →
    AreNumbered (λ e. e.account) (λ e. e.turn) w.entries account
turns_agree w kept branch in_range each account home = record {
  low = λ e there is. (here e there is).low e there is;
  high = λ e there is. (here e there is).high e there is;
  once = λ n. elim (cases_lt 1 (count_by (λ e. e.account == account && e.turn == n) w.entries)) [
    | inl many ↦
        let counted = counted_row (λ e. e.account == account && e.turn == n) w.entries (omega (arith, many)) in
        let tests = both_true (counted.0.account == account) (counted.0.turn == n) counted.1.1 in
        (here counted.0 counted.1.0 (eqb-true counted.0.account account tests.0)).once n
    | inr few ↦ few
  ];
}
  where
    here : (e : Entry) → Contains w.entries e → e.account ≡ account → AreNumbered (λ e. e.account) (λ e. e.turn) w.entries account
    here e there is =
        let row = names_account w kept in_range e there in
        let same : row.0.account ≡ account = row.1.1 ∙ is in
        let source = source_of (λ (a : AccountRecord). a.row) kept.accounts w.accounts row.0 in_range.rows.accounts row.1.0 in
        let stated : source.0.row.home ≡ branch = ap (λ a. a.home) source.1.1 ∙ sym (home_found w row.0 in_range.keys.accounts row.1.0) ∙ ap (home_of w.accounts) same ∙ home in
        let P : ℕ → Type 0 = λ k. AreNumbered (λ e. e.account) (λ e. e.turn) w.entries k in
        subst P (ap (λ a. a.account) source.1.1 ∙ same) (each source.0 source.1.0 stated)

turns_by_agreement : (w : WorldLists) (kept : KeptLists) (branch : ℕ) → IsInRange w kept → HistoryAgrees w kept branch → TurnsOfHistory w kept branch
turns_by_agreement w kept branch in_range agrees a there stated =
    let row = made_of (λ (r : AccountRecord). r.row) kept.accounts w.accounts a in_range.rows.accounts there in
    agrees.numbered.turns a.row.account (home_found w a.row in_range.keys.accounts row ∙ stated)

pub agrees_by_rows : (w : WorldLists) (kept : KeptLists) (branch : ℕ) → IsInRange w kept → RowsAgree w kept branch → HistoryAgrees w kept branch
agrees_by_rows w kept branch in_range rows = record {
  given = record { branches = rows.0.0.0; tellers = rows.0.0.1; accounts = rows.0.1.0; entries = rows.0.1.1.0 };
  numbered = record {
    numbers = branches_numbered w kept entry_key (λ e. e.branch) (λ e. e.number) (λ _. refl) w.entries branch in_range.rows in_range.keys.entries (entries_named w kept in_range) rows.1;
    turns = turns_agree w kept branch in_range rows.0.1.1.1;
  };
}

pub rows_by_agreement : (w : WorldLists) (kept : KeptLists) (branch : ℕ) → IsInRange w kept → HistoryAgrees w kept branch → RowsAgree w kept branch
rows_by_agreement w kept branch in_range agrees = (
  ((agrees.given.branches, agrees.given.tellers), (agrees.given.accounts, (agrees.given.entries, turns_by_agreement w kept branch in_range agrees))),
  branches_from_numbered w kept entry_key (λ e. e.branch) (λ e. e.number) (λ _. refl) w.entries branch (entries_named w kept in_range) agrees.numbered.numbers,
)

-- what is judged of the accounts whose home is the branch
abbrev pub AccountsInTurns : KeptLists → Sums → List Part → ℕ → Type 0
AccountsInTurns kept s balances branch = (a : AccountRecord) → Contains kept.accounts a → a.row.home ≡ branch → IsAccountInTurns s.by_turn balances a.row

-- it is what is asked of their entries and turns
pub turns_by_accounts : (w : WorldLists) (kept : KeptLists) (s : Sums) (balances : List Part) (branch : ℕ) → IsInRange w kept → AreSumsOf w s → IsPermutation (map turn_balance kept.entries) balances →
    AccountsInTurns kept s balances branch → EntriesOfHistory w kept branch × TurnsOfHistory w kept branch
turns_by_accounts w kept s balances branch in_range sums moved each = (
  λ e there stated.
      let named = (in_range.entries e there).account in
      let source = source_of (λ (a : AccountRecord). a.row) kept.accounts w.accounts named.0 in_range.rows.accounts named.1.0 in
      let home : source.0.row.home ≡ branch = ap (λ a. a.home) source.1.1 ∙ sym (home_found w named.0 in_range.keys.accounts named.1.0) ∙ ap (home_of w.accounts) named.1.1 ∙ stated in
      let P : Account → Type 0 = λ a. IsAccountInTurns s.by_turn balances a in
      let judged = subst P source.1.1 (each source.0 source.1.0 home) in
      let part = Contains-permutation (map turn_balance kept.entries) balances (turn_balance e) moved (made_of turn_balance kept.entries (map turn_balance kept.entries) e refl there) in
      sym (amount_in_range e.balance_after (in_range.entries e there).balance_after) ∙ judged.amounts (turn_balance e) part (sym named.1.1)
      ∙ sym (balance_given w s named.0 e.row sums in_range.keys.accounts named.1.0 named.1.1),
  λ a there stated. turns_from_parts w s a.row.account sums (each a there stated).turns,
)

pub accounts_by_turns : (w : WorldLists) (kept : KeptLists) (s : Sums) (balances : List Part) (branch : ℕ) → IsInRange w kept → AreSumsOf w s → IsPermutation (map turn_balance kept.entries) balances →
    EntriesOfHistory w kept branch × TurnsOfHistory w kept branch → AccountsInTurns kept s balances branch
accounts_by_turns w kept s balances branch in_range sums moved (entries, turns) a there stated =
    record {
      turns = parts_from_turns w s a.row.account sums (turns a there stated);
      amounts = λ p in_balances of.
          let back = IsPermutation-sym (map turn_balance kept.entries) balances moved in
          let source = source_of turn_balance kept.entries (map turn_balance kept.entries) p refl (Contains-permutation balances (map turn_balance kept.entries) p back in_balances) in
          let e = source.0 in
          let row = made_of (λ (r : AccountRecord). r.row) kept.accounts w.accounts a in_range.rows.accounts there in
          let same : e.row.account ≡ a.row.account = ap (λ q. q.group) source.1.1 ∙ of in
          sym (ap (λ q. q.amount) source.1.1) ∙ amount_in_range e.balance_after (in_range.entries e source.1.0).balance_after
          ∙ entries e source.1.0 (ap (home_of w.accounts) same ∙ home_found w a.row in_range.keys.accounts row ∙ stated)
          ∙ balance_given w s a.row e.row sums in_range.keys.accounts row (sym same) ∙ ap (λ n. a.row.opening +ℤ total_up_to a.row.account n s.by_turn) (ap (λ q. q.number) source.1.1);
    }
