-- That the rows of a bank give its World, its policy and its numbers, and that a verdict on it is no fault.
use Rattle.std.proofs.Common.{IfErr, Result, ◌≡◌, ◌≢◌, ◌==◌, ℕ, ap, sym, subst, ◌∙◌, None, Some, Ok, Err, Option, List, refl, map}
use Rattle.std.specs.Prelude.{if◌then◌else◌, unwrap_or}
use Rattle.std.proofs.lemmas.Bool.{ne_eqb}
use Rattle.std.proofs.lemmas.Option.{same_Some}
use Rattle.bank_policy.specs.Policy.{PolicyLists}
use Rattle.bank_books.specs.Records.{KeptLists, account_record_of, branch_record_of, entry_record_of, kept_of, teller_record_of}
use Rattle.bank_books.specs.WorldLists.{WorldLists}
use Rattle.bank_books.specs.declared.records.TellerRecord.{TellerRecord}
use Rattle.book_check.specs.Verdict.{IsVerdict}
use Rattle.book_check.specs.declared.check.BooksFault.{BooksFault}
use Rattle.book_check.specs.declared.check.BooksFault.TheVariants as books_fault
use Rattle.keyed_rows.proofs.Rows.{map-made, map-map}
use Rattle.book_kept.proofs.RowLemmas.{map_same}
use Rattle.book_kept.specs.Keepable.{IsKeepable}
use Rattle.book_kept.specs.Records.{kept_teller, kept_teller_of, kept_user_of}
use Rattle.book_kept.specs.Sheets.{Sheets}
use Rattle.book_kept.specs.declared.records.KeptUser.{KeptUser}
use Rattle.policy_check.specs.PolicyVerdict.{IsPolicyVerdict}
use Rattle.policy_check.specs.declared.policy_fault.PolicyFault.{PolicyFault}
use Rattle.policy_check.specs.declared.policy_fault.PolicyFault.TheVariants.{Dangling, OfficerHolds, Separation}
use Rattle.sql_whole.specs.declared.book_rows.BookRows.{BookRows}
use Rattle.sql_whole.specs.declared.policy_tables.PolicyTables.{PolicyTables}
use Rattle.sql_adopt.proofs.CountLemmas.{counts_there}
use Rattle.sql_adopt.specs.Refused.{IsOfBooks, IsOfPolicy, IsOfStore}
use Rattle.sql_adopt.specs.declared.adopt_fault.AdoptFault.{AdoptFault}
use Rattle.sql_adopt.specs.declared.adopt_fault.AdoptFault.TheVariants as adopt_fault
use Rattle.sql_adopt.specs.ReadBack.{AreBooksInOrder, IsBankOf, IsPolicyOf, counts_read_back, kept_read, sheets_read, teller_read, world_read}

-- ---- verdicts

-- books that hold have no fault
pub holds_or_fails : (w : WorldLists) (kept : KeptLists) (fault : BooksFault) → IsVerdict w kept (Ok tt) → IsVerdict w kept (Err fault) → ⊥
holds_or_fails w kept books_fault.Range holds fails = fails holds.0.in_range
holds_or_fails w kept (books_fault.ConditionB branch) holds fails = fails.1.fails (holds.0.tellers_agree branch)
holds_or_fails w kept (books_fault.ConditionC branch) holds fails = fails.2.fails (holds.0.history_agrees branch)
holds_or_fails w kept (books_fault.Cash branch) holds fails = fails.3.fails (holds.0.cash_agrees branch)
holds_or_fails w kept books_fault.ConditionA holds fails = fails.4 holds.0.totals_agree

-- nor has a policy that is sound and separated
pub sound_or_fails : (policy : PolicyLists) (fault : PolicyFault) → IsPolicyVerdict policy (Ok tt) → IsPolicyVerdict policy (Err fault) → ⊥
sound_or_fails policy Dangling sound fails = fails sound.0
sound_or_fails policy (OfficerHolds user) sound fails = sound.1.officers user fails.1.0
sound_or_fails policy (Separation user procedure) sound fails = sound.1.others user procedure fails.2.0

-- a fault of books that hold is none of theirs
pub books_or_store : (w : WorldLists) (kept : KeptLists) (fault : AdoptFault) → IsVerdict w kept (Ok tt) → IsOfBooks w kept fault → IsOfStore fault
books_or_store w kept (adopt_fault.Books fault) holds of = absurd (holds_or_fails w kept fault holds of)
books_or_store w kept (adopt_fault.Policy fault) holds of = of
books_or_store w kept (adopt_fault.Fault fault) holds of = tt
books_or_store w kept adopt_fault.NotABank holds of = of
books_or_store w kept adopt_fault.Version holds of = of

-- and one of a policy that is sound and separated is none at all
pub policy_or_store : {X : Type 0} (policy : PolicyLists) (r : Result X AdoptFault) → IsPolicyVerdict policy (Ok tt) → IfErr r (IsOfPolicy policy) → IfErr r IsOfStore
policy_or_store policy (Ok x) sound of = tt
policy_or_store policy (Err (adopt_fault.Policy fault)) sound of = absurd (sound_or_fails policy fault sound of)
policy_or_store policy (Err (adopt_fault.Books fault)) sound of = of
policy_or_store policy (Err (adopt_fault.Fault fault)) sound of = absurd of
policy_or_store policy (Err adopt_fault.NotABank) sound of = of
policy_or_store policy (Err adopt_fault.Version) sound of = of

-- the lists of a World that can be kept stand in order
pub books_in_order : (books : BookRows) (policy : PolicyLists) (version : ℕ) → IsKeepable (world_read books policy version) → AreBooksInOrder books
books_in_order books policy version can = record {
  branches = can.branches.in_order;
  tellers = can.tellers.ordered.in_order;
  accounts = can.accounts.in_order;
  entries = can.entries.ordered.in_order;
  lines = can.lines.ordered.in_order;
  proofs = can.proofs.in_order;
  releases = can.releases.ordered.in_order;
  slips = can.slips.ordered.in_order;
}

-- ---- the teller that its kept row gives

holder_read : (holder : Option ℕ) → holder ≢ Some 0 → (if unwrap_or holder 0 == 0 then None else Some (unwrap_or holder 0)) ≡ holder
holder_read None some = refl
holder_read (Some n) some = ap (λ b. if b then None else Some n) (ne_eqb n 0 (λ none. some (ap Some none)))

teller_there : (t : TellerRecord) → t.holder ≢ Some 0 → teller_read (kept_teller t) ≡ t
teller_there t some = ap (λ h. record t { holder = h }) (holder_read t.holder some)

-- ---- what the rows of a bank give

module _ (books : BookRows) (tables : PolicyTables) (version : ℕ) (bank : IsBankOf (sheets_read books tables version)) where
  pub policy_is : (users : List KeptUser) → users ≡ books.users.users.items → IsPolicyOf users tables bank.world.policy
  policy_is users read =
      let w = bank.world in
      let s = bank.sheets in
      record {
        users_are = sym (map-made (kept_user_of w) (λ u. u.row) (λ x. refl) w.policy.users) ∙ ap (map (λ u. u.row)) (ap (λ (z : Sheets). z.users) s ∙ sym read);
        sets = record { numbers_are = ap (λ (z : Sheets). z.sets) s; members_are = ap (λ (z : Sheets). z.members) s };
        relations = ap (λ (z : Sheets). z.relations) s;
        triples = ap (λ (z : Sheets). z.triples) s;
        certifiers = ap (λ (z : Sheets). z.certifiers) s;
      }

  pub world_is : world_read books bank.world.policy version ≡ bank.world
  world_is =
      let w = bank.world in
      let s = sym bank.sheets in
      let branches = ap (map (λ b. b.row)) (ap (λ (z : Sheets). z.branches) s) ∙ map-made (branch_record_of w) (λ b. b.row) (λ x. refl) w.branches in
      let tellers = ap (map (λ t. t.row)) (ap (λ (z : Sheets). z.tellers) s) ∙ map-made (kept_teller_of w) (λ t. t.row) (λ x. refl) w.tellers in
      let accounts = ap (map (λ a. a.row)) (ap (λ (z : Sheets). z.accounts) s) ∙ map-made (account_record_of w) (λ a. a.row) (λ x. refl) w.accounts in
      let entries = ap (map (λ e. e.row)) (ap (λ (z : Sheets). z.entries) s) ∙ map-made (entry_record_of w) (λ e. e.row) (λ x. refl) w.entries in
      let lines = ap (λ (z : Sheets). z.lines) s in
      let proofs = ap (λ (z : Sheets). z.proofs) s in
      let releases = ap (λ (z : Sheets). z.releases) s in
      let slips = ap (λ (z : Sheets). z.slips) s in
      let version_is = ap (λ (z : Sheets). z.version) s in
      λ i. record {
        branches = branches i;
        tellers = tellers i;
        accounts = accounts i;
        entries = entries i;
        lines = lines i;
        proofs = proofs i;
        releases = releases i;
        slips = slips i;
        policy = w.policy;
        version = version_is i;
      }

  pub kept_is : kept_read books ≡ kept_of bank.world
  kept_is =
      let w = bank.world in
      let s = sym bank.sheets in
      let branches = ap (λ (z : Sheets). z.branches) s in
      let tellers =
      ap (map teller_read) (ap (λ (z : Sheets). z.tellers) s) ∙ map-map (kept_teller_of w) teller_read w.tellers
      ∙ map_same (λ t. teller_read (kept_teller_of w t)) (teller_record_of w) w.tellers (λ t there. teller_there (teller_record_of w t) (bank.keepable.tellers.holders t there))
      in
      let accounts = ap (λ (z : Sheets). z.accounts) s in
      let entries = ap (λ (z : Sheets). z.entries) s in
      let users = (λ i. counts_read_back (ap (λ (z : Sheets). z.slip_counts) s i) (ap (λ (z : Sheets). z.users) s i)) ∙ counts_there w w.policy.users in
      λ i. record { branches = branches i; tellers = tellers i; accounts = accounts i; entries = entries i; users = users i }

  -- what was read with this policy, which is that of the bank
  module _ (found : Option PolicyLists) (policy : PolicyLists) (right : found ≡ Some bank.world.policy) (is : found ≡ Some policy) where
    same_policy : bank.world.policy ≡ policy
    same_policy = same_Some bank.world.policy policy (sym right ∙ is)

    world_read_back : bank.world ≡ world_read books policy version
    world_read_back = sym world_is ∙ ap (λ p. world_read books p version) same_policy

    pub keepable_read : IsKeepable (world_read books policy version)
    keepable_read = subst IsKeepable world_read_back bank.keepable

    pub verdict_reported : IsVerdict (world_read books policy version) (kept_read books) (Ok tt)
    verdict_reported = subst (λ kept. IsVerdict (world_read books policy version) kept (Ok tt)) (sym kept_is) (subst (λ w. IsVerdict w (kept_of bank.world) (Ok tt)) world_read_back (bank.books, refl))

    pub policy_read_back : (w : WorldLists) → w ≡ world_read books policy version → IsPolicyVerdict w.policy (Ok tt)
    policy_read_back w read = subst (λ (z : WorldLists). IsPolicyVerdict z.policy (Ok tt)) (world_read_back ∙ sym read) bank.policy
