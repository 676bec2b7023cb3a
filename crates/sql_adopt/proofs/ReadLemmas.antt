-- That rows whose kept numbers are those that their World gives are the sheets of that World.
use Rattle.std.proofs.Common.{◌≡◌, ◌==◌, ℕ, Bool, true, false, map, None, Some, Ok, refl, sym, ap, subst, ◌∙◌}
use Rattle.std.proofs.lemmas.Bool.{eqb-true}
use Rattle.std.specs.Prelude.{if◌then◌else◌, unwrap_or}
use Rattle.bank_policy.specs.Policy.{PolicyLists}
use Rattle.bank_books.specs.Books.{ConditionsHold}
use Rattle.bank_books.specs.Records.{KeptLists, kept_of, release_count_of, teller_record_of}
use Rattle.bank_books.specs.WorldLists.{WorldLists}
use Rattle.book_check.specs.Verdict.{IsVerdict}
use Rattle.keyed_rows.proofs.Rows.{map-made, map-map}
use Rattle.book_kept.specs.Keepable.{IsKeepable}
use Rattle.book_kept.specs.Records.{kept_teller, kept_user_of, slip_count_of}
use Rattle.book_kept.specs.Sheets.{sheets_of}
use Rattle.book_kept.specs.declared.records.KeptTeller.{KeptTeller}
use Rattle.book_kept.specs.declared.records.KeptUser.{KeptUser}
use Rattle.policy_check.specs.PolicyVerdict.{IsPolicyVerdict}
use Rattle.sql_whole.specs.declared.book_rows.BookRows.{BookRows}
use Rattle.sql_whole.specs.declared.policy_tables.PolicyTables.{PolicyTables}
use Rattle.sql_adopt.proofs.CountLemmas.{counts_back}
use Rattle.sql_adopt.specs.ReadBack.{AreBankOf, IsPolicyOf, counts_read_back, kept_read, sheets_read, teller_read, world_read}

holder_back : (n : ℕ) → unwrap_or (if n == 0 then None else Some n) 0 ≡ n
holder_back n = go (n == 0) refl
  where
    go : (b : Bool) → (n == 0) ≡ b → unwrap_or (if b then None else Some n) 0 ≡ n
    go true is = sym (eqb-true n 0 is)
    go false is = refl

teller_back : (t : KeptTeller) → kept_teller (teller_read t) ≡ t
teller_back t = ap (λ n. record t { holder = n }) (holder_back t.holder)

pub sheets_read_back : (books : BookRows) (tables : PolicyTables) (policy : PolicyLists) (version : ℕ) → IsPolicyOf books.users.users.items tables policy
    → kept_read books ≡ kept_of (world_read books policy version) → sheets_of (world_read books policy version) ≡ sheets_read books tables version
sheets_read_back books tables policy version is kept =
    let w = world_read books policy version in
    let users = books.users.users.items in
    let branches = sym (ap (λ (k : KeptLists). k.branches) kept) in
    let tellers =
    sym (map-map (teller_record_of w) kept_teller w.tellers) ∙ ap (map kept_teller) (sym (ap (λ (k : KeptLists). k.tellers) kept)) ∙ map-made teller_read kept_teller teller_back books.ledger.tellers.items
    in
    let accounts = sym (ap (λ (k : KeptLists). k.accounts) kept) in
    let entries = sym (ap (λ (k : KeptLists). k.entries) kept) in
    let counts : map (λ u. release_count_of w u.row) users ≡ counts_read_back books.slips.counts.items users =
    sym (map-map (λ (u : KeptUser). u.row) (release_count_of w) users) ∙ sym (ap (map (release_count_of w)) is.users_are) ∙ sym (ap (λ (k : KeptLists). k.users) kept)
    in
    let back = counts_back w books.slips.counts.items users counts in
    let kept_users = ap (map (kept_user_of w)) is.users_are ∙ map-map (λ (u : KeptUser). u.row) (kept_user_of w) users ∙ back.0 in
    let slip_counts = ap (map (slip_count_of w)) is.users_are ∙ map-map (λ (u : KeptUser). u.row) (slip_count_of w) users ∙ back.1 in
    λ i. record {
      branches = branches i;
      tellers = tellers i;
      accounts = accounts i;
      entries = entries i;
      lines = books.history.lines.items;
      proofs = books.history.proofs.items;
      releases = books.users.releases.items;
      slips = books.slips.slips.items;
      slip_counts = slip_counts i;
      users = kept_users i;
      sets = is.sets.numbers_are i;
      members = is.sets.members_are i;
      relations = is.relations i;
      triples = is.triples i;
      certifiers = is.certifiers i;
      version = version;
    }

-- books that are judged beside the numbers that were kept hold, and the numbers are those that they give
pub is_bank : (books : BookRows) (tables : PolicyTables) (policy : PolicyLists) (version : ℕ) (w : WorldLists) (kept : KeptLists) → IsPolicyOf books.users.users.items tables policy
    → IsVerdict w kept (Ok tt) → w ≡ world_read books policy version → kept ≡ kept_read books → IsKeepable w → IsPolicyVerdict w.policy (Ok tt) → AreBankOf (sheets_read books tables version) w kept
is_bank books tables policy version w kept is verdict world_is kept_is keepable sound = record {
  numbers = verdict.1;
  sheets = ap sheets_of world_is ∙ sheets_read_back books tables policy version is (sym kept_is ∙ verdict.1 ∙ ap kept_of world_is);
  keepable = keepable;
  books = subst (ConditionsHold w) verdict.1 verdict.0;
  policy = sound;
}
