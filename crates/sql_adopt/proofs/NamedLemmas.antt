-- Which fault is named of rows that were read.
use Rattle.std.proofs.Common.{◌≡◌, ◌∙◌, ℕ, List, [], map, Ok, Err, IfErr, IsErrAnd, Result, refl, sym, ap, arith, subst}
use Rattle.std.specs.List.Sorted.{IsNonDecreasingBy}
use Rattle.std.proofs.lemmas.List.Sorted.{IsNonDecreasingBy-short}
use Rattle.sqlite.specs.Tree.{Trees}
use Rattle.bank_policy.specs.Policy.{PolicyLists}
use Rattle.bank_policy.specs.PolicyKeys.{user_key}
use Rattle.bank_books.specs.Keys.{account_key, branch_key, entry_key, line_key, proof_key, release_key, slip_key, teller_key}
use Rattle.bank_books.specs.Records.{KeptLists}
use Rattle.bank_books.specs.WorldLists.{WorldLists}
use Rattle.book_check.specs.Verdict.{IsVerdict}
use Rattle.sqlite.specs.Order.{Row}
use Rattle.bank_books.specs.SlipRow.{SlipRow}
use Rattle.sql_schema.specs.Held.{HoldsSheetsIn, HoldsSlipsIn}
use Rattle.sql_schema.specs.declared.edition.Edition.{Edition}
use Rattle.sql_schema.specs.declared.edition.Edition.TheVariants.{First, Second, Third}
use Rattle.sql_schema.specs.Held.Sheet.{accounts as in_accounts, branches as in_branches, entries as in_entries, lines as in_lines, proofs as in_proofs, releases as in_releases, slips as in_slips, tellers as in_tellers, users as in_users}
use Rattle.book_kept.proofs.Rising.{IsOrdered-map}
use Rattle.book_kept.specs.Keepable.{IsPolicyKeepable}
use Rattle.book_kept.specs.Sheets.{Sheets, account_no, branch_no, entry_no, teller_no, user_no}
use Rattle.book_kept.specs.declared.records.KeptUser.{KeptUser}
use Rattle.policy_check.specs.PolicyVerdict.{IsPolicyVerdict}
use Rattle.sql_whole.specs.declared.book_rows.BookRows.{BookRows}
use Rattle.sql_whole.specs.declared.policy_tables.PolicyTables.{PolicyTables}
use Rattle.sql_adopt.specs.Refused.{IsNamedBy, IsOfBooks, IsOfNoPolicy, IsOfPolicy, IsOfStore}
use Rattle.sql_adopt.specs.ReadBack.{AreBooksInOrder, AreBooksJudged, AreUsersOrdered, IsPolicyIn, IsPolicyOf, kept_read, sheets_read, world_read}
use Rattle.sql_adopt.specs.declared.adopt_fault.AdoptFault.{AdoptFault}
use Rattle.sql_adopt.specs.declared.adopt_fault.AdoptFault.TheVariants.{Books, Fault, NotABank, Policy, Version}

-- a fault of the database is named of any rows
pub named_of_store : (s : Sheets) (fault : AdoptFault) → IsOfStore fault → IsNamedBy s fault
named_of_store s (Books fault) store = absurd store
named_of_store s (Policy fault) store = absurd store
named_of_store s (Fault fault) store = tt
named_of_store s NotABank store = store
named_of_store s Version store = store

pub handed_named : {X : Type 0} (s : Sheets) (r : Result X AdoptFault) (fault : AdoptFault) → IsErrAnd r (λ e. e ≡ fault) → IsOfStore fault → IfErr r (IsNamedBy s)
handed_named s (Ok x) fault same store = tt
handed_named s (Err e) fault same store = subst (IsNamedBy s) (sym same) (named_of_store s fault store)

slips_in_order : (e : Edition) (rows : List SlipRow) (tree : List Row) → HoldsSlipsIn e rows tree → IsNonDecreasingBy slip_key rows
slips_in_order First rows tree held = subst (IsNonDecreasingBy slip_key) (sym held) (IsNonDecreasingBy-short slip_key [] (omega arith))
slips_in_order Second rows tree held = subst (IsNonDecreasingBy slip_key) (sym held) (IsNonDecreasingBy-short slip_key [] (omega arith))
slips_in_order Third rows tree held = held.ordered.in_order

module _ (books : BookRows) (tables : PolicyTables) (version : ℕ) where
  abbrev s : Sheets
  s = sheets_read books tables version

  module _ (policy : PolicyLists) (users : policy.users ≡ map (λ (u : KeptUser). u.row) books.users.users.items) where
    pub judged : (w : WorldLists) (kept : KeptLists) → w ≡ world_read books policy version → kept ≡ kept_read books → IsVerdict w kept (Ok tt) → AreBooksJudged s (Ok tt)
    judged w kept world numbers verdict = record {
      policy = policy;
      users = users;
      stated = subst (λ k. IsVerdict (world_read books policy version) k (Ok tt)) numbers (subst (λ z. IsVerdict z kept (Ok tt)) world verdict);
    }

    pub named_of_books : (fault : AdoptFault) → IsOfBooks (world_read books policy version) (kept_read books) fault → IsNamedBy s fault
    named_of_books (Books fault) of = record { policy = policy; users = users; stated = of }
    named_of_books (Policy fault) of = absurd of
    named_of_books (Fault fault) of = tt
    named_of_books NotABank of = of
    named_of_books Version of = of

    pub alone_of_books : (fault : AdoptFault) → IsOfBooks (world_read books policy version) (kept_read books) fault → IsOfNoPolicy s fault
    alone_of_books (Books fault) of = record { policy = policy; users = users; stated = of }
    alone_of_books (Policy fault) of = absurd of
    alone_of_books (Fault fault) of = tt
    alone_of_books NotABank of = of
    alone_of_books Version of = of

  -- the policy of the rows is that of the tables with these users
  pub policy_of_tables : (users : List KeptUser) → users ≡ books.users.users.items → (policy : PolicyLists) → IsPolicyIn s policy → IsPolicyOf users tables policy
  policy_of_tables users read policy is = record {
    users_are = is.users ∙ ap (map (λ (u : KeptUser). u.row)) (sym read);
    sets = is.sets;
    relations = is.relations;
    triples = is.triples;
    certifiers = is.certifiers;
  }

  -- and that of the tables is the policy of the rows
  pub policy_in_rows : (users : List KeptUser) → users ≡ books.users.users.items → (policy : PolicyLists) → IsPolicyOf users tables policy → IsPolicyIn s policy
  policy_in_rows users read policy of = record {
    users = of.users_are ∙ ap (map (λ (u : KeptUser). u.row)) read;
    sets = of.sets;
    relations = of.relations;
    triples = of.triples;
    certifiers = of.certifiers;
  }

  pub named_of_policy : {X : Type 0} (r : Result X AdoptFault) (policy : PolicyLists) → AreBooksJudged s (Ok tt) → IsPolicyIn s policy
      → ((other : PolicyLists) → IsPolicyIn s other → IsPolicyKeepable other → other ≡ policy) → IfErr r (IsOfPolicy policy) → IfErr r (IsNamedBy s)
  named_of_policy (Ok x) policy hold there one of = tt
  named_of_policy (Err (Policy fault)) policy hold there one of = record {
    books = hold;
    stated = λ other is can. subst (λ p. IsPolicyVerdict p (Err fault)) (sym (one other is can)) of;
    untold = λ none. absurd (none policy there);
  }
  named_of_policy (Err (Books fault)) policy hold there one of = absurd of
  named_of_policy (Err (Fault fault)) policy hold there one of = absurd of
  named_of_policy (Err NotABank) policy hold there one of = of
  named_of_policy (Err Version) policy hold there one of = of

  pub named_of_none : (fault : AdoptFault) → ((other : PolicyLists) → IsPolicyIn s other → IsPolicyKeepable other → ⊥) → IsOfNoPolicy s fault → IsNamedBy s fault
  named_of_none (Books fault) none of = of
  named_of_none (Policy fault) none of = record { books = of.0; stated = λ other is can. absurd (none other is can); untold = λ no. of.1 }
  named_of_none (Fault fault) none of = tt
  named_of_none NotABank none of = of
  named_of_none Version none of = of

  -- the rows that tables hold stand in order
  module _ (edition : Edition) (db : Trees) (held : Sheets) (holds : HoldsSheetsIn edition db held) (same : held ≡ s) where
    pub held_books : AreBooksInOrder books
    held_books = record {
      branches = subst (λ (z : Sheets). IsNonDecreasingBy branch_key (map (λ b. b.row) z.branches)) same (IsOrdered-map branch_no branch_key (λ b. b.row) (λ b. refl) held.branches (holds in_branches).ordered).in_order;
      tellers = subst (λ (z : Sheets). IsNonDecreasingBy teller_key (map (λ t. t.row) z.tellers)) same (IsOrdered-map teller_no teller_key (λ t. t.row) (λ t. refl) held.tellers (holds in_tellers).ordered).in_order;
      accounts = subst (λ (z : Sheets). IsNonDecreasingBy account_key (map (λ a. a.row) z.accounts)) same (IsOrdered-map account_no account_key (λ a. a.row) (λ a. refl) held.accounts (holds in_accounts).ordered).in_order;
      entries = subst (λ (z : Sheets). IsNonDecreasingBy entry_key (map (λ e. e.row) z.entries)) same (IsOrdered-map entry_no entry_key (λ e. e.row) (λ e. refl) held.entries (holds in_entries).ordered).in_order;
      lines = subst (λ (z : Sheets). IsNonDecreasingBy line_key z.lines) same (holds in_lines).ordered.in_order;
      proofs = subst (λ (z : Sheets). IsNonDecreasingBy proof_key z.proofs) same (holds in_proofs).ordered.in_order;
      releases = subst (λ (z : Sheets). IsNonDecreasingBy release_key z.releases) same (holds in_releases).ordered.in_order;
      slips = subst (λ (z : Sheets). IsNonDecreasingBy slip_key z.slips) same (slips_in_order edition held.slips (db 25) (holds in_slips));
    }

    pub held_users : AreUsersOrdered books.users.users.items
    held_users = subst (λ (z : Sheets). AreUsersOrdered z.users) same (IsOrdered-map user_no user_key (λ u. u.row) (λ u. refl) held.users (holds in_users).ordered)
