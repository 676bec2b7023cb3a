-- A release that may come next.
use Rattle.std.proofs.Common.{◌≡◌, ℕ, ◌+◌, ◌≤◌, refl, arith, subst, ◌==◌, Option, Some, None}
use Rattle.std.specs.List.{find}
use Rattle.std.proofs.lemmas.Bool.{eqb-true}
use Rattle.keyed_rows.specs.Ordered.{add_row}
use Rattle.bank_books.specs.Effects.{written}
use Rattle.bank_books.specs.Keys.{release_key}
use Rattle.bank_books.specs.Numbering.{AreNumbered}
use Rattle.bank_books.specs.Range.{IsReleaseInRange}
use Rattle.bank_books.specs.Records.{release_count}
use Rattle.bank_books.specs.WorldLists.{WorldLists}
use Rattle.bank_books.specs.declared.row_write.RowWrite.TheVariants as write
use Rattle.bank_books.specs.declared.rows.Release.{Release}
use Rattle.book_laws.specs.Laws.{ReleaseKeepsBooks, ReleaseKeepsLedger, ReleaseMovesNothing}
use Rattle.book_laws.specs.Ledger.{IsOpenLedger}
use Rattle.book_laws.specs.Next.{IsNextRelease}
use Rattle.book_laws.proofs.BooksSplit.{books_parts}
use Rattle.book_laws.proofs.Numbered.{AreNumbered-add_row, AreNumbered-none}
use Rattle.keyed_rows.proofs.Rows.{each_added, find-found, none_passes}

-- those of a user are numbered, also where the user has none
numbered_before : (w : WorldLists) (user : ℕ) → IsOpenLedger w → AreNumbered (λ o. o.user) (λ o. o.number) w.releases user
numbered_before w user ledger = go (find (λ o. o.user == user) w.releases) refl
  where
    go : (o : Option Release) → find (λ o. o.user == user) w.releases ≡ o → AreNumbered (λ o. o.user) (λ o. o.number) w.releases user
    go (Some o) is =
        let found = find-found (λ o. o.user == user) w.releases o is in
        subst (λ k. AreNumbered (λ o. o.user) (λ o. o.number) w.releases k) (eqb-true o.user user found.1) (ledger.releases o found.0).numbered
    go None is = AreNumbered-none (λ o. o.user) (λ o. o.number) w.releases user (λ o there. none_passes (λ o. o.user == user) w.releases o is there)

numbered_after : (w : WorldLists) (r : Release) → IsNextRelease w r → IsOpenLedger w → (user : ℕ) → AreNumbered (λ o. o.user) (λ o. o.number) (add_row release_key r w.releases) user
numbered_after w r next ledger user =
    AreNumbered-add_row release_key (λ o. o.user) (λ o. o.number) r w.releases user (numbered_before w user ledger)
    (λ of. subst (λ k. r.number ≡ release_count k w.releases + 1) of next.number)

one_at_least : (n c : ℕ) → n ≡ c + 1 → 1 ≤ n
one_at_least n c is = omega arith

keeps_rows : (w : WorldLists) (r : Release) → IsNextRelease w r → IsOpenLedger w → IsOpenLedger (written (write.Release r) w)
keeps_rows w r next ledger = record {
  branches = ledger.branches;
  tellers = ledger.tellers;
  accounts = ledger.accounts;
  entries = ledger.entries;
  lines = ledger.lines;
  proofs = ledger.proofs;
  releases =
      each_added release_key r w.releases (IsReleaseInRange w.branches (add_row release_key r w.releases) w.policy.users)
      (record {
        user = next.user;
        number = (one_at_least r.number (release_count r.user w.releases) next.number, next.room);
        numbered = numbered_after w r next ledger r.user;
        giver = next.giver;
        branch = next.branch;
        day = next.day;
        operation = next.operation;
      })
      (λ o there.
      let was = ledger.releases o there in
      record {
        user = was.user;
        number = was.number;
        numbered = numbered_after w r next ledger o.user;
        giver = was.giver;
        branch = was.branch;
        day = was.day;
        operation = was.operation;
      });
  slips = ledger.slips;
  users = ledger.users;
  version = ledger.version;
  sums = ledger.sums;
}

pub release_keeps_ledger : ReleaseKeepsLedger
release_keeps_ledger w r next ledger = record { rows = keeps_rows w r next ledger.rows; named = ledger.named; balanced = ledger.balanced }

pub release_moves_nothing : ReleaseMovesNothing
release_moves_nothing w r = record { branch_balances = λ key. refl; teller_balances = λ key. refl; account_balances = λ key. refl; cash = λ branch place. refl }

pub release_keeps_books : ReleaseKeepsBooks
release_keeps_books w r next books =
    let parts = (books_parts w).0 books in
    let limits = parts.1 in
    (books_parts (written (write.Release r) w)).1 (
      release_keeps_ledger w r next parts.0,
      record { branches = limits.branches; tellers = limits.tellers; accounts = limits.accounts; entries = limits.entries },
    )
