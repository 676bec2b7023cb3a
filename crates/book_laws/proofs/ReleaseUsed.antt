-- A release that is used: its mark is in no condition.
use Rattle.std.proofs.Common.{refl}
use Rattle.bank_books.specs.Effects.{used_up, written}
use Rattle.bank_books.specs.Keys.{release_key, release_number}
use Rattle.bank_books.specs.Range.{IsReleaseInRange}
use Rattle.bank_books.specs.WorldLists.{WorldLists}
use Rattle.bank_books.specs.declared.row_write.ReleaseKey.{ReleaseKey}
use Rattle.bank_books.specs.declared.row_write.RowWrite.TheVariants as write
use Rattle.bank_books.specs.declared.rows.Release.{Release}
use Rattle.keyed_rows.specs.Changed.{change_rows}
use Rattle.book_laws.specs.Laws.{UsedKeepsBooks, UsedKeepsLedger, UsedMovesNothing}
use Rattle.book_laws.specs.Ledger.{IsOpenLedger}
use Rattle.book_laws.proofs.BooksSplit.{books_parts}
use Rattle.book_laws.proofs.ChangedRows.{AreNumbered-changed, each_changed}

-- its row, or another, in range among the releases of which one is used
range_still : (w : WorldLists) (k : ReleaseKey) (r : Release) → IsReleaseInRange w.branches w.releases w.policy.users r
    → IsReleaseInRange w.branches (change_rows release_key (release_number k.user k.number) used_up w.releases) w.policy.users r
range_still w k r was = record {
  user = was.user;
  number = was.number;
  numbered = AreNumbered-changed release_key (release_number k.user k.number) used_up (λ o. o.user) (λ o. o.number) (λ o. refl) (λ o. refl) w.releases r.user was.numbered;
  giver = was.giver;
  branch = was.branch;
  day = was.day;
  operation = was.operation;
}

used_in_range : (w : WorldLists) (k : ReleaseKey) (r : Release) → IsReleaseInRange w.branches (change_rows release_key (release_number k.user k.number) used_up w.releases) w.policy.users r
    → IsReleaseInRange w.branches (change_rows release_key (release_number k.user k.number) used_up w.releases) w.policy.users (used_up r)
used_in_range w k r was = record {
  user = was.user;
  number = was.number;
  numbered = was.numbered;
  giver = was.giver;
  branch = was.branch;
  day = was.day;
  operation = was.operation;
}

keeps_rows : (w : WorldLists) (k : ReleaseKey) → IsOpenLedger w → IsOpenLedger (written (write.Used k) w)
keeps_rows w k ledger = record {
  branches = ledger.branches;
  tellers = ledger.tellers;
  accounts = ledger.accounts;
  entries = ledger.entries;
  lines = ledger.lines;
  proofs = ledger.proofs;
  releases =
      each_changed release_key (release_number k.user k.number) used_up w.releases
      (IsReleaseInRange w.branches (change_rows release_key (release_number k.user k.number) used_up w.releases) w.policy.users)
      (λ r there named. used_in_range w k r (range_still w k r (ledger.releases r there))) (λ r there other. range_still w k r (ledger.releases r there));
  slips = ledger.slips;
  users = ledger.users;
  version = ledger.version;
  sums = ledger.sums;
}

pub used_keeps_ledger : UsedKeepsLedger
used_keeps_ledger w k ledger = record { rows = keeps_rows w k ledger.rows; named = ledger.named; balanced = ledger.balanced }

pub used_moves_nothing : UsedMovesNothing
used_moves_nothing w k = record { branch_balances = λ key. refl; teller_balances = λ key. refl; account_balances = λ key. refl; cash = λ branch place. refl }

pub used_keeps_books : UsedKeepsBooks
used_keeps_books w k books =
    let parts = (books_parts w).0 books in
    let limits = parts.1 in
    (books_parts (written (write.Used k) w)).1 (
      used_keeps_ledger w k parts.0,
      record { branches = limits.branches; tellers = limits.tellers; accounts = limits.accounts; entries = limits.entries },
    )
