-- A slip that may come next.
use Rattle.std.proofs.Common.{◌≡◌, ℕ, ◌+◌, ◌<◌, ◌≤◌, ◌==◌, Bool, true, false, refl, arith, subst, sym, ◌∙◌}
use Rattle.std.proofs.lemmas.Bool.{eqb-true}
use Rattle.bank_terms.specs.Limits.{max_slips}
use Rattle.keyed_rows.specs.Ordered.{add_row}
use Rattle.bank_books.specs.Effects.{written}
use Rattle.bank_books.specs.Keys.{slip_key}
use Rattle.bank_books.specs.Range.{IsSlipInRange}
use Rattle.bank_books.specs.Records.{slip_count}
use Rattle.bank_books.specs.SlipRow.{SlipRow}
use Rattle.bank_books.specs.WorldLists.{WorldLists}
use Rattle.bank_books.specs.declared.row_write.RowWrite.TheVariants as write
use Rattle.book_laws.specs.Laws.{SlipKeepsBooks, SlipKeepsLedger}
use Rattle.book_laws.specs.Ledger.{IsOpenLedger}
use Rattle.book_laws.specs.Next.{IsNextSlip}
use Rattle.book_laws.proofs.BooksSplit.{books_parts}
use Rattle.keyed_rows.proofs.Rows.{AreDistinct-add_row, count_named, count_other, each_added}

one_more : (n c m : ℕ) → n ≡ c + 1 → c < m → n ≤ m
one_more n c m is room = omega arith

as_many : (n c m : ℕ) → n ≡ c → c ≤ m → n ≤ m
as_many n c m is room = omega arith

-- with it, its user has no more than there may be, and every other as many as before
room_after : (w : WorldLists) (s : SlipRow) → IsNextSlip w s → (user : ℕ) → slip_count user w.slips ≤ max_slips → slip_count user (add_row slip_key s w.slips) ≤ max_slips
room_after w s next user was = go (s.user == user) refl
  where
    go : (b : Bool) → (s.user == user) ≡ b → slip_count user (add_row slip_key s w.slips) ≤ max_slips
    go true is =
        one_more (slip_count user (add_row slip_key s w.slips)) (slip_count user w.slips) max_slips (count_named slip_key (λ o. o.user == user) s w.slips is)
        (subst (λ u. slip_count u w.slips < max_slips) (eqb-true s.user user is) next.room)
    go false is = as_many (slip_count user (add_row slip_key s w.slips)) (slip_count user w.slips) max_slips (count_other slip_key (λ o. o.user == user) s w.slips is) was

below : (c m : ℕ) → c < m → c ≤ m
below c m is = omega arith

keeps_rows : (w : WorldLists) (s : SlipRow) → IsNextSlip w s → IsOpenLedger w → IsOpenLedger (written (write.Slip s) w)
keeps_rows w s next ledger = record {
  branches = ledger.branches;
  tellers = ledger.tellers;
  accounts = ledger.accounts;
  entries = ledger.entries;
  lines = ledger.lines;
  proofs = ledger.proofs;
  releases = ledger.releases;
  slips = record {
    keys = AreDistinct-add_row slip_key s w.slips ledger.slips.keys next.free;
    each =
        each_added slip_key s w.slips (IsSlipInRange (add_row slip_key s w.slips) w.policy.users)
        (record {
          user = next.user;
          number = next.number;
          form = next.form;
          operation = next.operation;
          room = room_after w s next s.user (below (slip_count s.user w.slips) max_slips next.room);
        })
        (λ o there.
        let was = ledger.slips.each o there in
        record { user = was.user; number = was.number; form = was.form; operation = was.operation; room = room_after w s next o.user was.room });
  };
  users = ledger.users;
  version = ledger.version;
  sums = ledger.sums;
}

pub slip_keeps_ledger : SlipKeepsLedger
slip_keeps_ledger w s next ledger = record { rows = keeps_rows w s next ledger.rows; named = ledger.named; balanced = ledger.balanced }

pub slip_keeps_books : SlipKeepsBooks
slip_keeps_books w s next books =
    let parts = (books_parts w).0 books in
    let limits = parts.1 in
    (books_parts (written (write.Slip s) w)).1 (
      slip_keeps_ledger w s next parts.0,
      record { branches = limits.branches; tellers = limits.tellers; accounts = limits.accounts; entries = limits.entries },
    )
