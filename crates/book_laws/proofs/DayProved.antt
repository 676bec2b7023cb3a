-- The proof of a day and the next day of its branch, both together.
use Rattle.std.proofs.Common.{◌≡◌, ℕ, ◌+◌, pos, ◌+ℤ◌, List, map, true, false, refl, ap, arith, sym, ◌∙◌, subst, ◌==◌, Contains}
use Rattle.std.specs.Prelude.{if◌then◌else◌}
use Rattle.std.specs.List.{count_by}
use Rattle.std.proofs.lemmas.Bool.{eq-eqb, eqb-true, eqb-false, ne_eqb}
use Rattle.keyed_rows.specs.Changed.{change_rows}
use Rattle.keyed_rows.specs.Ordered.{AreDistinct, add_row}
use Rattle.keyed_rows.specs.Totals.{total}
use Rattle.bank_books.specs.Balances.{branch_deltas}
use Rattle.bank_books.specs.Cash.{cash_entry_total, difference_total, drawer_total, place_cash}
use Rattle.bank_books.specs.Effects.{on_day}
use Rattle.bank_books.specs.Keys.{branch_key, proof_key}
use Rattle.bank_books.specs.Range.{IsBranch, IsProofInRange}
use Rattle.bank_books.specs.Records.{branch_record_of}
use Rattle.bank_books.specs.WorldLists.{WorldLists}
use Rattle.bank_books.specs.declared.rows.Branch.{Branch}
use Rattle.bank_books.specs.declared.rows.Proof.{Proof}
use Rattle.book_laws.specs.Laws.{ProofAndDayKeepBooks, ProofAndDayKeepLedger, ProofAndDayMoveNothing}
use Rattle.book_laws.specs.Ledger.{IsBranchSound, IsOpenLedger, branch_sum, teller_sum}
use Rattle.book_laws.specs.Limits.{AreWithinLimits, IsBranchWithin}
use Rattle.book_laws.specs.Moves.{with_proof}
use Rattle.book_laws.specs.Next.{IsNextProof}
use Rattle.book_laws.proofs.BooksSplit.{books_parts}
use Rattle.book_laws.proofs.ChangedRows.{HasRow-changed, each_changed, find-changed, map-changed}
use Rattle.book_laws.proofs.Numbered.{AreNumbered-add_row}
use Rattle.keyed_rows.proofs.Rows.{count_named, count_other, each_added}

-- the branches, one of them on its next day
abbrev next_branches : WorldLists → Proof → List Branch
next_branches w p = change_rows branch_key p.branch (on_day (p.day + 1)) w.branches

-- a branch that is there is there on its next day
pub branch_still : (w : WorldLists) (p : Proof) (branch : ℕ) → IsBranch w.branches branch → IsBranch (next_branches w p) branch
branch_still w p branch there = HasRow-changed branch_key p.branch (on_day (p.day + 1)) (λ b. refl) w.branches branch there

-- ---- the days of a branch

next_number : (day count last : ℕ) → day ≡ last → count + 1 ≡ last → day ≡ count + 1
next_number day count last is before = omega arith

last_stays : (count count' last : ℕ) → count' ≡ count → count + 1 ≡ last → count' + 1 ≡ last
last_stays count count' last same before = omega arith

last_moves : (count count' last day : ℕ) → count' ≡ count + 1 → count + 1 ≡ last → day ≡ last → count' + 1 ≡ day + 1
last_moves count count' last day more before is = omega arith

-- of the branch whose day it is
own_days : (w : WorldLists) (p : Proof) → IsNextProof w p → (b : Branch) → Contains w.branches b → (b.branch == p.branch) ≡ true → IsBranchSound w.proofs b
    → IsBranchSound (add_row proof_key p w.proofs) (on_day (p.day + 1) b)
own_days w p next b there named was =
    let of : b.branch ≡ p.branch = eqb-true b.branch p.branch named in
    let present = next.present b there of in
    record {
      key = was.key;
      day = next.next_day;
      opening_cash = was.opening_cash;
      days =
          AreNumbered-add_row proof_key (λ r. r.branch) (λ r. r.day) p w.proofs b.branch was.days
          (λ is. next_number p.day (count_by (λ r. r.branch == b.branch) w.proofs) b.day present was.last_day);
      last_day =
          last_moves (count_by (λ r. r.branch == b.branch) w.proofs) (count_by (λ r. r.branch == b.branch) (add_row proof_key p w.proofs)) b.day p.day
          (count_named proof_key (λ r. r.branch == b.branch) p w.proofs (eq-eqb p.branch b.branch (sym of))) was.last_day present;
    }

-- of another
other_days : (w : WorldLists) (p : Proof) (b : Branch) → (b.branch == p.branch) ≡ false → IsBranchSound w.proofs b → IsBranchSound (add_row proof_key p w.proofs) b
other_days w p b other was = record {
  key = was.key;
  day = was.day;
  opening_cash = was.opening_cash;
  days = AreNumbered-add_row proof_key (λ r. r.branch) (λ r. r.day) p w.proofs b.branch was.days (λ is. absurd (eqb-false b.branch p.branch other (sym is)));
  last_day =
      last_stays (count_by (λ r. r.branch == b.branch) w.proofs) (count_by (λ r. r.branch == b.branch) (add_row proof_key p w.proofs)) b.day
      (count_other proof_key (λ r. r.branch == b.branch) p w.proofs (ne_eqb p.branch b.branch (λ is. eqb-false b.branch p.branch other (sym is)))) was.last_day;
}

-- ---- the ledger

place_still : (w : WorldLists) (p : Proof) (q : Proof) → IsProofInRange w.branches q → IsProofInRange (next_branches w p) q
place_still w p q was = record { branch = branch_still w p q.branch was.branch; day = was.day; entries = was.entries }

keeps_rows : (w : WorldLists) (p : Proof) → IsNextProof w p → IsOpenLedger w → IsOpenLedger (with_proof p w)
keeps_rows w p next ledger = record {
  branches = record {
    keys = subst AreDistinct (sym (map-changed branch_key p.branch (on_day (p.day + 1)) branch_key (λ b. refl) w.branches)) ledger.branches.keys;
    each =
        each_changed branch_key p.branch (on_day (p.day + 1)) w.branches (IsBranchSound (add_row proof_key p w.proofs))
        (λ b there named. own_days w p next b there named (ledger.branches.each b there)) (λ b there other. other_days w p b other (ledger.branches.each b there));
  };
  tellers = record {
    keys = ledger.tellers.keys;
    each = λ t there.
        let was = ledger.tellers.each t there in
        record { key = was.key; branch = branch_still w p t.branch was.branch; holder = was.holder };
  };
  accounts = record {
    keys = ledger.accounts.keys;
    each = λ a there.
        let was = ledger.accounts.each a there in
        record { key = was.key; home = branch_still w p a.home was.home; floor = was.floor; opening = was.opening };
  };
  entries = record {
    each = λ e there.
        let was = ledger.entries.each e there in
        record {
          branch = branch_still w p e.branch was.branch;
          account = was.account;
          teller = was.teller;
          moment = was.moment;
          day = was.day;
          user = was.user;
          partner = was.partner;
          undoes = was.undoes;
        };
    numbers = ledger.entries.numbers;
    turns = ledger.entries.turns;
  };
  lines = record {
    each = λ l there.
        let was = ledger.lines.each l there in
        record { branch = branch_still w p l.branch was.branch; place = was.place; moment = was.moment; day = was.day; user = was.user };
    numbers = ledger.lines.numbers;
  };
  proofs = each_added proof_key p w.proofs (IsProofInRange (next_branches w p)) (place_still w p p next.sound) (λ q there. place_still w p q (ledger.proofs q there));
  releases = λ r there.
      let was = ledger.releases r there in
      record {
        user = was.user;
        number = was.number;
        numbered = was.numbered;
        giver = was.giver;
        branch = branch_still w p r.branch was.branch;
        day = was.day;
        operation = was.operation;
      };
  slips = ledger.slips;
  users = ledger.users;
  version = ledger.version;
  sums = record {
    of_tellers = ledger.sums.of_tellers;
    of_branches = ap total (map-changed branch_key p.branch (on_day (p.day + 1)) (branch_sum w.entries) (λ b. refl) w.branches) ∙ ledger.sums.of_branches;
    of_each_branch =
        each_changed branch_key p.branch (on_day (p.day + 1)) w.branches
        (λ b. branch_sum w.entries b ≡ total (map (λ t. if t.branch == b.branch then teller_sum w.entries t else pos 0) w.tellers)) (λ b there named. ledger.sums.of_each_branch b there)
        (λ b there other. ledger.sums.of_each_branch b there);
  };
}

pub proof_and_day_keep_ledger : ProofAndDayKeepLedger
proof_and_day_keep_ledger w p next ledger = record {
  rows = keeps_rows w p next ledger.rows;
  named = ledger.named;
  balanced = λ branch.
      each_changed branch_key p.branch (on_day (p.day + 1)) w.branches
      (λ b. b.branch ≡ branch → (b.cash +ℤ place_cash b.branch 0 w.lines) +ℤ drawer_total b.branch w.lines ≡ b.cash +ℤ (cash_entry_total b.branch w.lines +ℤ difference_total b.branch w.lines))
      (λ b there named. ledger.balanced branch b there) (λ b there other. ledger.balanced branch b there);
}

-- ---- nothing moves

pub proof_and_day_move_nothing : ProofAndDayMoveNothing
proof_and_day_move_nothing w p = record {
  branch_balances = λ key.
      ap (λ z. z +ℤ branch_deltas key w.entries)
      (find-changed branch_key p.branch (on_day (p.day + 1)) (λ b. b.branch == key) (λ b. b.opening) (pos 0) (λ b. refl) (λ b. refl) w.branches);
  teller_balances = λ key. refl;
  account_balances = λ key. refl;
  cash = λ branch place.
      ap (λ z. (if place == 0 then z else pos 0) +ℤ place_cash branch place w.lines)
      (find-changed branch_key p.branch (on_day (p.day + 1)) (λ b. b.branch == branch) (λ b. b.cash) (pos 0) (λ b. refl) (λ b. refl) w.branches);
}

limits_stay : (w : WorldLists) (p : Proof) → AreWithinLimits w → AreWithinLimits (with_proof p w)
limits_stay w p limits = record {
  branches =
      each_changed branch_key p.branch (on_day (p.day + 1)) w.branches (λ b. IsBranchWithin (branch_record_of w b))
      (λ b there named.
      let was = limits.branches b there in
      record { history = was.history; cash = was.cash; accounts = was.accounts }) (λ b there other. limits.branches b there);
  tellers = limits.tellers;
  accounts = limits.accounts;
  entries = limits.entries;
}

pub proof_and_day_keep_books : ProofAndDayKeepBooks
proof_and_day_keep_books w p next books =
    let parts = (books_parts w).0 books in
    (books_parts (with_proof p w)).1 (proof_and_day_keep_ledger w p next parts.0, limits_stay w p parts.1)
