-- What is left where a release was used up: the books hold as they did, nothing is moved, and it is valid no more.
use Rattle.std.proofs.Common.{◌≡◌, ℕ, ◌==◌, List, [], ◌∷◌, Bool, true, false, cond, Some, refl, ap, sym, subst, ◌∙◌}
use Rattle.std.specs.Prelude.{if◌then◌else◌}
use Rattle.std.specs.List.{find}
use Rattle.std.proofs.lemmas.Bool.{and_parts, eq-eqb, eqb-true, false≢true}
use Rattle.keyed_rows.specs.Changed.{change_rows}
use Rattle.bank_books.specs.Effects.{used_up, written}
use Rattle.bank_books.specs.Keys.{release_key, release_number}
use Rattle.bank_books.specs.WorldLists.{WorldLists}
use Rattle.bank_books.specs.SlipRow.{SlipRow}
use Rattle.bank_books.specs.declared.row_write.RowWrite.TheVariants as write
use Rattle.bank_books.specs.declared.rows.Release.{Release}
use Rattle.book_laws.proofs.ReleaseUsed.{used_keeps_books}
use Rattle.counter_ops.specs.declared.op.Op.{Op}
use Rattle.world_reads.specs.BookReads.{is_release}
use Rattle.bank_meaning.specs.Executions.{books_meaning, execution_meaning}
use Rattle.bank_meaning.specs.Slips.{slip_named, taken_by}
use Rattle.bank_meaning.specs.Laws.{IsUsedOnce, Released, ReleasesAreUsedOnce}
use Rattle.bank_meaning.specs.PolicyRules.{asker, used_by}
use Rattle.bank_meaning.specs.Moves.{Moves}
use Rattle.bank_meaning.specs.declared.execution.Execution.{Execution}
use Rattle.bank_meaning.specs.declared.leave.Authorization.{Authorization}
use Rattle.bank_meaning.specs.declared.leave.Authorization.TheVariants as leave
use Rattle.bank_meaning.proofs.JudgedPolicy.{leave_in_limit, leave_past_limit}
use Rattle.bank_meaning.proofs.KeptOrder.{in_order_written}
use Rattle.bank_meaning.proofs.Steps.{IsStep}

-- ---- the step

pub used_step : (w after : WorldLists) (m : Moves) (l : Authorization) (user : ℕ) → IsStep w after m → IsStep w (used_by l user after) m
used_step w after m leave.Triple user step = step
used_step w after m (leave.Release number) user step = record {
  checks = record {
    in_order = in_order_written (write.Used (record { user = user; number = number })) after step.checks.in_order;
    books = used_keeps_books after (record { user = user; number = number }) step.checks.books;
    sound = step.checks.sound;
    separated = step.checks.separated;
  };
  branches = step.branches;
  tellers = step.tellers;
  accounts = step.accounts;
  history = step.history;
  cash_entries = step.cash_entries;
  stay = step.stay;
  vaults = step.vaults;
  added = record { entries = step.added.entries; lines = step.added.lines; proofs = step.added.proofs };
}

-- ---- the release that is found afterwards

-- a row after the use of one
abbrev seen : ℕ → ℕ → Release → Release
seen user number r = if release_key r == release_number user number then used_up r else r

-- the row of the user and of the number is used
seen_used : (user number : ℕ) (r : Release) → is_release user number (seen user number r) ≡ true → (seen user number r).used ≡ true
seen_used user number r is = go (release_key r == release_number user number) refl is
  where
    go : (b : Bool) → (release_key r == release_number user number) ≡ b → is_release user number (if b then used_up r else r) ≡ true → (if b then used_up r else r).used ≡ true
    go true at is = refl
    go false at is =
        let parts = and_parts (r.user == user) (r.number == number) is in
        let same : release_key r ≡ release_number user number =
        ap (λ k. release_number k r.number) (eqb-true r.user user parts.0) ∙ ap (λ k. release_number user k) (eqb-true r.number number parts.1) in
        absurd (false≢true (sym at ∙ eq-eqb (release_key r) (release_number user number) same))

found_used : (user number : ℕ) (rows : List Release) (row : Release) → find (is_release user number) (change_rows release_key (release_number user number) used_up rows) ≡ Some row → row.used ≡ true
found_used user number [] row is = absurd cc
found_used user number (r ∷ rows) row is = go (is_release user number (seen user number r)) (found_used user number rows row) refl is
  where
    go : (b : Bool) → (find (is_release user number) (change_rows release_key (release_number user number) used_up rows) ≡ Some row → row.used ≡ true) → is_release user number (seen user number r) ≡ b
        → cond b (Some (seen user number r)) (find (is_release user number) (change_rows release_key (release_number user number) used_up rows)) ≡ Some row → row.used ≡ true
    go true rest at is = let same : seen user number r ≡ row = cc in subst (λ (x : Release). x.used ≡ true) same (seen_used user number r at)
    go false rest at is = rest is

pub counts_no_more : (w : WorldLists) (user number : ℕ) (op : Op) (moment : ℕ) → ¬ Released (used_by (leave.Release number) user w) user number op moment
counts_no_more w user number op moment counts = false≢true (sym counts.unused ∙ found_used user number w.releases counts.row counts.there)

-- ---- the law

-- a slip that is taken makes none valid
taken_counts : (b : Bool) (row : SlipRow) (w : WorldLists) (user number : ℕ) (op : Op) (moment : ℕ)
    → Released (if b then w else written (write.Slip row) w) user number op moment → Released w user number op moment
taken_counts true row w user number op moment counts = counts
taken_counts false row w user number op moment counts = record {
  row = counts.row;
  there = counts.there;
  unused = counts.unused;
  operation = counts.operation;
  branch = counts.branch;
  branch_there = counts.branch_there;
  today = counts.today;
  other = counts.other;
  giver = counts.giver;
  giver_there = counts.giver_there;
  active = counts.active;
  limit = counts.limit;
  held = counts.held;
  enough = counts.enough;
}

is_used_once : (w : WorldLists) (x : Execution) → IsUsedOnce w x
is_used_once w x = record {
  kept = λ holds. ap (λ l. taken_by x (books_meaning w x).reply.bytes (used_by l (asker x.who) (books_meaning w x).effect)) (leave_in_limit w x holds);
  used = λ past op moment counts.
      counts_no_more (books_meaning w x).effect (asker x.who) x.who.release op moment
      (subst (λ l. Released (used_by l (asker x.who) (books_meaning w x).effect) (asker x.who) x.who.release op moment) (leave_past_limit w x past)
      (taken_counts (slip_named x == 0) _ (execution_meaning w x).effect (asker x.who) x.who.release op moment counts));
}

pub releases_are_used_once : ReleasesAreUsedOnce
releases_are_used_once w x = is_used_once w x
