-- A plan leaves no entry of a cache wrong: a change of the policy makes each of them one of an older version.
use Rattle.std.specs.Prelude.{IfSome}
use Rattle.std.proofs.Common.{◌≡◌, ℕ, ◌+◌, if◌then◌else◌, ◌≤◌, Bool, true, false, ◌||◌, List, [], ◌∷◌, Option, Some, None, refl, ap, subst, sym, ◌∙◌, arith}
use Rattle.bank_books.specs.Effects.{all_written, applied, in_full, written}
use Rattle.bank_books.specs.Version.{changes_policy, has_version_for, is_of_policy, with_version}
use Rattle.bank_books.specs.WorldLists.{WorldLists}
use Rattle.bank_books.specs.declared.row_write.RowWrite.{RowWrite}
use Rattle.bank_books.specs.declared.row_write.RowWrite.TheVariants as write
use Rattle.store_rows.specs.Status.{Changes, Status, after_mark}
use Rattle.store_cached.specs.Fresh.{AreFresh, HasRows}
use Rattle.store_cached.specs.Users.{IsKnownOf}
use Rattle.store_cached.specs.Standing.{Suits, with_kept}
use Rattle.store_cached.specs.declared.entry.Kept.{Kept}
use Rattle.store_cached.specs.declared.entry.Key.{Key}
use Rattle.store_cached.specs.declared.entry.Rows.{Rows}
use Rattle.store_cached.specs.declared.known.Known.{Known}
use Rattle.money.specs.declared.fault.Fault.{Fault}

-- another World of the same version and with the same rows
along : (w v : WorldLists) (entries : List (Key × Kept)) → v.version ≡ w.version → ((key : Key) (rows : Rows) → HasRows w key rows → HasRows v key rows) → AreFresh w entries → AreFresh v entries
along w v entries same stay fresh entry there = record {
  not_later = subst (λ (n : ℕ). entry.1.version ≤ n) (sym same) (fresh entry there).not_later;
  same_rows = λ present. stay entry.0 entry.1.rows ((fresh entry there).same_rows (present ∙ same));
}

-- a World of a later version
later : (w v : WorldLists) (entries : List (Key × Kept)) → v.version ≡ w.version + 1 → AreFresh w entries → AreFresh v entries
later w v entries next fresh entry there =
    let bound : entry.1.version ≤ w.version = (fresh entry there).not_later in
    record {
      not_later = omega arith;
      same_rows = λ present. absurd (omega arith);
    }

one_written : (row : RowWrite) (w : WorldLists) (entries : List (Key × Kept)) → is_of_policy row ≡ false → AreFresh w entries → AreFresh (written row w) entries
one_written (write.Account row) w entries none = along w (written (write.Account row) w) entries refl (λ key rows has. has)
one_written (write.Entry row) w entries none = along w (written (write.Entry row) w) entries refl (λ key rows has. has)
one_written (write.Line row) w entries none = along w (written (write.Line row) w) entries refl (λ key rows has. has)
one_written (write.Proof row) w entries none = along w (written (write.Proof row) w) entries refl (λ key rows has. has)
one_written (write.Release row) w entries none = along w (written (write.Release row) w) entries refl (λ key rows has. has)
one_written (write.Day d) w entries none = along w (written (write.Day d) w) entries refl (λ key rows has. has)
one_written (write.Used k) w entries none = along w (written (write.Used k) w) entries refl (λ key rows has. has)
one_written (write.Slip row) w entries none = along w (written (write.Slip row) w) entries refl (λ key rows has. has)
one_written (write.Session s) w entries none = along w (written (write.Session s) w) entries refl (λ key rows has. has)
one_written (write.Policy change) w entries none = absurd (cc)

pub neither : (a b : Bool) → (a || b) ≡ false → (a ≡ false) × (b ≡ false)
neither true b none = absurd (cc)
neither false b none = (refl, none)

written_fresh : (plan : List RowWrite) (w : WorldLists) (entries : List (Key × Kept)) → changes_policy plan ≡ false → AreFresh w entries → AreFresh (all_written plan w) entries
written_fresh [] w entries none fresh = fresh
written_fresh (row ∷ plan) w entries none fresh =
    let both = neither (is_of_policy row) (changes_policy plan) none in
    written_fresh plan (written row w) entries both.1 (one_written row w entries both.0 fresh)

written_version : (plan : List RowWrite) (w : WorldLists) → (all_written plan w).version ≡ w.version
written_version [] w = refl
written_version (row ∷ plan) w = written_version plan (written row w) ∙ same row
  where
    same : (r : RowWrite) → (written r w).version ≡ w.version
    same (write.Account x) = refl
    same (write.Entry x) = refl
    same (write.Line x) = refl
    same (write.Proof x) = refl
    same (write.Release x) = refl
    same (write.Day d) = refl
    same (write.Used k) = refl
    same (write.Slip x) = refl
    same (write.Session s) = refl
    same (write.Policy p) = refl

in_full_fresh : (plan : List RowWrite) (w : WorldLists) (entries : List (Key × Kept)) → AreFresh w entries → AreFresh (in_full plan w) entries
in_full_fresh plan w entries fresh = by (changes_policy plan) refl
  where
    by : (b : Bool) → changes_policy plan ≡ b → AreFresh (with_version b (all_written plan w)) entries
    by true some = later w (with_version true (all_written plan w)) entries (ap (λ (n : ℕ). n + 1) (written_version plan w)) fresh
    by false none = written_fresh plan w entries none fresh

applied_fresh : (plan : List RowWrite) (w : WorldLists) (entries : List (Key × Kept)) → AreFresh w entries → AreFresh (applied plan w) entries
applied_fresh plan w entries fresh = by (has_version_for plan w.version)
  where
    by : (b : Bool) → AreFresh (if b then in_full plan w else w) entries
    by true = in_full_fresh plan w entries fresh
    by false = fresh

after_fresh : (mark : Option Fault) (plan : List RowWrite) (w : WorldLists) (entries : List (Key × Kept)) → AreFresh w entries → AreFresh (after_mark mark (applied plan w) w) entries
after_fresh None plan w entries fresh = applied_fresh plan w entries fresh
after_fresh (Some fault) plan w entries fresh = fresh

pub applied_version : (plan : List RowWrite) (w : WorldLists) → changes_policy plan ≡ false → (applied plan w).version ≡ w.version
applied_version plan w none = by (has_version_for plan w.version)
  where
    by : (b : Bool) → (if b then in_full plan w else w).version ≡ w.version
    by true = ap (λ (c : Bool). (with_version c (all_written plan w)).version) none ∙ written_version plan w
    by false = refl

after_known : (mark : Option Fault) (plan : List RowWrite) (w : WorldLists) (after : Option Known) → IfSome after (IsKnownOf (applied plan w)) → IfSome after (IsKnownOf w)
    → IfSome after (IsKnownOf (after_mark mark (applied plan w) w))
after_known None plan w after carried refused = carried
after_known (Some fault) plan w after carried refused = refused

-- a plan that is carried out below is carried out with the cache, which then knows what it knows however the plan ends
pub changes_beside : (old new : Status) (before after : Option Known) (entries : List (Key × Kept)) (plan : List RowWrite) (mark : Option Fault)
    → ((w : WorldLists) → IfSome before (IsKnownOf w) → IfSome after (IsKnownOf (applied plan w))) → ((w : WorldLists) → IfSome before (IsKnownOf w) → IfSome after (IsKnownOf w))
    → Changes old new (applied plan) mark → Changes (with_kept old (Suits before entries)) (with_kept new (Suits after entries)) (applied plan) mark
changes_beside old new before after entries plan mark carried refused c = record {
  answers = record {
    honest = c.answers.honest;
    state = c.answers.state;
    was_stopped = c.answers.was_stopped;
    counted = c.answers.counted;
    no_more = c.answers.no_more;
    failed = c.answers.failed;
  };
  moved = λ w holds. (c.moved w holds.0, λ clean. let suits = holds.1 (c.answers.honest clean) in (after_fresh mark plan w entries suits.0, after_known mark plan w after (carried w suits.1) (refused w suits.1)));
  crash = λ clean w left holds may. c.crash clean w left holds.0 may;
  settled = λ clean done w left holds may. c.settled clean done w left holds.0 may;
  whole = λ clean w holds before. c.whole clean w holds.0 before;
}
