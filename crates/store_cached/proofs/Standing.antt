-- What calls of the store below are to the store with its cache.
use Rattle.std.proofs.Common.{◌≡◌, ◌≤◌, ◌+◌, IsTrue, Result, Ok, IfOk, Option, ap, subst, sym, ◌∙◌}
use Rattle.bank_books.specs.WorldLists.{WorldLists}
use Rattle.store_rows.specs.Status.{Keeps, ReadsRow, RoseBy, Status, count_after, counts, counts_at_most, failures_after, mark_of, stops}
use Rattle.store_cached.specs.Standing.{with_kept}
use Rattle.money.specs.declared.fault.Fault.{Fault}

-- a read that answered, and then another read
pub reads_then : {A B : Type 0} (old mid new : Status) (first : A) (r : Result B Fault) (P : WorldLists → A → Type 0) (Q : WorldLists → B → Type 0)
    → ReadsRow old mid (Ok first) P → ReadsRow mid new r Q → ReadsRow old new r Q
reads_then old mid new first r P Q a b = record {
  stated = λ clean w holds. b.stated clean w (a.kept.kept w holds);
  kept = record {
    answers = record {
      honest = λ clean. a.kept.answers.honest (b.kept.answers.honest clean);
      state = b.kept.answers.state ∙ ap (stops (mark_of r)) a.kept.answers.state;
      was_stopped = λ is. subst (λ s. IsTrue s) a.kept.answers.state (b.kept.answers.was_stopped is);
      counted = subst (λ n. RoseBy (counts (mark_of r)) n new.fault_count) a.counted b.kept.answers.counted;
      no_more = subst (λ n. new.fault_count ≤ n + counts_at_most (mark_of r)) a.counted b.kept.answers.no_more;
      failed = b.kept.answers.failed ∙ ap (failures_after (mark_of r)) a.kept.answers.failed;
    };
    kept = λ w holds. b.kept.kept w (a.kept.kept w holds);
    crash = λ clean w left. a.kept.crash (b.kept.answers.honest clean) w (b.kept.crash clean w left);
    whole = λ clean before. b.kept.whole clean (a.kept.whole (b.kept.answers.honest clean) before);
  };
  refused = λ stopped. b.refused (subst (λ s. IsTrue s) (sym a.kept.answers.state) stopped);
  counted = b.counted ∙ ap (count_after (mark_of r)) a.counted;
}

keeps_with : (old new : Status) (K L : WorldLists → Type 0) (mark : Option Fault) → Keeps old new mark
    → (new.is_honest → (w : WorldLists) → old.holds w → K w → L w) → Keeps (with_kept old K) (with_kept new L) mark
keeps_with old new K L mark k stay = record {
  answers = record {
    honest = k.answers.honest;
    state = k.answers.state;
    was_stopped = k.answers.was_stopped;
    counted = k.answers.counted;
    no_more = k.answers.no_more;
    failed = k.answers.failed;
  };
  kept = λ w holds. (k.kept w holds.0, λ clean. stay clean w holds.0 (holds.1 (k.answers.honest clean)));
  crash = λ clean w left. k.crash clean w left;
  whole = λ clean before. k.whole clean before;
}

-- a read of the store below, after which other things may be kept, as far as they suit
pub reads_with : {A : Type 0} (old new : Status) (K L : WorldLists → Type 0) (r : Result A Fault) (P : WorldLists → A → Type 0) → ReadsRow old new r P
    → (new.is_honest → (w : WorldLists) → old.holds w → K w → L w) → ReadsRow (with_kept old K) (with_kept new L) r P
reads_with old new K L r P read stay = record {
  stated = λ clean w holds. read.stated clean w holds.0;
  kept = keeps_with old new K L (mark_of r) read.kept stay;
  refused = read.refused;
  counted = read.counted;
}

-- a read that is handed on
pub reads_beside : {A : Type 0} (old new : Status) (K : WorldLists → Type 0) (r : Result A Fault) (P : WorldLists → A → Type 0)
    → ReadsRow old new r P → ReadsRow (with_kept old K) (with_kept new K) r P
reads_beside old new K r P read = reads_with old new K K r P read (λ clean w holds suits. suits)

-- A read, after which other things are kept. The call may answer other rows than the read.
pub reads_kept : {A B : Type 0} (old new : Status) (K L : WorldLists → Type 0) (r : Result A Fault) (s : Result B Fault) (P : WorldLists → A → Type 0) (Q : WorldLists → B → Type 0)
    → ReadsRow old (with_kept new K) r P → mark_of s ≡ mark_of r
    → (new.is_honest → (w : WorldLists) → old.holds w → K w → L w)
    → (new.is_honest → (w : WorldLists) → old.holds w → K w → IfOk s (Q w))
    → ReadsRow old (with_kept new L) s Q
reads_kept old new K L r s P Q read marks stay tell = record {
  stated = λ clean w holds. tell clean w holds ((read.kept.kept w holds).1 clean);
  kept = subst (λ m. Keeps old (with_kept new L) m) (sym marks) kept;
  refused = λ stopped. marks ∙ read.refused stopped;
  counted = read.counted ∙ ap (λ m. count_after m old.fault_count) (sym marks);
}
  where
    kept : Keeps old (with_kept new L) (mark_of r)
    kept = record {
      answers = record {
        honest = read.kept.answers.honest;
        state = read.kept.answers.state;
        was_stopped = read.kept.answers.was_stopped;
        counted = read.kept.answers.counted;
        no_more = read.kept.answers.no_more;
        failed = read.kept.answers.failed;
      };
      kept = λ w holds. ((read.kept.kept w holds).0, λ clean. stay clean w holds ((read.kept.kept w holds).1 clean));
      crash = λ clean w left. read.kept.crash clean w left;
      whole = λ clean before. read.kept.whole clean before;
    }
