-- What calls of the tables are to the store with the rows that it knows.
use Rattle.std.proofs.Common.{Err, IfOk, Ok, OnErr, Result}
use Rattle.bank_books.specs.WorldLists.{WorldLists}
use Rattle.money.specs.declared.fault.Fault.{Fault}
use Rattle.store_rows.specs.Status.{ReadsRow, Status}
use Rattle.sql_writes.specs.Known.{AreKnownOf}
use Rattle.sql_writes.specs.declared.known.KnownRows.{KnownRows}
use Rattle.store_sql.specs.Bank.{with_known}

-- a read, after which other rows are known
pub reads_with : {A : Type 0} (old new : Status) (before between after : KnownRows) (r : Result A Fault) (P : WorldLists → A → Type 0) → ReadsRow (with_known before old) (with_known between new) r P
    → (new.is_honest → (w : WorldLists) → IfOk r (P w) → AreKnownOf w between → AreKnownOf w after) → ReadsRow (with_known before old) (with_known after new) r P
reads_with old new before between after r P read learn = record {
  stated = read.stated;
  kept = record {
    answers = record {
      honest = read.kept.answers.honest;
      state = read.kept.answers.state;
      was_stopped = read.kept.answers.was_stopped;
      counted = read.kept.answers.counted;
      no_more = read.kept.answers.no_more;
      failed = read.kept.answers.failed;
    };
    kept = λ w holds. let it = read.kept.kept w holds in (it.0, λ honest. learn honest w (read.stated honest w holds) (it.1 honest));
    crash = λ honest w may. read.kept.crash honest w may;
    whole = λ honest leaves. read.kept.whole honest leaves;
  };
  refused = read.refused;
  counted = read.counted;
}

-- what is so of every World at a fault is so of this one
pub err_at : {A E : Type 0} (r : Result A E) (P : WorldLists → Type 0) (w : WorldLists) → OnErr r ((v : WorldLists) → P v) → OnErr r (P w)
err_at (Ok it) P w all = tt
err_at (Err fault) P w all = all w
