-- What the tables of the books say of a World for reports.
use Rattle.std.proofs.Common.{◌≡◌, ◌≢◌, ◌+◌, ℕ, zero, suc, ◌∷◌, [], Option, Some, None, refl, subst, ◌∙◌}
use Rattle.std.specs.Prelude.{option_map}
use Rattle.std.specs.List.{find}
use Rattle.std.specs.Option.{option_map_or}
use Rattle.bank_books.specs.Records.{entry_record_of, teller_record_of}
use Rattle.bank_books.specs.WorldLists.{WorldLists}
use Rattle.bank_books.specs.declared.records.TellerRecord.{TellerRecord}
use Rattle.bank_books.specs.declared.rows.Teller.{Teller}
use Rattle.keyed_rows.proofs.Rows.{find-found}
use Rattle.sql_books.specs.Picks.{is_entry_at, is_teller_after}
use Rattle.sql_books.specs.Turns.{entries_from}
use Rattle.book_kept.specs.Keepable.{IsKeepable}
use Rattle.book_kept.specs.Records.{kept_teller, kept_teller_of}
use Rattle.book_kept.specs.Sheets.{sheets_of}
use Rattle.book_kept.proofs.RowLemmas.{find-map, source}
use Rattle.world_reads.specs.BookReads.{entries_of, entry_at, next_teller}
use Rattle.world_reads.specs.BookReads as reads

pub entry_at_is : (w : WorldLists) (account turn : ℕ) → find (is_entry_at account turn) (sheets_of w).entries ≡ entry_at w account turn
entry_at_is w account turn = find-map (is_entry_at account turn) (entry_record_of w) w.entries

pub entries_are : (w : WorldLists) (account start count : ℕ) → entries_from (sheets_of w).entries account start count ≡ entries_of w account start count
entries_are w account start zero = refl
entries_are w account start (suc count) = λ i. option_map_or (λ e. e ∷ entries_are w account (start + 1) count i) (entry_at_is w account start i) []

pub next_teller_is : (w : WorldLists) (branch after : ℕ) → find (is_teller_after branch after) (sheets_of w).tellers ≡ option_map kept_teller (next_teller w branch after)
next_teller_is w branch after = find-map (is_teller_after branch after) (kept_teller_of w) w.tellers ∙ twice (find (reads.is_teller_after branch after) w.tellers)
  where
    twice : (o : Option Teller) → option_map (kept_teller_of w) o ≡ option_map kept_teller (option_map (teller_record_of w) o)
    twice None = refl
    twice (Some t) = refl

pub next_teller_held : (w : WorldLists) (branch after : ℕ) → IsKeepable w → (t : TellerRecord) → next_teller w branch after ≡ Some t → t.holder ≢ Some 0
next_teller_held w branch after can t is =
    let tx = source (teller_record_of w) (find (reads.is_teller_after branch after) w.tellers) t is in
    subst (λ r. r.holder ≢ Some 0) tx.1.1 (can.tellers.holders tx.0 (find-found (reads.is_teller_after branch after) w.tellers tx.0 tx.1.0).0)
