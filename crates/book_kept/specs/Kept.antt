-- That a World stays kept over a change, or over several.
use Rattle.std.specs.Prelude.{◌≡◌, List}
use Rattle.bank_books.specs.Effects.{all_written, written}
use Rattle.bank_books.specs.WorldLists.{WorldLists}
use Rattle.bank_books.specs.declared.row_write.RowWrite.{RowWrite}
use Rattle.book_kept.specs.Keepable.{IsKeepable}
use Rattle.book_kept.specs.Sheets.{Sheets, sheets_of}

-- With the change the World can be kept still, and the rows with their numbers are those that are made of the ones before: no number
-- is moved without its row, and none beside another row.
pub record IsKept (w : WorldLists) (change : RowWrite) (after : Sheets → Sheets) : Type 0 where
  pub keepable : IsKeepable (written change w)
  pub sheets : sheets_of (written change w) ≡ after (sheets_of w)

-- the same of several changes, one after another
pub record AreKept (w : WorldLists) (changes : List RowWrite) (after : Sheets → Sheets) : Type 0 where
  pub keepable : IsKeepable (all_written changes w)
  pub sheets : sheets_of (all_written changes w) ≡ after (sheets_of w)
