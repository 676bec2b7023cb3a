-- Rows as queries show them: of a table whose key is its rowid, the key stands in its column.
use Rattle.std.specs.Prelude.{ℕ, pos, [], ◌∷◌}
use Rattle.sqlite.specs.declared.types.Value.TheVariants.{Int, Text}
use Rattle.sqlite.specs.Order.{Row}
use Rattle.bank_books.specs.declared.records.AccountRecord.{AccountRecord}
use Rattle.bank_books.specs.declared.records.BranchRecord.{BranchRecord}
use Rattle.book_kept.specs.declared.records.KeptTeller.{KeptTeller}
use Rattle.book_kept.specs.declared.records.KeptUser.{KeptUser}
use Rattle.book_kept.specs.declared.records.SlipCount.{SlipCount}
use Rattle.sql_schema.specs.Numbers.{truth_cell}

abbrev pub shown_account : AccountRecord → Row
shown_account a = Int (pos a.row.account) ∷ Int (pos a.row.home) ∷ Int a.row.opening ∷ Int a.row.floor ∷ Int a.balance ∷ Int (pos a.turns) ∷ []

abbrev pub shown_teller : KeptTeller → Row
shown_teller t = Int (pos t.row.teller) ∷ Int (pos t.row.branch) ∷ Int t.row.opening ∷ Int t.balance ∷ Int t.cash ∷ Int (pos t.holder) ∷ []

abbrev pub shown_branch : BranchRecord → Row
shown_branch b = Int (pos b.row.branch) ∷ Int b.row.opening ∷ Int b.row.cash ∷ Int (pos b.row.day) ∷ Int b.balance ∷ Int b.vault ∷ Int (pos b.entries) ∷ Int (pos b.lines) ∷ Int (pos b.accounts) ∷ Int b.history ∷ Int b.drawers ∷ Int b.cash_entries ∷ Int b.differences ∷ []

abbrev pub shown_set : ℕ → Row
shown_set set = Int (pos set) ∷ []

abbrev pub shown_user : KeptUser → Row
shown_user u =
    Int (pos u.row.user) ∷ Text u.row.name ∷ truth_cell u.row.officer ∷ truth_cell u.row.suspended ∷ Int (pos u.row.session) ∷ truth_cell u.row.on ∷ Int (pos u.releases) ∷ []

abbrev pub shown_slip_count : SlipCount → Row
shown_slip_count c = Int (pos c.user) ∷ Int (pos c.slips) ∷ []
