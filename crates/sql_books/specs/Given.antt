-- The values that are given with a statement, by the cells of a row.
use Rattle.std.specs.Prelude.{pos, [], ◌∷◌}
use Rattle.sqlite.specs.declared.types.Value.TheVariants.{Int}
use Rattle.sqlite.specs.Order.{Row}
use Rattle.sql_books.specs.declared.accounts.AccountCells.{AccountCells}
use Rattle.sql_books.specs.declared.tellers.TellerCells.{TellerCells}
use Rattle.sql_books.specs.declared.bank.VersionCells.{VersionCells}
use Rattle.sql_books.specs.declared.branches.BranchCells.{BranchCells}
use Rattle.sql_books.specs.declared.day_proofs.ProofCells.{ProofCells}
use Rattle.sql_books.specs.declared.entries.EntryCells.{EntryCells}
use Rattle.sql_books.specs.declared.lines.LineCells.{LineCells}
use Rattle.sql_books.specs.declared.turns.TurnCells.{TurnCells}

abbrev pub given_account : AccountCells → Row
given_account c = Int (pos c.account) ∷ Int (pos c.home) ∷ Int c.opening ∷ Int c.floor ∷ Int c.balance ∷ Int c.turns ∷ []

abbrev pub given_teller : TellerCells → Row
given_teller c = Int (pos c.teller) ∷ Int (pos c.branch) ∷ Int c.opening ∷ Int c.balance ∷ Int c.cash ∷ Int (pos c.holder) ∷ []

abbrev pub given_branch : BranchCells → Row
given_branch c = Int (pos c.branch) ∷ Int c.opening ∷ Int c.cash ∷ Int (pos c.day) ∷ Int c.balance ∷ Int c.vault ∷ Int c.entries ∷ Int c.lines ∷ Int c.accounts ∷ Int c.history ∷ Int c.drawers ∷ Int c.cash_entries ∷ Int c.differences ∷ []

abbrev pub given_entry : EntryCells → Row
given_entry c = Int (pos c.branch) ∷ Int (pos c.number) ∷ Int (pos c.account) ∷ Int (pos c.turn) ∷ Int (pos c.teller) ∷ Int c.delta ∷ Int c.moment ∷ Int (pos c.day) ∷ Int (pos c.user) ∷ Int (pos c.form) ∷ Int (pos c.partner) ∷ Int (pos c.undoes) ∷ Int c.balance_after ∷ []

abbrev pub given_version : VersionCells → Row
given_version c = Int c.version ∷ []

abbrev pub given_turn : TurnCells → Row
given_turn c = Int (pos c.account) ∷ Int c.turn ∷ []

abbrev pub given_line : LineCells → Row
given_line c = Int (pos c.branch) ∷ Int (pos c.number) ∷ Int (pos c.place) ∷ Int c.amount ∷ Int (pos c.form) ∷ Int c.moment ∷ Int (pos c.day) ∷ Int (pos c.user) ∷ []

abbrev pub given_proof : ProofCells → Row
given_proof c = Int (pos c.branch) ∷ Int (pos c.day) ∷ Int (pos c.entries) ∷ Int c.balance ∷ Int c.cash ∷ []
