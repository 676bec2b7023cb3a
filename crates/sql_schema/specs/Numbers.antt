-- Numbers in columns that represent something else.
use Rattle.std.specs.Prelude.{ℕ, pos, Bool, true, false, ◌==◌, List, [], ◌∷◌, Option}
use Rattle.std.specs.List.{find}
use Rattle.sqlite.specs.declared.types.Value.{Value}
use Rattle.sqlite.specs.declared.types.Value.TheVariants.{Int}
use Rattle.bank_terms.specs.Procedure.{number_of, procedures}
use Rattle.bank_terms.specs.declared.item.Kind.{Kind}
use Rattle.bank_terms.specs.declared.item.Kind.TheVariants.{Account, Teller, Branch, History, Drawer, Vault}
use Rattle.bank_terms.specs.declared.procedure.Procedure.{Procedure}
use Rattle.bank_books.specs.declared.rows.EntryForm.{EntryForm}
use Rattle.bank_books.specs.declared.rows.EntryForm.TheVariants as entry
use Rattle.bank_books.specs.declared.rows.LineForm.{LineForm}
use Rattle.bank_books.specs.declared.rows.LineForm.TheVariants as line

-- 1 is true, and 0 false
abbrev pub truth_cell : Bool → Value
truth_cell true = Int (pos 1)
truth_cell false = Int (pos 0)

abbrev pub procedure_cell : Procedure → Value
procedure_cell procedure = Int (pos (number_of procedure))

-- the procedure of that number
abbrev pub procedure_numbered : ℕ → Option Procedure
procedure_numbered number = find (λ procedure. number_of procedure == number) procedures

-- the kinds of items in their order
abbrev pub kinds : List Kind
kinds = Account ∷ Teller ∷ Branch ∷ History ∷ Drawer ∷ Vault ∷ []

abbrev pub kind_number : Kind → ℕ
kind_number Account = 1
kind_number Teller = 2
kind_number Branch = 3
kind_number History = 4
kind_number Drawer = 5
kind_number Vault = 6

abbrev pub kind_cell : Kind → Value
kind_cell kind = Int (pos (kind_number kind))

-- the kind of that number
abbrev pub kind_numbered : ℕ → Option Kind
kind_numbered number = find (λ kind. kind_number kind == number) kinds

abbrev pub entry_form_number : EntryForm → ℕ
entry_form_number entry.Post = 1
entry_form_number entry.TransferLeg = 2
entry_form_number entry.Correction = 3

abbrev pub line_form_number : LineForm → ℕ
line_form_number line.CashEntry = 1
line_form_number line.On = 2
line_form_number line.Off = 3
line_form_number line.Move = 4
line_form_number line.Difference = 5
