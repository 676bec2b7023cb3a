-- Rows as their tables keep them. Of a table whose rowid is its key the rowid stands first, and the column of the key itself is left NULL;
-- of any other table the rowid is left out, since it is the table's own.
use Rattle.std.specs.Prelude.{ℕ, ◌≡◌, ◌<◌, ◌^◌, ⊤, pos, [], ◌∷◌, length, slice_index_or}
use Rattle.sqlite.specs.declared.types.Value.{Value}
use Rattle.sqlite.specs.declared.types.Value.TheVariants.{Null, Int, Text, Blob}
use Rattle.sqlite.specs.Order.{Row}
use Rattle.bank_terms.specs.Limits.{max_moment}
use Rattle.bank_policy.specs.declared.rows.Certifier.{Certifier}
use Rattle.bank_policy.specs.declared.rows.Relation.{Relation}
use Rattle.bank_policy.specs.declared.rows.Triple.{Triple}
use Rattle.bank_books.specs.declared.records.AccountRecord.{AccountRecord}
use Rattle.bank_books.specs.declared.records.BranchRecord.{BranchRecord}
use Rattle.bank_books.specs.declared.records.EntryRecord.{EntryRecord}
use Rattle.bank_books.specs.declared.rows.CashLine.{CashLine}
use Rattle.bank_books.specs.declared.rows.Proof.{Proof}
use Rattle.bank_books.specs.SlipRow.{SlipRow}
use Rattle.bank_books.specs.declared.rows.Release.{Release}
use Rattle.book_kept.specs.declared.records.KeptTeller.{KeptTeller}
use Rattle.book_kept.specs.declared.records.KeptUser.{KeptUser}
use Rattle.book_kept.specs.declared.records.MemberRow.{MemberRow}
use Rattle.book_kept.specs.declared.records.SlipCount.{SlipCount}
use Rattle.sql_schema.specs.declared.edition.Edition.{Edition}
use Rattle.sql_schema.specs.declared.edition.Edition.TheVariants.{First, Second, Third}
use Rattle.sql_schema.specs.Numbers.{entry_form_number, kind_cell, line_form_number, procedure_cell, truth_cell}
use Rattle.sql_schema.specs.Schema.{newest}

-- the number of the schema version, as the row of the bank has it
abbrev pub edition_number : Edition → ℕ
edition_number First = 1
edition_number Second = 2
edition_number Third = 3

-- the schema version, and the version of the policy
abbrev pub bank_cells_in : Edition → ℕ → Row
bank_cells_in e policy = Int (pos 1) ∷ Null ∷ Int (pos (edition_number e)) ∷ Int (pos policy) ∷ []

abbrev pub bank_cells : ℕ → Row
bank_cells = bank_cells_in newest

-- ---- the policy

abbrev pub user_cells : KeptUser → Row
user_cells u =
    Int (pos u.row.user) ∷ Null ∷ Text u.row.name ∷ truth_cell u.row.officer ∷ truth_cell u.row.suspended ∷ Int (pos u.row.session) ∷ truth_cell u.row.on
    ∷ Int (pos u.releases) ∷ []

abbrev pub set_cells : ℕ → Row
set_cells set = Int (pos set) ∷ Null ∷ []

abbrev pub member_cells : MemberRow → Row
member_cells m = Int (pos m.set) ∷ Int (pos m.place) ∷ kind_cell m.member.kind ∷ Int (pos m.member.low) ∷ Int (pos m.member.high) ∷ []

abbrev pub relation_cells : Relation → Row
relation_cells r = procedure_cell r.procedure ∷ Int (pos r.set) ∷ Int (pos r.by) ∷ []

abbrev pub triple_cells : Triple → Row
triple_cells t = Int (pos t.user) ∷ procedure_cell t.procedure ∷ Int (pos t.set) ∷ Int (pos t.limit) ∷ Int (pos t.first) ∷ Int (pos t.last) ∷ []

abbrev pub triple_cells_in : Edition → Triple → Row
triple_cells_in First t = Int (pos t.user) ∷ procedure_cell t.procedure ∷ Int (pos t.set) ∷ Int (pos t.limit) ∷ []
triple_cells_in Second t = triple_cells t
triple_cells_in Third t = triple_cells t

abbrev pub certifier_cells : Certifier → Row
certifier_cells c = Int (pos c.user) ∷ procedure_cell c.procedure ∷ []

-- ---- the books

abbrev pub branch_cells : BranchRecord → Row
branch_cells b =
    Int (pos b.row.branch) ∷ Null ∷ Int b.row.opening ∷ Int b.row.cash ∷ Int (pos b.row.day)
    ∷ Int b.balance ∷ Int b.vault ∷ Int (pos b.entries) ∷ Int (pos b.lines) ∷ Int (pos b.accounts) ∷ Int b.history ∷ Int b.drawers ∷ Int b.cash_entries ∷ Int b.differences ∷ []

abbrev pub teller_cells : KeptTeller → Row
teller_cells t = Int (pos t.row.teller) ∷ Null ∷ Int (pos t.row.branch) ∷ Int t.row.opening ∷ Int t.balance ∷ Int t.cash ∷ Int (pos t.holder) ∷ []

abbrev pub account_cells : AccountRecord → Row
account_cells a = Int (pos a.row.account) ∷ Null ∷ Int (pos a.row.home) ∷ Int a.row.opening ∷ Int a.row.floor ∷ Int a.balance ∷ Int (pos a.turns) ∷ []

abbrev pub entry_cells : EntryRecord → Row
entry_cells e =
    Int (pos e.row.branch) ∷ Int (pos e.row.number) ∷ Int (pos e.row.account) ∷ Int (pos e.row.turn) ∷ Int (pos e.row.teller) ∷ Int e.row.delta ∷ Int (pos e.row.moment)
    ∷ Int (pos e.row.day) ∷ Int (pos e.row.user) ∷ Int (pos (entry_form_number e.row.form)) ∷ Int (pos e.row.partner) ∷ Int (pos e.row.undoes) ∷ Int e.balance_after ∷ []

abbrev pub line_cells : CashLine → Row
line_cells l =
    Int (pos l.branch) ∷ Int (pos l.number) ∷ Int (pos l.place) ∷ Int l.amount ∷ Int (pos (line_form_number l.form)) ∷ Int (pos l.moment) ∷ Int (pos l.day) ∷ Int (pos l.user) ∷ []

abbrev pub proof_cells : Proof → Row
proof_cells p = Int (pos p.branch) ∷ Int (pos p.day) ∷ Int (pos p.entries) ∷ Int p.balance ∷ Int p.cash ∷ []

-- the member of a release's operation at this place
abbrev pub member_cell : Release → ℕ → Value
member_cell r place = Int (slice_index_or r.operation.members place (pos 0))

abbrev pub release_cells : Release → Row
release_cells r =
    Int (pos r.user) ∷ Int (pos r.number) ∷ Int (pos r.giver) ∷ Int (pos r.branch) ∷ Int (pos r.day) ∷ procedure_cell r.operation.form
    ∷ member_cell r 0 ∷ member_cell r 1 ∷ member_cell r 2 ∷ member_cell r 3 ∷ member_cell r 4 ∷ member_cell r 5 ∷ member_cell r 6 ∷ member_cell r 7 ∷ truth_cell r.used ∷ []

-- the member of a slip's operation at this place
abbrev pub slip_member_cell : SlipRow → ℕ → Value
slip_member_cell s place = Int (slice_index_or s.operation.members place (pos 0))

abbrev pub slip_cells : SlipRow → Row
slip_cells s =
    Int (pos s.user) ∷ Int (pos s.number) ∷ procedure_cell s.operation.form
    ∷ slip_member_cell s 0 ∷ slip_member_cell s 1 ∷ slip_member_cell s 2 ∷ slip_member_cell s 3 ∷ slip_member_cell s 4 ∷ slip_member_cell s 5 ∷ slip_member_cell s 6 ∷ slip_member_cell s 7
    ∷ Blob s.reply ∷ []

abbrev pub slip_count_cells : SlipCount → Row
slip_count_cells c = Int (pos c.user) ∷ Null ∷ Int (pos c.slips) ∷ []

-- ---- what is required of a row, so that its key and its cells determine it

abbrev pub AnyRow : {X : Type 0} → X → Type 0
AnyRow _ = ⊤

abbrev pub MemberFits : MemberRow → Type 0
MemberFits m = m.place < 2 ^ 32

abbrev pub RelationFits : Relation → Type 0
RelationFits r = r.set < 2 ^ 32

abbrev pub TripleFits : Triple → Type 0
TripleFits t = t.set < 2 ^ 32

-- A triple as a schema version can keep it: in the first it has the widest moments.
abbrev pub TripleFitsIn : Edition → Triple → Type 0
TripleFitsIn First t = TripleFits t × (t.first ≡ 0) × (t.last ≡ max_moment)
TripleFitsIn Second t = TripleFits t
TripleFitsIn Third t = TripleFits t

abbrev pub EntryFits : EntryRecord → Type 0
EntryFits e = e.row.number < 2 ^ 32

abbrev pub LineFits : CashLine → Type 0
LineFits l = l.number < 2 ^ 32

abbrev pub ProofFits : Proof → Type 0
ProofFits p = p.day < 2 ^ 32

-- its operation has as many members as there are columns for them
pub record ReleaseFits (r : Release) : Type 0 where
  pub number : r.number < 2 ^ 32
  pub members : length r.operation.members ≡ 8

pub record SlipFits (s : SlipRow) : Type 0 where
  pub number : s.number < 2 ^ 32
  pub members : length s.operation.members ≡ 8
