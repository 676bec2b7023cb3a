-- A move of cash as an operation: its reply and its meaning. The rest of it is that of its plan.
use Rattle.bank_meaning.specs.AskedRows.{LineSays, line_says}
use Rattle.bank_books.specs.declared.row_write.RowWrite.{RowWrite}
use Rattle.bank_books.specs.declared.row_write.RowWrite.TheVariants as write
use Rattle.bank_books.specs.declared.rows.LineForm.TheVariants as line_form
use Rattle.bank_books.specs.declared.rows.CashLine.{CashLine}
use Rattle.bank_books.specs.Cash.{cash_of, line_count}
use Rattle.std.specs.Prelude.{ℤ, ◌+◌}
use Rattle.std.specs.Prelude.{ℕ, List, [], ◌∷◌, ◌++◌, codes, decimal}
use Rattle.std.specs.Option.{option_map_or}
use Rattle.std.specs.Fmt.{signed_decimal}
use Rattle.serde_json.specs.Data.{Data, object, member, no_members}
use Rattle.bank_books.specs.WorldLists.{WorldLists}
use Rattle.bank_books.specs.declared.signature.Signature.{Signature}
use Rattle.counter_ops.specs.declared.move_cash.MoveCash.{MoveCash}
use Rattle.drawers.specs.MoveCash.{move_tests, move_rows, moved_of}
use Rattle.drawers.specs.declared.move_cash.Moved.{Moved}
use Rattle.std.specs.Prelude.{false}
use Rattle.drawers.specs.MoveCash.{move_changes}
use Rattle.drawers.specs.declared.move_cash.MoveRows.{MoveRows}
use Rattle.bank_meaning.specs.Form.{Form, said_by}
use Rattle.bank_meaning.specs.Moves.{moves_nothing}
use Rattle.bank_meaning.specs.Denial.{cents, natural}
use Rattle.bank_meaning.specs.Meaning.{Meaning, ReplyText, json}
use Rattle.bank_meaning.specs.JudgedRows.{HasBranch, HoldsDrawer, PlaceCovers}
use Rattle.std.specs.Prelude.{pos, neg_ℤ, ◌≡◌, ◌≢◌}

-- the cash of both places after it
unfoldable pub moved_text : Moved → List ℕ
moved_text m =
    codes "{\"moved\":" ++ decimal m.moved ++ codes ",\"source\":" ++ signed_decimal m.source ++ codes ",\"target\":" ++ signed_decimal m.target ++ codes "}"

-- the JSON value of the reply
abbrev pub moved_data : Moved → Data
moved_data m =
    object (member (codes "moved") (natural m.moved) (member (codes "source") (cents m.source) (member (codes "target") (cents m.target) no_members)))

-- Who moves cash holds the drawer that gives it, or where the vault gives, the one that takes it; and somebody holds the drawer that takes it. The vault is place 0.
pub record IsMoveJudged (w : WorldLists) (user : ℕ) (move : MoveCash) : Type 0 where
  pub branch : HasBranch w move.branch
  pub source : move.source ≢ 0 → HoldsDrawer w user move.source move.branch
  pub from_vault : move.source ≡ 0 → move.target ≢ 0 → HoldsDrawer w user move.target move.branch
  pub target : move.target ≢ 0 → (holder : ℕ) × HoldsDrawer w holder move.target move.branch
  pub cash : PlaceCovers w move.source move.branch (neg_ℤ (pos move.amount))

-- with this number, at a place of the branch
abbrev pub move_says : MoveCash → ℕ → ℕ → ℤ → LineSays
move_says move number place amount = record { branch = move.branch; number = number; place = place; amount = amount; form = line_form.Move }

-- the amount out of the source and into the target
abbrev pub AreMoveAsked : WorldLists → MoveCash → List RowWrite → Type 0
AreMoveAsked w move rows =
    let n = line_count move.branch w.lines in
    (source : CashLine)
    × (target : CashLine)
    × (rows ≡ write.Line source ∷ write.Line target ∷ [])
    × (line_says source ≡ move_says move (n + 1) move.source (neg_ℤ (pos move.amount)))
    × (line_says target ≡ move_says move (n + 2) move.target (pos move.amount))

-- the amount, and the cash that both places have after it
abbrev pub IsMoveReplied : WorldLists → MoveCash → ReplyText → Type 0
IsMoveReplied after move text =
    text ≡ json (moved_text (record { moved = move.amount; source = cash_of after move.branch move.source; target = cash_of after move.branch move.target }))

-- all that it is
abbrev pub move_form : MoveCash → Form
move_form move = record {
  Rows = MoveRows;
  rows = λ by w. move_rows w move;
  tests = λ rows by. move_tests rows move by;
  changes = λ rows by. move_changes rows move by;
  reply = λ rows by. json (option_map_or moved_text (moved_of rows move) []);
  is_report = false;
  moves = moves_nothing;
  IsJudged = λ w user. IsMoveJudged w user move;
  AreAsked = λ w rows. AreMoveAsked w move rows;
  IsReplied = λ by before after rows text. IsMoveReplied after move text;
}

abbrev pub move_meaning : MoveCash → Signature → WorldLists → Meaning
move_meaning move by w = said_by (move_form move) by w
