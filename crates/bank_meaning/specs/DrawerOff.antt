-- A drawer that is put off, as an operation: its reply and its meaning. The rest of it is that of its plan.
use Rattle.bank_meaning.specs.AskedRows.{LineSays, line_says}
use Rattle.bank_books.specs.declared.row_write.RowWrite.{RowWrite}
use Rattle.bank_books.specs.declared.row_write.RowWrite.TheVariants as write
use Rattle.bank_books.specs.declared.rows.LineForm.TheVariants as line_form
use Rattle.bank_books.specs.Cash.{cash_of, line_count, place_cash}
use Rattle.bank_books.specs.declared.rows.CashLine.{CashLine}
use Rattle.bank_books.specs.declared.rows.LineForm.{LineForm}
use Rattle.std.specs.Prelude.{ℤ, neg_ℤ, ◌+ℤ◌, ◌≡◌, ◌+◌, Contains}
use Rattle.std.specs.Prelude.{ℕ, List, [], ◌∷◌, ◌++◌, codes, decimal}
use Rattle.std.specs.Option.{option_map_or}
use Rattle.std.specs.Fmt.{signed_decimal}
use Rattle.serde_json.specs.Data.{Data, object, member, no_members}
use Rattle.bank_books.specs.WorldLists.{WorldLists}
use Rattle.bank_books.specs.declared.signature.Signature.{Signature}
use Rattle.counter_ops.specs.declared.drawer_off.DrawerOff.{DrawerOff}
use Rattle.drawers.specs.DrawerOff.{drawer_off_tests, put_off_of}
use Rattle.drawers.specs.DrawerRows.{drawer_rows}
use Rattle.drawers.specs.declared.drawer_off.PutOff.{PutOff}
use Rattle.std.specs.Prelude.{false}
use Rattle.drawers.specs.DrawerOff.{drawer_off_changes}
use Rattle.drawers.specs.declared.drawer_rows.DrawerRows.{DrawerRows}
use Rattle.bank_meaning.specs.Form.{Form, said_by}
use Rattle.bank_meaning.specs.Moves.{moves_nothing}
use Rattle.bank_meaning.specs.Denial.{cents, natural}
use Rattle.bank_meaning.specs.Meaning.{Meaning, ReplyText, json}
use Rattle.bank_meaning.specs.JudgedRows.{HasBranch, HoldsDrawer}

-- what the count differed by, and the cash of the vault after it
unfoldable pub put_off_text : PutOff → List ℕ
put_off_text p =
    codes "{\"difference\":" ++ signed_decimal p.difference ++ codes ",\"teller\":" ++ decimal p.teller ++ codes ",\"vault\":" ++ signed_decimal p.vault ++ codes "}"

-- the JSON value of the reply
abbrev pub put_off_data : PutOff → Data
put_off_data p =
    object (member (codes "difference") (cents p.difference) (member (codes "teller") (natural p.teller) (member (codes "vault") (cents p.vault) no_members)))

pub record IsDrawerOffJudged (w : WorldLists) (user : ℕ) (form : DrawerOff) : Type 0 where
  pub branch : HasBranch w form.branch
  pub drawer : HoldsDrawer w user form.teller form.branch

-- with this number, at a place of the branch
abbrev pub off_says : DrawerOff → ℕ → ℕ → ℤ → LineForm → LineSays
off_says form number place amount kind = record { branch = form.branch; number = number; place = place; amount = amount; form = kind }

-- what the count differs by from the cash of the drawer, and what was counted, out of the drawer and into the vault
abbrev pub AreDrawerOffAsked : WorldLists → DrawerOff → List RowWrite → Type 0
AreDrawerOffAsked w form rows =
    let n = line_count form.branch w.lines in
    (difference : CashLine)
    × (drawer : CashLine)
    × (vault : CashLine)
    × (rows ≡ write.Line difference ∷ write.Line drawer ∷ write.Line vault ∷ [])
    × (line_says difference ≡ off_says form (n + 1) form.teller (form.counted +ℤ neg_ℤ (place_cash form.branch form.teller w.lines)) line_form.Difference)
    × (line_says drawer ≡ off_says form (n + 2) form.teller (neg_ℤ form.counted) line_form.Off)
    × (line_says vault ≡ off_says form (n + 3) 0 form.counted line_form.Off)

-- the amount of the line of the difference, and the cash that the vault has after it
pub record IsDrawerOffReplied (after : WorldLists) (rows : List RowWrite) (form : DrawerOff) (text : ReplyText) : Type 0 where
  pub line : CashLine
  pub added : Contains rows (write.Line line)
  pub is_difference : line.form ≡ line_form.Difference
  pub says : text ≡ json (put_off_text (record { difference = line.amount; teller = form.teller; vault = cash_of after form.branch 0 }))

-- all that it is
abbrev pub drawer_off_form : DrawerOff → Form
drawer_off_form form = record {
  Rows = DrawerRows;
  rows = λ by w. drawer_rows w form.teller form.branch;
  tests = λ rows by. drawer_off_tests rows form by;
  changes = λ rows by. drawer_off_changes rows form by;
  reply = λ rows by. json (option_map_or put_off_text (put_off_of rows form) []);
  is_report = false;
  moves = moves_nothing;
  IsJudged = λ w user. IsDrawerOffJudged w user form;
  AreAsked = λ w rows. AreDrawerOffAsked w form rows;
  IsReplied = λ by before after rows text. IsDrawerOffReplied after rows form text;
}

abbrev pub drawer_off_meaning : DrawerOff → Signature → WorldLists → Meaning
drawer_off_meaning form by w = said_by (drawer_off_form form) by w
