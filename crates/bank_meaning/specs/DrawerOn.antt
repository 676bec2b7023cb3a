-- A drawer that is put on, as an operation: its reply and its meaning. The rest of it is that of its plan.
use Rattle.bank_meaning.specs.AskedRows.{LineSays, line_says}
use Rattle.bank_books.specs.declared.row_write.RowWrite.{RowWrite}
use Rattle.bank_books.specs.declared.row_write.RowWrite.TheVariants as write
use Rattle.bank_books.specs.declared.rows.LineForm.TheVariants as line_form
use Rattle.bank_books.specs.declared.rows.CashLine.{CashLine}
use Rattle.bank_books.specs.Cash.{cash_of, line_count}
use Rattle.std.specs.Prelude.{ℤ, ◌≡◌, ◌+◌}
use Rattle.std.specs.Prelude.{ℕ, List, [], ◌∷◌, ◌++◌, codes, decimal}
use Rattle.std.specs.Option.{option_map_or}
use Rattle.std.specs.Fmt.{signed_decimal}
use Rattle.serde_json.specs.Data.{Data, object, member, no_members}
use Rattle.bank_books.specs.WorldLists.{WorldLists}
use Rattle.bank_books.specs.declared.signature.Signature.{Signature}
use Rattle.counter_ops.specs.declared.drawer_on.DrawerOn.{DrawerOn}
use Rattle.drawers.specs.DrawerOn.{drawer_on_tests, put_on_of}
use Rattle.drawers.specs.DrawerRows.{drawer_rows}
use Rattle.drawers.specs.declared.drawer_on.PutOn.{PutOn}
use Rattle.std.specs.Prelude.{false}
use Rattle.drawers.specs.DrawerOn.{drawer_on_changes}
use Rattle.drawers.specs.declared.drawer_rows.DrawerRows.{DrawerRows}
use Rattle.bank_meaning.specs.Form.{Form, said_by}
use Rattle.bank_meaning.specs.Moves.{moves_nothing}
use Rattle.bank_meaning.specs.Denial.{cents, natural}
use Rattle.bank_meaning.specs.Meaning.{Meaning, ReplyText, json}
use Rattle.bank_meaning.specs.JudgedRows.{HasBranch, HasDrawer, PlaceCovers}
use Rattle.std.specs.Prelude.{pos, neg_ℤ, None}

-- the cash of the drawer and of the vault after it
unfoldable pub put_on_text : PutOn → List ℕ
put_on_text p =
    codes "{\"cash\":" ++ signed_decimal p.cash ++ codes ",\"teller\":" ++ decimal p.teller ++ codes ",\"vault\":" ++ signed_decimal p.vault ++ codes "}"

-- the JSON value of the reply
abbrev pub put_on_data : PutOn → Data
put_on_data p =
    object (member (codes "cash") (cents p.cash) (member (codes "teller") (natural p.teller) (member (codes "vault") (cents p.vault) no_members)))

-- a drawer that nobody holds, and cash that the vault has
pub record IsDrawerOnJudged (w : WorldLists) (form : DrawerOn) : Type 0 where
  pub branch : HasBranch w form.branch
  pub drawer : HasDrawer w form.teller form.branch None
  pub cash : PlaceCovers w 0 form.branch (neg_ℤ (pos form.cash))

-- with this number, at a place of the branch
abbrev pub on_says : DrawerOn → ℕ → ℕ → ℤ → LineSays
on_says form number place amount = record { branch = form.branch; number = number; place = place; amount = amount; form = line_form.On }

-- the cash out of the vault and into the drawer
abbrev pub AreDrawerOnAsked : WorldLists → DrawerOn → List RowWrite → Type 0
AreDrawerOnAsked w form rows =
    let n = line_count form.branch w.lines in
    (vault : CashLine)
    × (drawer : CashLine)
    × (rows ≡ write.Line vault ∷ write.Line drawer ∷ [])
    × (line_says vault ≡ on_says form (n + 1) 0 (neg_ℤ (pos form.cash)))
    × (line_says drawer ≡ on_says form (n + 2) form.teller (pos form.cash))

-- the cash that drawer and vault have after it
abbrev pub IsDrawerOnReplied : WorldLists → DrawerOn → ReplyText → Type 0
IsDrawerOnReplied after form text =
    text ≡ json (put_on_text (record { cash = cash_of after form.branch form.teller; teller = form.teller; vault = cash_of after form.branch 0 }))

-- all that it is
abbrev pub drawer_on_form : DrawerOn → Form
drawer_on_form form = record {
  Rows = DrawerRows;
  rows = λ by w. drawer_rows w form.teller form.branch;
  tests = λ rows by. drawer_on_tests rows form;
  changes = λ rows by. drawer_on_changes rows form by;
  reply = λ rows by. json (option_map_or put_on_text (put_on_of rows form) []);
  is_report = false;
  moves = moves_nothing;
  IsJudged = λ w user. IsDrawerOnJudged w form;
  AreAsked = λ w rows. AreDrawerOnAsked w form rows;
  IsReplied = λ by before after rows text. IsDrawerOnReplied after form text;
}

abbrev pub drawer_on_meaning : DrawerOn → Signature → WorldLists → Meaning
drawer_on_meaning form by w = said_by (drawer_on_form form) by w
