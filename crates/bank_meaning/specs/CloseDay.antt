-- The closing of a day as an operation: its reply and its meaning. The rest of it is that of its plan.
use Rattle.bank_books.specs.declared.row_write.RowWrite.{RowWrite}
use Rattle.bank_books.specs.declared.row_write.RowWrite.TheVariants as write
use Rattle.bank_books.specs.Balances.{branch_balance, entry_count}
use Rattle.bank_books.specs.Cash.{cash_of}
use Rattle.bank_books.specs.declared.rows.Proof.{Proof}
use Rattle.bank_meaning.specs.AskedRows.{today}
use Rattle.std.specs.Prelude.{◌+◌, Some, option_map}
use Rattle.std.specs.Prelude.{ℕ, List, [], ◌∷◌, ◌++◌, codes, decimal}
use Rattle.std.specs.Option.{option_map_or}
use Rattle.std.specs.Fmt.{signed_decimal}
use Rattle.serde_json.specs.Data.{Data, object, member, no_members}
use Rattle.bank_books.specs.WorldLists.{WorldLists}
use Rattle.counter_ops.specs.declared.close_day.CloseDay.{CloseDay}
use Rattle.rule_tests.specs.Denial.{is_denial}
use Rattle.drawers.specs.CloseDay.{close_day_tests, close_day_effect, closed_of, closing_rows}
use Rattle.drawers.specs.declared.close_day.Closed.{Closed}
use Rattle.std.specs.Prelude.{false}
use Rattle.drawers.specs.CloseDay.{close_day_changes}
use Rattle.drawers.specs.declared.close_day.ClosingRows.{ClosingRows}
use Rattle.bank_meaning.specs.Form.{Form}
use Rattle.bank_meaning.specs.Moves.{moves_nothing}
use Rattle.bank_meaning.specs.Denial.{cents, natural}
use Rattle.bank_meaning.specs.Meaning.{Meaning, ReplyText, json}
use Rattle.bank_books.specs.Cash.{holder_of}
use Rattle.bank_books.specs.declared.rows.Teller.{Teller}
use Rattle.bank_meaning.specs.JudgedRows.{HasBranch}
use Rattle.std.specs.Prelude.{◌≡◌, Contains, None}

-- what the proof of the day holds
unfoldable pub closed_text : Closed → List ℕ
closed_text c =
    codes "{\"balance\":" ++ signed_decimal c.balance ++ codes ",\"cash\":" ++ signed_decimal c.cash ++ codes ",\"closed\":" ++ decimal c.closed ++ codes ",\"entries\":" ++ decimal c.entries ++ codes "}"

-- the JSON value of the reply
abbrev pub closed_data : Closed → Data
closed_data c =
    object (member (codes "balance") (cents c.balance) (member (codes "cash") (cents c.cash) (member (codes "closed") (natural c.closed) (member (codes "entries") (natural c.entries) no_members))))

-- the entries of the branch, its balance and the cash of its vault, as its day ends
pub record IsProofOf (w : WorldLists) (form : CloseDay) (p : Proof) : Type 0 where
  pub branch : p.branch ≡ form.branch
  pub entries : p.entries ≡ entry_count form.branch w.entries
  pub balance : p.balance ≡ branch_balance w form.branch
  pub cash : p.cash ≡ cash_of w form.branch 0

-- the proof of the day, and the branch on its next day
abbrev pub AreCloseDayAsked : WorldLists → CloseDay → List RowWrite → Type 0
AreCloseDayAsked w form rows =
    (p : Proof) × (day : ℕ) × (rows ≡ write.Proof p ∷ write.Day (record { branch = form.branch; day = day }) ∷ []) × IsProofOf w form p × (option_map (λ d. d + 1) (today w form.branch) ≡ Some day)

-- nobody holds a drawer of the branch
pub record IsCloseDayJudged (w : WorldLists) (form : CloseDay) : Type 0 where
  pub branch : HasBranch w form.branch
  pub drawers : (t : Teller) → Contains w.tellers t → t.branch ≡ form.branch → holder_of w.lines t.teller ≡ None

-- what the proof that was added holds
pub record IsCloseDayReplied (rows : List RowWrite) (text : ReplyText) : Type 0 where
  pub proof : Proof
  pub added : Contains rows (write.Proof proof)
  pub says : text ≡ json (closed_text (record { balance = proof.balance; cash = proof.cash; closed = proof.day; entries = proof.entries }))

-- all that it is
abbrev pub close_day_form : CloseDay → Form
close_day_form form = record {
  Rows = ClosingRows;
  rows = λ by w. closing_rows w form;
  tests = λ rows by. close_day_tests rows;
  changes = λ rows by. close_day_changes rows form;
  reply = λ rows by. json (option_map_or closed_text (closed_of rows) []);
  is_report = false;
  moves = moves_nothing;
  IsJudged = λ w user. IsCloseDayJudged w form;
  AreAsked = λ w rows. AreCloseDayAsked w form rows;
  IsReplied = λ by before after rows text. IsCloseDayReplied rows text;
}

abbrev pub close_day_meaning : CloseDay → WorldLists → Meaning
close_day_meaning form w = record {
  denies = λ r. is_denial r (close_day_tests (closing_rows w form));
  effect = close_day_effect w form;
  reply = json (option_map_or closed_text (closed_of (closing_rows w form)) []);
}
