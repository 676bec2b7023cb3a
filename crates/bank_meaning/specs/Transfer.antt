-- A transfer as an operation: its reply and its meaning. The rest of it is that of its plan.
use Rattle.bank_meaning.specs.AskedRows.{entry_says, EntrySays}
use Rattle.bank_books.specs.Balances.{account_balance, entry_count, turn_count}
use Rattle.bank_books.specs.declared.rows.Entry.{Entry}
use Rattle.bank_books.specs.declared.row_write.RowWrite.{RowWrite}
use Rattle.bank_books.specs.declared.row_write.RowWrite.TheVariants as write
use Rattle.bank_books.specs.declared.rows.EntryForm.TheVariants as entry_form
use Rattle.std.specs.Prelude.{◌≡◌, ◌+◌, Contains}
use Rattle.std.specs.Prelude.{ℕ, List, [], ◌∷◌, ◌++◌, codes, decimal}
use Rattle.std.specs.Option.{option_map_or}
use Rattle.std.specs.Fmt.{signed_decimal}
use Rattle.serde_json.specs.Data.{Data, object, member, no_members}
use Rattle.bank_books.specs.WorldLists.{WorldLists}
use Rattle.bank_books.specs.declared.signature.Signature.{Signature}
use Rattle.counter_ops.specs.declared.transfer.Transfer.{Transfer}
use Rattle.postings.specs.Transfer.{transfer_tests, transfer_rows, transferred_of}
use Rattle.postings.specs.declared.transfer.Transferred.{Transferred}
use Rattle.std.specs.Prelude.{ℤ, pos, ◌==◌, ◌+ℤ◌, false, if◌then◌else◌}
use Rattle.postings.specs.Transfer.{given, taken, transfer_changes}
use Rattle.postings.specs.declared.transfer.TransferRows.{TransferRows}
use Rattle.bank_meaning.specs.Form.{Form, said_by}
use Rattle.bank_meaning.specs.Moves.{Moves}
use Rattle.bank_meaning.specs.Denial.{cents, natural}
use Rattle.bank_meaning.specs.Meaning.{Meaning, ReplyText, json}
use Rattle.bank_meaning.specs.JudgedRows.{HasBranch, KeepsFloor, HoldsDrawer}
use Rattle.std.specs.Prelude.{neg_ℤ}

-- the places of its entries, and the balances of both accounts after it
unfoldable pub transferred_text : Transferred → List ℕ
transferred_text t =
    codes "{\"branch\":" ++ decimal t.branch ++ codes ",\"first\":" ++ decimal t.first ++ codes ",\"second\":" ++ decimal t.second ++ codes ",\"source\":" ++ signed_decimal t.source ++ codes ",\"target\":" ++ signed_decimal t.target ++ codes "}"

-- the JSON value of the reply
abbrev pub transferred_data : Transferred → Data
transferred_data t =
    object (member (codes "branch") (natural t.branch) (member (codes "first") (natural t.first) (member (codes "second") (natural t.second) (member (codes "source") (cents t.source) (member (codes "target") (cents t.target) no_members)))))

-- a transfer: what each of its two legs takes or gives. At their branch they come to nothing, and no teller has a part in it.
abbrev pub transfer_moves : Transfer → Moves
transfer_moves transfer = record {
  branches = λ branch. pos 0;
  tellers = λ teller. pos 0;
  accounts = λ account. (if transfer.source == account then taken transfer else pos 0) +ℤ (if transfer.target == account then given transfer else pos 0);
  entries = λ branch. if transfer.branch == branch then 2 else 0;
}

pub record IsTransferJudged (w : WorldLists) (user : ℕ) (transfer : Transfer) : Type 0 where
  pub branch : HasBranch w transfer.branch
  pub drawer : HoldsDrawer w user transfer.teller transfer.branch
  pub source : KeepsFloor w transfer.source (neg_ℤ (pos transfer.amount))
  pub target : KeepsFloor w transfer.target (pos transfer.amount)

-- one of the two legs, with these numbers in the history
abbrev pub leg_says : WorldLists → Transfer → ℕ → ℤ → ℕ → ℕ → EntrySays
leg_says w transfer account delta number partner = record {
  branch = transfer.branch;
  number = number;
  turn = turn_count account w.entries + 1;
  teller = transfer.teller;
  account = account;
  delta = delta;
  form = entry_form.TransferLeg;
  partner = partner;
  undoes = 0;
}

-- minus the amount at the source and plus the amount at the target, each the other's partner; and no cash
abbrev pub AreTransferAsked : WorldLists → Transfer → List RowWrite → Type 0
AreTransferAsked w transfer rows =
    let n = entry_count transfer.branch w.entries in
    (first : Entry)
    × (second : Entry)
    × (rows ≡ write.Entry first ∷ write.Entry second ∷ [])
    × (entry_says first ≡ leg_says w transfer transfer.source (neg_ℤ (pos transfer.amount)) (n + 1) (n + 2))
    × (entry_says second ≡ leg_says w transfer transfer.target (pos transfer.amount) (n + 2) (n + 1))

-- the numbers of the two entries that were added, and the balances that both accounts have after it
pub record IsTransferReplied (after : WorldLists) (rows : List RowWrite) (branch source target : ℕ) (text : ReplyText) : Type 0 where
  pub first : Entry
  pub first_added : Contains rows (write.Entry first)
  pub first_account : first.account ≡ source
  pub second : Entry
  pub second_added : Contains rows (write.Entry second)
  pub second_account : second.account ≡ target
  pub says : text
      ≡ json (transferred_text (record {
        branch = branch;
        first = first.number;
        second = second.number;
        source = account_balance after source;
        target = account_balance after target;
      }))

-- all that it is
abbrev pub transfer_form : Transfer → Form
transfer_form transfer = record {
  Rows = TransferRows;
  rows = λ by w. transfer_rows w transfer;
  tests = λ rows by. transfer_tests rows transfer by;
  changes = λ rows by. transfer_changes rows transfer by;
  reply = λ rows by. json (option_map_or transferred_text (transferred_of rows transfer) []);
  is_report = false;
  moves = transfer_moves transfer;
  IsJudged = λ w user. IsTransferJudged w user transfer;
  AreAsked = λ w rows. AreTransferAsked w transfer rows;
  IsReplied = λ by before after rows text. IsTransferReplied after rows transfer.branch transfer.source transfer.target text;
}

abbrev pub transfer_meaning : Transfer → Signature → WorldLists → Meaning
transfer_meaning transfer by w = said_by (transfer_form transfer) by w
