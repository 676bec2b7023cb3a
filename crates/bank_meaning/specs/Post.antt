-- A post as an operation: its reply and its meaning. The rows that it is judged on, the rules against it, its effect and what it leaves are those of its plan.
use Rattle.bank_meaning.specs.AskedRows.{EntrySays, LineSays, entry_says, line_says}
use Rattle.bank_books.specs.Balances.{account_balance, entry_count, turn_count}
use Rattle.bank_books.specs.Cash.{line_count}
use Rattle.bank_books.specs.declared.rows.CashLine.{CashLine}
use Rattle.bank_books.specs.declared.rows.Entry.{Entry}
use Rattle.bank_books.specs.declared.row_write.RowWrite.{RowWrite}
use Rattle.bank_books.specs.declared.row_write.RowWrite.TheVariants as write
use Rattle.bank_books.specs.declared.rows.EntryForm.TheVariants as entry_form
use Rattle.bank_books.specs.declared.rows.LineForm.TheVariants as line_form
use Rattle.std.specs.Prelude.{◌≡◌, ◌+◌, Contains}
use Rattle.std.specs.Prelude.{ℕ, List, [], ◌∷◌, ◌++◌, codes, decimal}
use Rattle.std.specs.Option.{option_map_or}
use Rattle.std.specs.Fmt.{signed_decimal}
use Rattle.serde_json.specs.Data.{Data, object, member, no_members}
use Rattle.bank_books.specs.WorldLists.{WorldLists}
use Rattle.bank_books.specs.declared.signature.Signature.{Signature}
use Rattle.counter_ops.specs.declared.post.Post.{Post}
use Rattle.postings.specs.Post.{post_tests, post_rows, posted_of}
use Rattle.postings.specs.declared.post.Posted.{Posted}
use Rattle.std.specs.Prelude.{pos, ◌==◌, false, if◌then◌else◌}
use Rattle.postings.specs.Post.{post_changes}
use Rattle.postings.specs.declared.post.PostRows.{PostRows}
use Rattle.bank_meaning.specs.Form.{Form, said_by}
use Rattle.bank_meaning.specs.Moves.{Moves}
use Rattle.bank_meaning.specs.Denial.{cents, natural}
use Rattle.bank_meaning.specs.Meaning.{Meaning, ReplyText, json}
use Rattle.bank_meaning.specs.JudgedRows.{HasBranch, KeepsFloor, HoldsDrawer, DrawerCovers}

-- the balance of the account after it, and the place of its entry
unfoldable pub posted_text : Posted → List ℕ
posted_text p = codes "{\"balance\":" ++ signed_decimal p.balance ++ codes ",\"branch\":" ++ decimal p.branch ++ codes ",\"entry\":" ++ decimal p.entry ++ codes "}"

-- the JSON value of the reply
abbrev pub posted_data : Posted → Data
posted_data p = object (member (codes "balance") (cents p.balance) (member (codes "branch") (natural p.branch) (member (codes "entry") (natural p.entry) no_members)))

-- a post: its delta
abbrev pub post_moves : Post → Moves
post_moves post = record {
  branches = λ branch. if post.branch == branch then post.delta else pos 0;
  tellers = λ teller. if post.teller == teller then post.delta else pos 0;
  accounts = λ account. if post.account == account then post.delta else pos 0;
  entries = λ branch. if post.branch == branch then 1 else 0;
}

pub record IsPostJudged (w : WorldLists) (user : ℕ) (post : Post) : Type 0 where
  pub branch : HasBranch w post.branch
  pub drawer : HoldsDrawer w user post.teller post.branch
  pub floor : KeepsFloor w post.account post.delta
  pub cash : DrawerCovers w post.teller post.branch post.delta

-- what its entry says, and the line of its cash
abbrev pub post_says : WorldLists → Post → EntrySays
post_says w post = record {
  branch = post.branch;
  number = entry_count post.branch w.entries + 1;
  turn = turn_count post.account w.entries + 1;
  teller = post.teller;
  account = post.account;
  delta = post.delta;
  form = entry_form.Post;
  partner = 0;
  undoes = 0;
}

abbrev pub cash_says : WorldLists → Post → LineSays
cash_says w post = record { branch = post.branch; number = line_count post.branch w.lines + 1; place = post.teller; amount = post.delta; form = line_form.CashEntry }

-- both of them
abbrev pub ArePostAsked : WorldLists → Post → List RowWrite → Type 0
ArePostAsked w post rows = (e : Entry) × (l : CashLine) × (rows ≡ write.Entry e ∷ write.Line l ∷ []) × (entry_says e ≡ post_says w post) × (line_says l ≡ cash_says w post)

-- the balance that the account has after it, and the number of the entry that was added
pub record IsPostReplied (after : WorldLists) (rows : List RowWrite) (branch account : ℕ) (text : ReplyText) : Type 0 where
  pub entry : Entry
  pub added : Contains rows (write.Entry entry)
  pub says : text ≡ json (posted_text (record { balance = account_balance after account; branch = branch; entry = entry.number }))

-- all that it is
abbrev pub post_form : Post → Form
post_form post = record {
  Rows = PostRows;
  rows = λ by w. post_rows w post;
  tests = λ rows by. post_tests rows post by;
  changes = λ rows by. post_changes rows post by;
  reply = λ rows by. json (option_map_or posted_text (posted_of rows post) []);
  is_report = false;
  moves = post_moves post;
  IsJudged = λ w user. IsPostJudged w user post;
  AreAsked = λ w rows. ArePostAsked w post rows;
  IsReplied = λ by before after rows text. IsPostReplied after rows post.branch post.account text;
}

abbrev pub post_meaning : Post → Signature → WorldLists → Meaning
post_meaning post by w = said_by (post_form post) by w
