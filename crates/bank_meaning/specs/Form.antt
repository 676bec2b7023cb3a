-- A form of operations with its members filled in: all that an operation is by the books.
use Rattle.std.specs.Prelude.{ℕ, Bool, List}
use Rattle.bank_terms.specs.declared.rule.Rule.{Rule}
use Rattle.bank_books.specs.Effects.{applied}
use Rattle.bank_books.specs.WorldLists.{WorldLists}
use Rattle.bank_books.specs.declared.row_write.RowWrite.{RowWrite}
use Rattle.bank_books.specs.declared.signature.Signature.{Signature}
use Rattle.rule_tests.specs.Denial.{is_denial}
use Rattle.bank_meaning.specs.Meaning.{Meaning, ReplyText}
use Rattle.bank_meaning.specs.Moves.{Moves}

pub record Form : Type 1 where
  -- what it looks at in a World, where the rows that it adds bear this signature; it goes by nothing else
  pub Rows : Type 0
  pub rows : Signature → WorldLists → Rows
  -- the rules of the books that it is judged by, in their order, each with whether it denies
  pub tests : Rows → Signature → List (Rule × Bool)
  -- where none denies: what it changes, and what is replied
  pub changes : Rows → Signature → List RowWrite
  pub reply : Rows → Signature → ReplyText
  -- it is answered by a report
  pub is_report : Bool
  -- what it adds to balances and histories
  pub moves : Moves
  -- what is so of the rows of a World where no rule denies it to a user, in the terms of a reader
  pub IsJudged : WorldLists → ℕ → Type 0
  -- which rows were asked to be added to a World, in their order and by all that they say, in the same terms
  pub AreAsked : WorldLists → List RowWrite → Type 0
  -- what its reply says: the values of the World after it, and the numbers of the rows that it added; of a report, those of the World before it
  pub IsReplied : Signature → (before after : WorldLists) → List RowWrite → ReplyText → Type 0

-- what it changes in a World
abbrev pub changed_by : Form → Signature → WorldLists → List RowWrite
changed_by f by w = f.changes (f.rows by w) by

-- what it is in a World
abbrev pub said_by : Form → Signature → WorldLists → Meaning
said_by f by w = record {
  denies = λ r. is_denial r (f.tests (f.rows by w) by);
  effect = applied (changed_by f by w) w;
  reply = f.reply (f.rows by w) by;
}
