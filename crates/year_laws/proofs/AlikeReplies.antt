-- What is replied at both banks.
use Rattle.bank_books.specs.WorldLists.{WorldLists}
use Rattle.bank_books.specs.declared.signature.Signature.{Signature}
use Rattle.counter_ops.specs.declared.op.Op.{Op}
use Rattle.bank_meaning.specs.Operations.{meaning_of}
use Rattle.year_laws.specs.GoesOn.{GoesOn, Turn, op_at_old}
use Rattle.year_laws.specs.JudgedAlike.{NamesAnEntry}
use Rattle.year_laws.specs.RepliedAlike.{BooksReplyAlike, IsRepliedAlike}
use Rattle.year_laws.proofs.YearForms.{year_of}

module _ (t : Turn) (old new : WorldLists) (on : GoesOn t old new) where
  pub replied : (x : Op) → NamesAnEntry x → (by : Signature) → IsRepliedAlike t x (meaning_of (op_at_old t x) by old).reply (meaning_of x by new).reply
  replied x names by = (year_of x).replies t old new on names by

pub books_reply_alike : BooksReplyAlike
books_reply_alike t old new on x names by = replied t old new on x names by
