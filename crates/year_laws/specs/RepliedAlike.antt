-- What is replied at the bank that goes on, by what is replied at the next year's: the same, but for the numbers of entries, and for how many a
-- closing counts. Of reports nothing is said here.
use Rattle.std.specs.Prelude.{ℕ, ◌≡◌, ◌+◌, ⊤, [], Option, option_map}
use Rattle.std.specs.Option.{option_map_or}
use Rattle.bank_books.specs.WorldLists.{WorldLists}
use Rattle.bank_books.specs.declared.signature.Signature.{Signature}
use Rattle.counter_ops.specs.declared.op.Op.{Op}
use Rattle.counter_ops.specs.declared.op.Op.TheVariants as op
use Rattle.drawers.specs.declared.close_day.Closed.{Closed}
use Rattle.postings.specs.declared.correct.Corrected.{Corrected}
use Rattle.postings.specs.declared.correct.Corrected.TheVariants as corrected
use Rattle.postings.specs.declared.post.Posted.{Posted}
use Rattle.postings.specs.declared.transfer.Transferred.{Transferred}
use Rattle.bank_meaning.specs.CloseDay.{closed_text}
use Rattle.bank_meaning.specs.Correct.{corrected_text}
use Rattle.bank_meaning.specs.Meaning.{ReplyText, json}
use Rattle.bank_meaning.specs.Operations.{meaning_of}
use Rattle.bank_meaning.specs.Post.{posted_text}
use Rattle.bank_meaning.specs.Transfer.{transferred_text}
use Rattle.year_laws.specs.GoesOn.{GoesOn, Turn, op_at_old}
use Rattle.year_laws.specs.JudgedAlike.{NamesAnEntry}

abbrev pub posted_at_old : Turn → Posted → Posted
posted_at_old t p = record p { entry = p.entry + t.entries p.branch }

abbrev pub transferred_at_old : Turn → Transferred → Transferred
transferred_at_old t p = record p { first = p.first + t.entries p.branch; second = p.second + t.entries p.branch }

abbrev pub corrected_at_old : Turn → Corrected → Corrected
corrected_at_old t (corrected.OfPost p) = corrected.OfPost (posted_at_old t p)
corrected_at_old t (corrected.OfTransfer p) = corrected.OfTransfer (transferred_at_old t p)

-- the entries of the years before are counted, too
abbrev pub closed_at_old : Turn → ℕ → Closed → Closed
closed_at_old t branch c = record c { entries = c.entries + t.entries branch }

abbrev pub IsRepliedAlike : Turn → Op → ReplyText → ReplyText → Type 0
IsRepliedAlike t (op.Post form) old new =
    (left : Option Posted) × (old ≡ json (option_map_or posted_text (option_map (posted_at_old t) left) [])) × (new ≡ json (option_map_or posted_text left []))
IsRepliedAlike t (op.Transfer form) old new =
    (left : Option Transferred) × (old ≡ json (option_map_or transferred_text (option_map (transferred_at_old t) left) [])) × (new ≡ json (option_map_or transferred_text left []))
IsRepliedAlike t (op.Correct form) old new =
    (left : Option Corrected) × (old ≡ json (option_map_or corrected_text (option_map (corrected_at_old t) left) [])) × (new ≡ json (option_map_or corrected_text left []))
IsRepliedAlike t (op.CloseDay form) old new =
    (left : Option Closed) × (old ≡ json (option_map_or closed_text (option_map (closed_at_old t form.branch) left) [])) × (new ≡ json (option_map_or closed_text left []))
IsRepliedAlike t (op.Statement form) old new = ⊤
IsRepliedAlike t (op.Accounts form) old new = ⊤
IsRepliedAlike t (op.Proof form) old new = ⊤
IsRepliedAlike t other old new = old ≡ new

-- as long as the two banks are alike, an operation that no rule denies is replied so
abbrev pub BooksReplyAlike : Type 0
BooksReplyAlike =
    (t : Turn) (old new : WorldLists) → GoesOn t old new → (x : Op) → NamesAnEntry x → (by : Signature) → IsRepliedAlike t x (meaning_of (op_at_old t x) by old).reply (meaning_of x by new).reply
