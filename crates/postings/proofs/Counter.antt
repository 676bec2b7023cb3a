-- The teller and the branch that an operation names, and that what is written there names what an entry and a line may.
use Rattle.std.proofs.Common.{◌≡◌, ℕ, sym, subst, Some, inr}
use Rattle.bank_books.specs.Balances.{branch_row, teller_row}
use Rattle.bank_books.specs.Books.{Books}
use Rattle.bank_books.specs.Keys.{branch_key, teller_key}
use Rattle.bank_books.specs.Range.{IsAccount, IsBranch, IsDay, IsTellerOf}
use Rattle.bank_books.specs.WorldLists.{WorldLists}
use Rattle.bank_books.specs.declared.rows.Branch.{Branch}
use Rattle.bank_books.specs.declared.rows.CashLine.{CashLine}
use Rattle.bank_books.specs.declared.rows.Entry.{Entry}
use Rattle.bank_books.specs.declared.rows.Teller.{Teller}
use Rattle.bank_books.specs.declared.signature.Signature.{Signature}
use Rattle.book_laws.specs.Ledger.{IsEntrySound, IsLineSound}
use Rattle.book_laws.proofs.BooksSplit.{books_parts}
use Rattle.keyed_rows.proofs.Rows.{found_row}
use Rattle.row_members.specs.Ranges.{IsKeyOrZero}
use Rattle.rule_tests.specs.Signed.{IsSigned}

-- the teller and the branch are there, and the teller is of the branch
pub record IsCounter (w : WorldLists) (branch teller : ℕ) : Type 0 where
  pub row : Teller
  pub is : teller_row teller w.tellers ≡ Some row
  pub home : Branch
  pub home_is : branch_row branch w.branches ≡ Some home
  pub of : row.branch ≡ branch

pub branch_there : (w : WorldLists) (branch teller : ℕ) → IsCounter w branch teller → IsBranch w.branches branch
branch_there w branch teller at = (at.home, found_row branch_key branch w.branches at.home at.home_is)

pub teller_there : (w : WorldLists) (branch teller : ℕ) → IsCounter w branch teller → IsTellerOf w.tellers branch teller
teller_there w branch teller at =
    let found = found_row teller_key teller w.tellers at.row at.is in
    (at.row, (found.0, found.1, at.of))

pub present_day : (w : WorldLists) (branch teller : ℕ) (at : IsCounter w branch teller) → Books w → IsDay at.home.day
present_day w branch teller at books = (((books_parts w).0 books).0.rows.branches.each at.home (found_row branch_key branch w.branches at.home at.home_is).0).day

-- who signed an entry, and a line
abbrev entry_signature : Entry → Signature
entry_signature e = record { user = e.user; moment = e.moment }

abbrev line_signature : CashLine → Signature
line_signature l = record { user = l.user; moment = l.moment }

pub entry_is_sound : (w : WorldLists) (e : Entry) (at : IsCounter w e.branch e.teller) → Books w → IsSigned w (entry_signature e) → IsAccount w.accounts e.account → e.day ≡ at.home.day
    → IsKeyOrZero e.partner → IsKeyOrZero e.undoes → IsEntrySound w.branches w.tellers w.accounts w.policy.users e
entry_is_sound w e at books signed account day partner undoes = record {
  branch = branch_there w e.branch e.teller at;
  account = account;
  teller = teller_there w e.branch e.teller at;
  moment = signed.moment;
  day = subst IsDay (sym day) (present_day w e.branch e.teller at books);
  user = signed.user;
  partner = partner;
  undoes = undoes;
}

pub line_is_sound : (w : WorldLists) (l : CashLine) (at : IsCounter w l.branch l.place) → Books w → IsSigned w (line_signature l) → l.day ≡ at.home.day
    → IsLineSound w.branches w.tellers w.policy.users l
line_is_sound w l at books signed day = record {
  branch = branch_there w l.branch l.place at;
  place = inr (teller_there w l.branch l.place at);
  moment = signed.moment;
  day = subst IsDay (sym day) (present_day w l.branch l.place at books);
  user = signed.user;
}
