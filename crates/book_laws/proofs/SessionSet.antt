-- A session that is begun or ended: it touches users alone, and they are there still.
use Rattle.std.proofs.Common.{ℕ, ◌≤◌, refl}
use Rattle.bank_terms.specs.Limits.{max_key}
use Rattle.bank_policy.specs.PolicyKeys.{user_key}
use Rattle.bank_policy.specs.PolicyWrites.{in_session, with_session}
use Rattle.bank_policy.specs.declared.policy_write.Session.{Session}
use Rattle.bank_books.specs.Effects.{written}
use Rattle.bank_books.specs.Range.{IsUser}
use Rattle.bank_books.specs.WorldLists.{WorldLists}
use Rattle.bank_books.specs.declared.row_write.RowWrite.TheVariants as write
use Rattle.book_laws.specs.Laws.{SessionKeepsBooks, SessionKeepsLedger, SessionMovesNothing}
use Rattle.book_laws.specs.Ledger.{IsOpenLedger}
use Rattle.book_laws.proofs.BooksSplit.{books_parts}
use Rattle.book_laws.proofs.ChangedRows.{HasRow-changed, each_changed}

user_still : (w : WorldLists) (s : Session) (user : ℕ) → IsUser w.policy.users user → IsUser (with_session s w.policy.users) user
user_still w s user there = HasRow-changed user_key s.user (in_session s) (λ u. refl) w.policy.users user there

keeps_rows : (w : WorldLists) (s : Session) → s.session ≤ max_key → IsOpenLedger w → IsOpenLedger (written (write.Session s) w)
keeps_rows w s high ledger = record {
  branches = ledger.branches;
  tellers = ledger.tellers;
  accounts = ledger.accounts;
  entries = record {
    each = λ e there.
        let was = ledger.entries.each e there in
        record {
          branch = was.branch;
          account = was.account;
          teller = was.teller;
          moment = was.moment;
          day = was.day;
          user = user_still w s e.user was.user;
          partner = was.partner;
          undoes = was.undoes;
        };
    numbers = ledger.entries.numbers;
    turns = ledger.entries.turns;
  };
  lines = record {
    each = λ l there.
        let was = ledger.lines.each l there in
        record { branch = was.branch; place = was.place; moment = was.moment; day = was.day; user = user_still w s l.user was.user };
    numbers = ledger.lines.numbers;
  };
  proofs = ledger.proofs;
  releases = λ r there.
      let was = ledger.releases r there in
      record {
        user = user_still w s r.user was.user;
        number = was.number;
        numbered = was.numbered;
        giver = user_still w s r.giver was.giver;
        branch = was.branch;
        day = was.day;
        operation = was.operation;
      };
  slips = record {
    keys = ledger.slips.keys;
    each = λ o there.
        let was = ledger.slips.each o there in
        record { user = user_still w s o.user was.user; number = was.number; form = was.form; operation = was.operation; room = was.room };
  };
  users = each_changed user_key s.user (in_session s) w.policy.users (λ u. u.session ≤ max_key) (λ u there named. high) (λ u there other. ledger.users u there);
  version = ledger.version;
  sums = ledger.sums;
}

pub session_keeps_ledger : SessionKeepsLedger
session_keeps_ledger w s high ledger = record { rows = keeps_rows w s high ledger.rows; named = ledger.named; balanced = ledger.balanced }

pub session_moves_nothing : SessionMovesNothing
session_moves_nothing w s = record { branch_balances = λ key. refl; teller_balances = λ key. refl; account_balances = λ key. refl; cash = λ branch place. refl }

pub session_keeps_books : SessionKeepsBooks
session_keeps_books w s high books =
    let parts = (books_parts w).0 books in
    let limits = parts.1 in
    (books_parts (written (write.Session s) w)).1 (
      session_keeps_ledger w s high parts.0,
      record { branches = limits.branches; tellers = limits.tellers; accounts = limits.accounts; entries = limits.entries },
    )
