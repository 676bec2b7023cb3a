-- The books with another policy: they name users alone, who are there still, and the version has room for one more.
use Rattle.std.proofs.Common.{◌≡◌, ℕ, ◌+◌, ◌<◌, ◌≤◌, false, true, refl, arith, List, Contains}
use Rattle.bank_terms.specs.Limits.{max_key, max_version}
use Rattle.keyed_rows.specs.Ordered.{add_row}
use Rattle.bank_policy.specs.Policy.{PolicyLists}
use Rattle.bank_policy.specs.PolicyKeys.{user_key}
use Rattle.bank_policy.specs.PolicyWrites.{in_suspension, policy_written, with_suspension}
use Rattle.bank_policy.specs.declared.policy_write.Suspension.{Suspension}
use Rattle.bank_policy.specs.declared.rows.User.{User}
use Rattle.bank_books.specs.Books.{Books}
use Rattle.bank_books.specs.Range.{IsUser}
use Rattle.bank_books.specs.WorldLists.{WorldLists}
use Rattle.book_laws.proofs.BooksSplit.{books_parts}
use Rattle.book_laws.proofs.ChangedRows.{HasRow-changed, each_changed}
use Rattle.keyed_rows.proofs.Rows.{HasRow-add_row, each_added}
use Rattle.book_laws.specs.Ledger.{IsOpenLedger}
use Rattle.policy_commands.specs.declared.policy_op.PolicyOp.{PolicyOp}
use Rattle.policy_commands.specs.declared.policy_op.PolicyOp.TheVariants as asked
use Rattle.certify.specs.Commands.{change_of}
use Rattle.certify.specs.Laws.{CommandKeepsBooks}

-- the World with another policy, which is the next
abbrev with_policy : WorldLists → PolicyLists → WorldLists
with_policy w policy = record w { policy = policy; version = w.version + 1 }

-- those who were users are, and the sessions of all are within the limits
record AreUsersKept (before after : List User) : Type 0 where
  there : (n : ℕ) → IsUser before n → IsUser after n
  sessions : (u : User) → Contains after u → u.session ≤ max_key

raised : (v : ℕ) → v < max_version → v + 1 ≤ max_version
raised v room = omega arith

keeps_rows : (w : WorldLists) (policy : PolicyLists) → AreUsersKept w.policy.users policy.users → w.version < max_version → IsOpenLedger w → IsOpenLedger (with_policy w policy)
keeps_rows w policy kept room ledger = record {
  branches = ledger.branches;
  tellers = ledger.tellers;
  accounts = ledger.accounts;
  entries = record {
    each = λ e there.
        let was = ledger.entries.each e there in
        record {
          branch = was.branch;
          account = was.account;
          teller = was.teller;
          moment = was.moment;
          day = was.day;
          user = kept.there e.user was.user;
          partner = was.partner;
          undoes = was.undoes;
        };
    numbers = ledger.entries.numbers;
    turns = ledger.entries.turns;
  };
  lines = record {
    each = λ l there.
        let was = ledger.lines.each l there in
        record { branch = was.branch; place = was.place; moment = was.moment; day = was.day; user = kept.there l.user was.user };
    numbers = ledger.lines.numbers;
  };
  proofs = ledger.proofs;
  releases = λ r there.
      let was = ledger.releases r there in
      record {
        user = kept.there r.user was.user;
        number = was.number;
        numbered = was.numbered;
        giver = kept.there r.giver was.giver;
        branch = was.branch;
        day = was.day;
        operation = was.operation;
      };
  slips = record {
    keys = ledger.slips.keys;
    each = λ o there.
        let was = ledger.slips.each o there in
        record { user = kept.there o.user was.user; number = was.number; form = was.form; operation = was.operation; room = was.room };
  };
  users = kept.sessions;
  version = raised w.version room;
  sums = ledger.sums;
}

keeps_books : (w : WorldLists) (policy : PolicyLists) → AreUsersKept w.policy.users policy.users → w.version < max_version → Books w → Books (with_policy w policy)
keeps_books w policy kept room books =
    let parts = (books_parts w).0 books in
    let limits = parts.1 in
    (books_parts (with_policy w policy)).1 (
      record { rows = keeps_rows w policy kept room parts.0.rows; named = parts.0.named; balanced = parts.0.balanced },
      record { branches = limits.branches; tellers = limits.tellers; accounts = limits.accounts; entries = limits.entries },
    )

-- ---- the users after each command

same_users : (users : List User) → ((u : User) → Contains users u → u.session ≤ max_key) → AreUsersKept users users
same_users users sessions = record { there = λ n there. there; sessions = sessions }

one_more : (users : List User) (row : User) → row.session ≡ 0 → ((u : User) → Contains users u → u.session ≤ max_key) → AreUsersKept users (add_row user_key row users)
one_more users row none sessions = record {
  there = HasRow-add_row user_key row users;
  sessions = each_added user_key row users (λ u. u.session ≤ max_key) (lowest row.session none) sessions;
}
  where
    lowest : (n : ℕ) → n ≡ 0 → n ≤ max_key
    lowest n is = omega arith

suspended_anew : (users : List User) (s : Suspension) → ((u : User) → Contains users u → u.session ≤ max_key) → AreUsersKept users (with_suspension s users)
suspended_anew users s sessions = record {
  there = HasRow-changed user_key s.user (in_suspension s) (λ u. refl) users;
  sessions = each_changed user_key s.user (in_suspension s) users (λ u. u.session ≤ max_key) (λ u there of. sessions u there) (λ u there other. sessions u there);
}

users_kept : (p : PolicyLists) (by : ℕ) (command : PolicyOp) → ((u : User) → Contains p.users u → u.session ≤ max_key) → AreUsersKept p.users (policy_written (change_of command by) p).users
users_kept p by (asked.DefineSet s) = same_users p.users
users_kept p by (asked.Certify k) = same_users p.users
users_kept p by (asked.Withdraw k) = same_users p.users
users_kept p by (asked.Grant t) = same_users p.users
users_kept p by (asked.Revoke k) = same_users p.users
users_kept p by (asked.Appoint c) = same_users p.users
users_kept p by (asked.Dismiss c) = same_users p.users
users_kept p by (asked.Enrol e) = one_more p.users (record { user = e.user; name = e.name; officer = e.officer; suspended = false; session = 0; on = false }) refl
users_kept p by (asked.Suspend k) = suspended_anew p.users (record { user = k.user; suspended = true })
users_kept p by (asked.Restore k) = suspended_anew p.users (record { user = k.user; suspended = false })

pub command_keeps_books : CommandKeepsBooks
command_keeps_books w by command books room =
    keeps_books w (policy_written (change_of command by) w.policy) (users_kept w.policy by command books.in_range.users) room books
