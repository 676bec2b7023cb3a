use Rattle.std.proofs.Common.{◌≡◌, ◌≤◌, map, take, vec_len}
use Rattle.std.specs.List.{filter}
use Rattle.bank_books.specs.Records.{account_record_of}
use Rattle.world_reads.specs.BookReads.{is_account_after}
use Rattle.world_reads.proofs.accounts.shown.Given as goal

abbrev pub invariant-loop-account : goal.invariant-loop-account
invariant-loop-account l = record {
  rows : l.rows.items ≡ map (account_record_of l.world) (filter (is_account_after l.held.items l.after) (take l.account-index l.account-items));
  few : vec_len l.rows ≤ l.count;
}
