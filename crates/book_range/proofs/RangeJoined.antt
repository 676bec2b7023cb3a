-- The parts in which books are judged are all that is asked of them.
use Rattle.std.proofs.Common.{◌≡◌, List, Bool, Contains, IsTrue, map, subst}
use Rattle.bank_books.specs.Range.{AreOfRows, HasDistinctKeys, IsEntryInRange, IsInRange, IsLineInRange}
use Rattle.book_range.specs.Named.{IsEntryNamed, IsLineNamed}
use Rattle.book_range.specs.RangeParts.{AreAllInRange, AreReleasesAlone, IsEntryLimited, IsLineLimited, IsReleaseAlone}
use Rattle.bank_books.specs.Records.{KeptLists}
use Rattle.bank_books.specs.WorldLists.{WorldLists}
use Rattle.bank_books.specs.declared.records.EntryRecord.{EntryRecord}
use Rattle.bank_books.specs.declared.rows.CashLine.{CashLine}
use Rattle.bank_books.specs.declared.rows.Entry.{Entry}
use Rattle.bank_books.specs.declared.rows.Release.{Release}
use Rattle.book_sums.proofs.Counting.{made_of, source_of}
use Rattle.book_range.proofs.Judged.{stated}

pub range_from_parts : (w : WorldLists) (kept : KeptLists) → AreOfRows w kept → HasDistinctKeys w → AreAllInRange w kept → IsInRange w kept
range_from_parts w kept rows keys parts = record {
  rows = rows;
  keys = keys;
  branches = parts.places.branches;
  tellers = parts.places.tellers;
  accounts = parts.ledgers.accounts;
  entries = parts.ledgers.entries;
  lines = parts.cash_books.lines;
  proofs = parts.cash_books.proofs;
  releases = parts.users.releases;
  slips = parts.slips;
  users = parts.users.users;
  version = parts.version;
}

pub parts_of_range : (w : WorldLists) (kept : KeptLists) → IsInRange w kept → AreAllInRange w kept
parts_of_range w kept all = record {
  places = record { branches = all.branches; tellers = all.tellers };
  ledgers = record { accounts = all.accounts; entries = all.entries };
  cash_books = record { lines = all.lines; proofs = all.proofs };
  users = record { releases = all.releases; users = all.users };
  slips = all.slips;
  version = all.version;
}

-- the entries, which are kept beside their rows
pub entries_joined : (w : WorldLists) (kept : List EntryRecord) → map (λ e. e.row) kept ≡ w.entries → ((e : Entry) → Contains w.entries e → IsEntryNamed w e) →
    ((e : EntryRecord) → Contains kept e → IsEntryLimited w.entries w.policy.users e) → (e : EntryRecord) → Contains kept e → IsEntryInRange w.branches w.tellers w.accounts w.entries w.policy.users e
entries_joined w kept same named limited e there =
    let names = named e.row (made_of (λ k. k.row) kept w.entries e same there) in
    let limits = limited e there in
    record {
      branch = names.branch;
      number = limits.number;
      account = names.account;
      turn = limits.turn;
      teller = names.teller;
      moment = limits.moment;
      day = limits.day;
      user = limits.user;
      partner = limits.partner;
      partner_there = limits.partner_there;
      undoes = limits.undoes;
      undone_there = limits.undone_there;
      balance_after = limits.balance_after;
    }

pub entries_named : (w : WorldLists) (kept : List EntryRecord) → map (λ e. e.row) kept ≡ w.entries → ((e : EntryRecord) → Contains kept e → IsEntryInRange w.branches w.tellers w.accounts w.entries w.policy.users e) →
    (e : Entry) → Contains w.entries e → IsEntryNamed w e
entries_named w kept same all e there =
    let source = source_of (λ (k : EntryRecord). k.row) kept w.entries e same there in
    let in_range = all source.0 source.1.0 in
    subst (IsEntryNamed w) source.1.1 record { branch = in_range.branch; account = in_range.account; teller = in_range.teller }

pub entry_limits : (w : WorldLists) (e : EntryRecord) → IsEntryInRange w.branches w.tellers w.accounts w.entries w.policy.users e → IsEntryLimited w.entries w.policy.users e
entry_limits w e all = record {
  number = all.number;
  turn = all.turn;
  moment = all.moment;
  day = all.day;
  user = all.user;
  partner = all.partner;
  partner_there = all.partner_there;
  undoes = all.undoes;
  undone_there = all.undone_there;
  balance_after = all.balance_after;
}

-- the lines
pub line_joined : (w : WorldLists) (l : CashLine) → IsLineNamed w l → IsLineLimited w.policy.users l → IsLineInRange w.branches w.tellers w.policy.users l
line_joined w l names limits = record { branch = names.branch; number = limits.number; place = names.place; moment = limits.moment; day = limits.day; user = limits.user }

-- the releases, each by itself
pub releases_stated : (w : WorldLists) (seen : List Release) (r : Bool) → seen ≡ w.releases →
    (IsTrue r → (x : Release) → Contains seen x → IsReleaseAlone w.branches w.policy.users x) × (((x : Release) → Contains seen x → IsReleaseAlone w.branches w.policy.users x) → IsTrue r) →
    (IsTrue r → AreReleasesAlone w) × (AreReleasesAlone w → IsTrue r)
releases_stated w seen r same says =
    let each = stated (IsReleaseAlone w.branches w.policy.users) seen w.releases r same says in
    (λ is. record { each = each.0 is }, λ all. each.1 all.each)
