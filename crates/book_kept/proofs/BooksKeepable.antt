-- A World whose books hold, whose lists stand in order and no key of whose policy stands twice can be kept.
use Rattle.std.proofs.Common.{◌≢◌, ℕ, ◌<◌, ◌≤◌, ◌^◌, refl, arith, subst, Contains}
use Rattle.std.specs.Prelude.{IfSome}
use Rattle.std.specs.List.Sorted.{IsNonDecreasingBy}
use Rattle.bank_terms.specs.Limits.{max_key, max_releases}
use Rattle.bank_policy.specs.PolicyKeys.{ArePolicyRowsInOrder}
use Rattle.bank_books.specs.Books.{Books}
use Rattle.bank_books.specs.Conditions.{home_of}
use Rattle.bank_books.specs.Keys.{account_key, branch_key, entry_key, line_key, proof_key, release_key, teller_key, slip_key}
use Rattle.bank_books.specs.Range.{IsUserNumber}
use Rattle.bank_books.specs.Records.{entry_record_of, teller_record_of}
use Rattle.bank_books.specs.WorldLists.{WorldLists}
use Rattle.bank_books.specs.declared.rows.Entry.{Entry}
use Rattle.bank_books.specs.declared.rows.Teller.{Teller}
use Rattle.keyed_rows.proofs.Rows.{Contains-map}
use Rattle.book_kept.specs.Keepable.{HasDistinctRows, IsKeepable}

-- each list stands in order of its key
pub record AreBooksInOrder (w : WorldLists) : Type 0 where
  pub branches : IsNonDecreasingBy branch_key w.branches
  pub tellers : IsNonDecreasingBy teller_key w.tellers
  pub accounts : IsNonDecreasingBy account_key w.accounts
  pub entries : IsNonDecreasingBy entry_key w.entries
  pub lines : IsNonDecreasingBy line_key w.lines
  pub proofs : IsNonDecreasingBy proof_key w.proofs
  pub releases : IsNonDecreasingBy release_key w.releases
  pub slips : IsNonDecreasingBy slip_key w.slips

key_fits : (n : ℕ) → n ≤ max_key → n < 2 ^ 32
key_fits n high = omega arith

release_fits : (n : ℕ) → n ≤ max_releases → n < 2 ^ 32
release_fits n high = omega arith

not_nothing : (n : ℕ) → 1 ≤ n → n ≢ 0
not_nothing n low none = omega arith

pub books_are_keepable : (w : WorldLists) → AreBooksInOrder w → ArePolicyRowsInOrder w.policy.users w.policy.sets w.policy.relations w.policy.triples w.policy.certifiers → Books w → HasDistinctRows w.policy → IsKeepable w
books_are_keepable w order policy_order books distinct =
    let range = books.in_range in
    let of_teller = λ (t : Teller) (there : Contains w.tellers t). range.tellers (teller_record_of w t) (Contains-map (teller_record_of w) w.tellers t there) in
    let of_entry = λ (e : Entry) (there : Contains w.entries e). range.entries (entry_record_of w e) (Contains-map (entry_record_of w) w.entries e there) in
    record {
      branches = record { in_order = order.branches; distinct = range.keys.branches };
      tellers = record {
        ordered = record { in_order = order.tellers; distinct = range.keys.tellers };
        places = λ t there. not_nothing t.teller (of_teller t there).key.0;
        holders = λ t there is. not_nothing 0 (subst (λ o. IfSome o IsUserNumber) is (of_teller t there).holder).0 refl;
      };
      accounts = record { in_order = order.accounts; distinct = range.keys.accounts };
      entries = record {
        ordered = record { in_order = order.entries; distinct = range.keys.entries };
        named = λ e there. (of_entry e there).account;
        turns = λ e there. ((books.history_agrees (home_of w.accounts e.account)).numbered.turns e.account refl).high e there refl;
        numbers = λ e there. (books.history_agrees e.branch).numbered.numbers.high e there refl;
        small = λ e there. key_fits e.number (of_entry e there).number.1;
      };
      lines = record {
        ordered = record { in_order = order.lines; distinct = range.keys.lines };
        places = λ l there. (range.lines l there).place;
        numbers = λ l there. (books.cash_agrees l.branch).numbers.high l there refl;
        small = λ l there. key_fits l.number (range.lines l there).number.1;
      };
      proofs = record { in_order = order.proofs; distinct = range.keys.proofs };
      releases = record {
        ordered = record { in_order = order.releases; distinct = range.keys.releases };
        named = λ r there. (range.releases r there).user;
        numbers = λ r there. (range.releases r there).numbered.high r there refl;
        small = λ r there. release_fits r.number (range.releases r there).number.1;
      };
      slips = record {
        ordered = record { in_order = order.slips; distinct = range.slips.keys };
        named = λ s there. (range.slips.each s there).user;
        small = λ s there. key_fits s.number (range.slips.each s there).number.1;
      };
      policy = record {
        users = record { in_order = policy_order.users_in_order; distinct = distinct.users };
        sets = record { in_order = policy_order.sets_in_order; distinct = distinct.sets };
        places = distinct.few;
        relations = record { in_order = policy_order.relations_in_order; distinct = distinct.relations };
        triples = record { in_order = policy_order.triples_in_order; distinct = distinct.triples };
        certifiers = record { in_order = policy_order.certifiers_in_order; distinct = distinct.certifiers };
      };
    }
