-- Two entries that name each other keep the books: the ledger one after the other, what they name and the limits both together.
use Rattle.std.proofs.Common.{◌≡◌, ℕ, ◌+◌, ◌*◌, ◌^◌, ◌≤◌, ℤ, ◌+ℤ◌, arith, Bool, true, false, ap, sym, ◌∙◌, subst, ◌==◌, Contains, ◌⊎◌, inl, inr}
use Rattle.std.specs.Prelude.{if◌then◌else◌, neg_ℤ}
use Rattle.std.proofs.lemmas.Bool.{cases_Bool, eqb-true}
use Rattle.std.proofs.lemmas.Int.{ints}
use Rattle.keyed_rows.specs.Ordered.{add_row}
use Rattle.money.specs.Range.{IsCents}
use Rattle.bank_books.specs.Effects.{written}
use Rattle.bank_books.specs.Keys.{account_key, branch_key, entry_key, teller_key}
use Rattle.bank_books.specs.Range.{IsEntryOrNone}
use Rattle.bank_books.specs.Records.{account_record_of, branch_record_of, entry_record_of, teller_record_of}
use Rattle.bank_books.specs.WorldLists.{WorldLists}
use Rattle.bank_books.specs.declared.row_write.RowWrite.TheVariants as write
use Rattle.bank_books.specs.declared.rows.Account.{Account}
use Rattle.bank_books.specs.declared.rows.Branch.{Branch}
use Rattle.bank_books.specs.declared.rows.Entry.{Entry}
use Rattle.bank_books.specs.declared.rows.Teller.{Teller}
use Rattle.book_laws.specs.Laws.{LegsKeepBooks, OppositeLegsKeepBooks}
use Rattle.book_laws.specs.Ledger.{IsOpenLedger, NamesEntries}
use Rattle.book_laws.specs.Limits.{AreWithinLimits, IsAccountWithin, IsBranchWithin, IsTellerWithin}
use Rattle.book_laws.specs.Moves.{AreLegs, HasRoomForLegs, HasRoomForOppositeLegs, account_entered, branch_entered, teller_entered}
use Rattle.book_laws.proofs.BooksSplit.{books_parts}
use Rattle.book_laws.proofs.EntryAdded.{entry_keeps_ledger}
use Rattle.book_laws.proofs.EntryBooks.{balance_within, names_still, there_still}
use Rattle.book_laws.proofs.EntryMoved.{entry_moves, entry_stands_last}
use Rattle.book_laws.proofs.LimitsKept.{limits_moved}
use Rattle.keyed_rows.proofs.Rows.{Contains-add_row, Contains-add_row_cases, Contains-add_row_new, each_added, find_of_key, found_row}

-- the World with the first, and with both
abbrev with_first : WorldLists → Entry → WorldLists
with_first w first = written (write.Entry first) w

abbrev with_both : WorldLists → Entry → Entry → WorldLists
with_both w first second = written (write.Entry second) (written (write.Entry first) w)

-- ---- the entries that are named

all_named : (w : WorldLists) (first second : Entry) → AreLegs w first second → ((row : Entry) → Contains w.entries row → NamesEntries w.entries row) → (row : Entry)
    → Contains (with_both w first second).entries row → NamesEntries (with_both w first second).entries row
all_named w first second legs named =
    let before = add_row entry_key first w.entries in
    let after = add_row entry_key second before in
    let first_key : entry_key first ≡ 2 ^ 32 * second.branch + second.partner =
    ap (λ b. 2 ^ 32 * b + first.number) (sym legs.branch) ∙ ap (λ n. 2 ^ 32 * second.branch + n) (sym legs.second_partner) in
    let second_key : entry_key second ≡ 2 ^ 32 * first.branch + first.partner =
    ap (λ b. 2 ^ 32 * b + second.number) legs.branch ∙ ap (λ n. 2 ^ 32 * first.branch + n) (sym legs.first_partner) in
    let still : (number branch : ℕ) → IsEntryOrNone w.entries branch number → IsEntryOrNone after branch number =
    λ number branch there. there_still (with_first w first) second branch number (there_still w first branch number there) in
    each_added entry_key second before (NamesEntries after)
    (record { partner = inr (first, (Contains-add_row entry_key second before first (Contains-add_row_new entry_key first w.entries), first_key)); undoes = still second.undoes second.branch legs.second_undoes })
    (each_added entry_key first w.entries (NamesEntries after)
    (record { partner = inr (second, (Contains-add_row_new entry_key second before, second_key)); undoes = still first.undoes first.branch legs.first_undoes })
    (λ row there. names_still (with_first w first) second row (names_still w first row (named row there))))

-- ---- the limits

-- what moves where the first entry names a row, and then where the second does
both_moves : {R : Type 0} (named named' : Bool) (before between after : R) (f g : R → R) (b c : Bool) → after ≡ (if c then g between else between) → between ≡ (if b then f before else before)
    → b ≡ named → c ≡ named' → after ≡ (if named' then g (if named then f before else before) else (if named then f before else before))
both_moves named named' before between after f g b c second first is is' =
    second ∙ ap (λ x. if x then g between else between) is' ∙ ap (λ y. if named' then g y else y) (first ∙ ap (λ x. if x then f before else before) is)

branch_moves : (w : WorldLists) (first second : Entry) → AreLegs w first second → (row : Branch) (named : Bool) → (first.branch == row.branch) ≡ named
    → branch_record_of (with_both w first second) row ≡ (if named then branch_entered second.delta (if named then branch_entered first.delta (branch_record_of w row) else branch_record_of w row)
    else (if named then branch_entered first.delta (branch_record_of w row) else branch_record_of w row))
branch_moves w first second legs row named is =
    both_moves named named (branch_record_of w row) (branch_record_of (with_first w first) row) (branch_record_of (with_both w first second) row) (branch_entered first.delta)
    (branch_entered second.delta) (first.branch == row.branch) (second.branch == row.branch) ((entry_moves (with_first w first) second).branches row) ((entry_moves w first).branches row) is
    (ap (λ k. k == row.branch) legs.branch ∙ is)

teller_moves : (w : WorldLists) (first second : Entry) → AreLegs w first second → (row : Teller) (named : Bool) → (first.teller == row.teller) ≡ named
    → teller_record_of (with_both w first second) row ≡ (if named then teller_entered second.delta (if named then teller_entered first.delta (teller_record_of w row) else teller_record_of w row)
    else (if named then teller_entered first.delta (teller_record_of w row) else teller_record_of w row))
teller_moves w first second legs row named is =
    both_moves named named (teller_record_of w row) (teller_record_of (with_first w first) row) (teller_record_of (with_both w first second) row) (teller_entered first.delta)
    (teller_entered second.delta) (first.teller == row.teller) (second.teller == row.teller) ((entry_moves (with_first w first) second).tellers row) ((entry_moves w first).tellers row) is
    (ap (λ k. k == row.teller) legs.teller ∙ is)

account_moves : (w : WorldLists) (first second : Entry) (row : Account) (named named' : Bool) → (first.account == row.account) ≡ named → (second.account == row.account) ≡ named'
    → account_record_of (with_both w first second) row
    ≡ (if named' then account_entered second.delta (if named then account_entered first.delta (account_record_of w row) else account_record_of w row)
    else (if named then account_entered first.delta (account_record_of w row) else account_record_of w row))
account_moves w first second row named named' is is' =
    both_moves named named' (account_record_of w row) (account_record_of (with_first w first) row) (account_record_of (with_both w first second) row) (account_entered first.delta)
    (account_entered second.delta) (first.account == row.account) (second.account == row.account) ((entry_moves (with_first w first) second).accounts row) ((entry_moves w first).accounts row) is is'

branches_within : (w : WorldLists) (first second : Entry) → AreLegs w first second → HasRoomForLegs w first second → IsOpenLedger w → AreWithinLimits w → (row : Branch) → Contains w.branches row
    → (Contains w.branches row × (branch_record_of (with_both w first second) row ≡ branch_record_of w row)) ⊎ IsBranchWithin (branch_record_of (with_both w first second) row)
branches_within w first second legs room ledger limits row there = elim (cases_Bool (first.branch == row.branch)) [
  | inl named ↦
      inr (subst IsBranchWithin (sym (branch_moves w first second legs row true named)) (record {
        history = room.branch row (find_of_key branch_key first.branch w.branches row ledger.branches.keys there (sym (eqb-true first.branch row.branch named)));
        cash = (limits.branches row there).cash;
        accounts = (limits.branches row there).accounts;
      }))
  | inr other ↦ inl (there, branch_moves w first second legs row false other)
]

tellers_within : (w : WorldLists) (first second : Entry) → AreLegs w first second → HasRoomForLegs w first second → IsOpenLedger w → AreWithinLimits w → (row : Teller) → Contains w.tellers row
    → (Contains w.tellers row × (teller_record_of (with_both w first second) row ≡ teller_record_of w row)) ⊎ IsTellerWithin (teller_record_of (with_both w first second) row)
tellers_within w first second legs room ledger limits row there = elim (cases_Bool (first.teller == row.teller)) [
  | inl named ↦
      inr (subst IsTellerWithin (sym (teller_moves w first second legs row true named)) (record {
        balance = room.teller row (find_of_key teller_key first.teller w.tellers row ledger.tellers.keys there (sym (eqb-true first.teller row.teller named)));
        cash = (limits.tellers row there).cash;
      }))
  | inr other ↦ inl (there, teller_moves w first second legs row false other)
]

-- an account is that of one of the two, or of neither
accounts_within : (w : WorldLists) (first second : Entry) → AreLegs w first second → HasRoomForLegs w first second → IsOpenLedger w → (row : Account) → Contains w.accounts row
    → (Contains w.accounts row × (account_record_of (with_both w first second) row ≡ account_record_of w row)) ⊎ IsAccountWithin (account_record_of (with_both w first second) row)
accounts_within w first second legs room ledger row there = go (cases_Bool (first.account == row.account)) (cases_Bool (second.account == row.account))
  where
    go : ((first.account == row.account) ≡ true) ⊎ ((first.account == row.account) ≡ false) → ((second.account == row.account) ≡ true) ⊎ ((second.account == row.account) ≡ false)
        → (Contains w.accounts row × (account_record_of (with_both w first second) row ≡ account_record_of w row)) ⊎ IsAccountWithin (account_record_of (with_both w first second) row)
    go (inl one) (inl two) = absurd (legs.accounts (eqb-true second.account row.account two ∙ sym (eqb-true first.account row.account one)))
    go (inl one) (inr two) =
        inr (subst IsAccountWithin (sym (account_moves w first second row true false one two))
        (room.source row (find_of_key account_key first.account w.accounts row ledger.accounts.keys there (sym (eqb-true first.account row.account one)))))
    go (inr one) (inl two) =
        inr (subst IsAccountWithin (sym (account_moves w first second row false true one two))
        (room.target row (find_of_key account_key second.account w.accounts row ledger.accounts.keys there (sym (eqb-true second.account row.account two)))))
    go (inr one) (inr two) = inl (there, account_moves w first second row false false one two)

-- the balances after both, and after those before them
entries_within : (w : WorldLists) (first second : Entry) → AreLegs w first second → HasRoomForLegs w first second → IsOpenLedger w → (row : Entry) → Contains (with_both w first second).entries row
    → (Contains w.entries row × (entry_record_of (with_both w first second) row ≡ entry_record_of w row)) ⊎ IsCents (entry_record_of (with_both w first second) row).balance_after
entries_within w first second legs room ledger row there =
    let between = entry_keeps_ledger w first legs.first_next ledger in
    let one = entry_stands_last w first legs.first_next ledger in
    let two = entry_stands_last (with_first w first) second legs.second_next between in
    elim (Contains-add_row_cases entry_key second (with_first w first).entries row there) [
      | inl is ↦
          inr (subst (λ r. IsCents (entry_record_of (with_both w first second) r).balance_after) is
          (subst IsCents (sym (two.new ∙ ap (λ z. z +ℤ second.delta) ((entry_moves w first).account_balances.kept second.account legs.accounts)))
          (balance_within w second.account second.delta ledger legs.second_next.sound.account room.target)))
      | inr among ↦ elim (Contains-add_row_cases entry_key first w.entries row among) [
        | inl is ↦
            inr (subst (λ e. IsCents e.balance_after) (sym (two.earlier row among))
            (subst (λ r. IsCents (entry_record_of (with_first w first) r).balance_after) is
            (subst IsCents (sym one.new) (balance_within w first.account first.delta ledger legs.first_next.sound.account room.source))))
        | inr old ↦ inl (old, two.earlier row among ∙ one.earlier row old)
      ]
    ]

pub legs_keep_books : LegsKeepBooks
legs_keep_books w first second legs room books =
    let parts = (books_parts w).0 books in
    let ledger = parts.0.rows in
    (books_parts (with_both w first second)).1 (
      record {
        rows = entry_keeps_ledger (with_first w first) second legs.second_next (entry_keeps_ledger w first legs.first_next ledger);
        named = all_named w first second legs parts.0.named;
        balanced = parts.0.balanced;
      },
      limits_moved w (with_both w first second) parts.1 (record {
        branches = branches_within w first second legs room ledger parts.1;
        tellers = tellers_within w first second legs room ledger parts.1;
        accounts = accounts_within w first second legs room ledger;
        entries = entries_within w first second legs room ledger;
      }),
    )

-- ---- legs that are opposite

-- what the one takes the other gives back
given_back : (a d d' : ℤ) → d' ≡ neg_ℤ d → a ≡ (a +ℤ d) +ℤ d'
given_back a d d' opposite = omega (arith, ints)

two_more : (n most : ℕ) → n + 2 ≤ most → (n + 1) + 1 ≤ most
two_more n most fits = omega arith

pub opposite_legs_have_room : (w : WorldLists) (first second : Entry) → HasRoomForOppositeLegs w first second → IsOpenLedger w → AreWithinLimits w → HasRoomForLegs w first second
opposite_legs_have_room w first second room ledger limits = record {
  branch = λ b is.
      let was = (limits.branches b (found_row branch_key first.branch w.branches b is).0).history in
      record {
        balance_within = subst IsCents (given_back _ first.delta second.delta room.opposite) was.balance_within;
        history_within = subst IsCents (given_back _ first.delta second.delta room.opposite) was.history_within;
        entries_within = two_more _ _ (room.entries b is);
      };
  teller = λ t is.
      subst IsCents (given_back _ first.delta second.delta room.opposite) (limits.tellers t (found_row teller_key first.teller w.tellers t is).0).balance;
  source = room.source;
  target = room.target;
}

pub opposite_legs_keep_books : OppositeLegsKeepBooks
opposite_legs_keep_books w first second legs room books =
    let parts = (books_parts w).0 books in
    legs_keep_books w first second legs (opposite_legs_have_room w first second room parts.0.rows parts.1) books
