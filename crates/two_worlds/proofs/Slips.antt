-- What an operation makes of the slips of a user: those before, or one more.
use Rattle.std.proofs.Common.{◌≡◌, ◌≢◌, ℕ, ◌+◌, List, [], ◌∷◌, ◌++◌, Bool, true, false, cond, refl, ap, arith, sym, ◌∙◌, ◌==◌, ◌&&◌, not, Option, Some, None, Err}
use Rattle.std.specs.Prelude.{if◌then◌else◌, is_none, nat_le}
use Rattle.std.specs.List.{find}
use Rattle.std.specs.List.Sorted.{IsNonDecreasingBy}
use Rattle.std.proofs.lemmas.Bool.{and_parts, eqb-false, eqb-true, false≢true, ne_eqb}
use Rattle.keyed_rows.specs.Ordered.{add_row}
use Rattle.bank_terms.specs.Limits.{max_slips}
use Rattle.bank_terms.specs.declared.rule.Rule.{Rule}
use Rattle.bank_books.specs.Effects.{all_written, written}
use Rattle.bank_books.specs.Keys.{slip_key, slip_number}
use Rattle.bank_books.specs.Records.{slip_count}
use Rattle.bank_books.specs.SlipRow.{SlipRow}
use Rattle.bank_books.specs.WorldLists.{WorldLists}
use Rattle.bank_books.specs.declared.row_write.RowWrite.{RowWrite}
use Rattle.bank_books.specs.declared.row_write.RowWrite.TheVariants as write
use Rattle.book_laws.proofs.LastRow.{or_else}
use Rattle.keyed_rows.proofs.Rows.{count-add_row}
use Rattle.world_reads.specs.BookReads.{is_slip, slip}
use Rattle.bank_meaning.specs.Executions.{execution_meaning}
use Rattle.bank_meaning.specs.Meaning.{ReplyText}
use Rattle.bank_meaning.specs.PolicyRules.{asker, grounds, is_identified, used_by}
use Rattle.bank_meaning.specs.Requests.{executes, first, repeated, reply_text}
use Rattle.bank_meaning.specs.Run.{if_allowed, step, stated, repeated_reply, unless_repeated}
use Rattle.bank_meaning.specs.Slips.{has_no_room, is_of_another, kept_reply, slip_grounds, slip_named, slip_of, taken_by}
use Rattle.bank_meaning.specs.declared.execution.Execution.{Execution}
use Rattle.bank_meaning.specs.declared.leave.Authorization.{Authorization}
use Rattle.bank_meaning.specs.declared.leave.Authorization.TheVariants as leave
use Rattle.bank_meaning.proofs.KeptReplies.{plain_slips}
use Rattle.two_worlds.specs.Agree.{AgreeOnPolicy, AgreeOnSlip, AgreeOnSlipCount}
use Rattle.two_worlds.proofs.Grown.{find_added, or_none}
use Rattle.two_worlds.proofs.Policy.{standing_same}
use Rattle.two_worlds.proofs.Releases.{uses}

-- ---- what is made where an operation is no repeat and no rule denies it

abbrev pub made : {A : Type 0} → WorldLists → Execution → A → A → A
made w x after before = unless_repeated (repeated w (executes x)) (if_allowed (first w (executes x)) after before) before

-- the slip that it names, as a change
abbrev pub takes : Execution → List ℕ → List RowWrite
takes x bytes = if slip_named x == 0 then [] else write.Slip (slip_of x bytes) ∷ []

pub used_and_taken : (l : Authorization) (user : ℕ) (x : Execution) (bytes : List ℕ) (w : WorldLists) → taken_by x bytes (used_by l user w) ≡ all_written (uses l user ++ takes x bytes) w
used_and_taken l user x bytes w = go l (slip_named x == 0)
  where
    go : (l : Authorization) (b : Bool) → (if b then used_by l user w else written (write.Slip (slip_of x bytes)) (used_by l user w))
        ≡ all_written (uses l user ++ (if b then [] else write.Slip (slip_of x bytes) ∷ [])) w
    go leave.Triple true = refl
    go leave.Triple false = refl
    go (leave.Release number) true = refl
    go (leave.Release number) false = refl

-- ---- what is asked of the slip

abbrev found_at : Bool → Option SlipRow → Option SlipRow
found_at none row = if none then None else row

found_same : (w v : WorldLists) (x : Execution) → AgreeOnSlip w v x → (slip_grounds w x).found ≡ (slip_grounds v x).found
found_same w v x agree = go (slip_named x == 0) refl
  where
    go : (b : Bool) → (slip_named x == 0) ≡ b → found_at b (slip w (asker x.who) (slip_named x)) ≡ found_at b (slip v (asker x.who) (slip_named x))
    go true is = refl
    go false is = agree (eqb-false (slip_named x) 0 is)

pub another_same : (w v : WorldLists) (x : Execution) → AgreeOnSlip w v x → is_of_another (slip_grounds w x) ≡ is_of_another (slip_grounds v x)
another_same w v x agree = ap (λ f. is_of_another (record (slip_grounds w x) { found = f })) (found_same w v x agree)

pub room_same : (w v : WorldLists) (x : Execution) → AgreeOnSlip w v x → AgreeOnSlipCount w v x → has_no_room (slip_grounds w x) ≡ has_no_room (slip_grounds v x)
room_same w v x agree counts =
    ap (λ f. has_no_room (record (slip_grounds w x) { found = f })) (found_same w v x agree) ∙ go (slip_named x == 0) refl
  where
    go : (b : Bool) → (slip_named x == 0) ≡ b
        → (not b && (is_none (slip_grounds v x).found && nat_le max_slips (slip_count (asker x.who) w.slips)))
        ≡ (not b && (is_none (slip_grounds v x).found && nat_le max_slips (slip_count (asker x.who) v.slips)))
    go true is = refl
    go false is = ap (λ n. is_none (slip_grounds v x).found && nat_le max_slips n) (counts (eqb-false (slip_named x) 0 is))

pub repeated_same : (w v : WorldLists) (x : Execution) → AgreeOnPolicy w v x → AgreeOnSlip w v x → repeated w (executes x) ≡ repeated v (executes x)
repeated_same w v x policy agree =
    ap (λ o. if is_identified o x.who.session then kept_reply (slip_grounds w x) else None) (standing_same w v x.who.user policy.user)
    ∙ ap (λ f. if is_identified (grounds v x).standing x.who.session then kept_reply (record (slip_grounds w x) { found = f }) else None) (found_same w v x agree)

-- who is not known repeats nothing
pub unknown_is_none : (known : Bool) (kept : Option (List ℕ)) → not known ≡ true → (if known then kept else None) ≡ None
unknown_is_none true kept is = absurd (false≢true is)
unknown_is_none false kept is = refl

-- what is denied is no repeat
pub denied_is_none : (kept : Option (List ℕ)) (f : Option Rule) (text : ReplyText) (r : Rule) → repeated_reply kept (stated f text) ≡ Err r → (kept ≡ None) × (f ≡ Some r)
denied_is_none (Some bytes) f text r is = absurd cc
denied_is_none None None text r is = absurd cc
denied_is_none None (Some s) text r is = let same : s ≡ r = cc in (refl, ap Some same)

-- ---- the slip that is taken

-- the row of it, where one is
abbrev pub taken_of : WorldLists → Execution → Option SlipRow
taken_of w x = made w x (if slip_named x == 0 then None else Some (slip_of x (reply_text w (executes x)).bytes)) None

abbrev pub with_taken : Option SlipRow → List SlipRow → List SlipRow
with_taken None rows = rows
with_taken (Some row) rows = add_row slip_key row rows

pub slips_are : (w : WorldLists) (x : Execution) → (step w (executes x)).slips ≡ with_taken (taken_of w x) w.slips
slips_are w x = go (repeated w (executes x)) (first w (executes x)) (slip_named x == 0)
  where
    row : SlipRow
    row = slip_of x (reply_text w (executes x)).bytes

    go : (kept : Option (List ℕ)) (f : Option Rule) (b : Bool)
        → (unless_repeated kept (if_allowed f (if b then (execution_meaning w x).effect else written (write.Slip row) (execution_meaning w x).effect) w) w).slips
        ≡ with_taken (unless_repeated kept (if_allowed f (if b then None else Some row) None) None) w.slips
    go None None true = plain_slips w x
    go None None false = ap (add_row slip_key row) (plain_slips w x)
    go None (Some r) b = refl
    go (Some bytes) f b = refl

-- what it makes of the slip of a number
abbrev slip_after : Option SlipRow → ℕ → ℕ → Option SlipRow → Option SlipRow
slip_after None user number o = o
slip_after (Some row) user number o = or_else o (cond (is_slip user number row) (Some row) None)

of_key : (user number : ℕ) (s : SlipRow) → is_slip user number s ≡ true → slip_key s ≡ slip_number user number
of_key user number s is =
    let parts = and_parts (s.user == user) (s.number == number) is in
    ap (λ k. slip_number k s.number) (eqb-true s.user user parts.0) ∙ ap (slip_number user) (eqb-true s.number number parts.1)

found_after : (t : Option SlipRow) (rows : List SlipRow) (user number : ℕ) → IsNonDecreasingBy slip_key rows
    → find (is_slip user number) (with_taken t rows) ≡ slip_after t user number (find (is_slip user number) rows)
found_after None rows user number order = refl
found_after (Some row) rows user number order =
    find_added slip_key (is_slip user number) row rows (λ y new old. of_key user number y old ∙ sym (of_key user number row new)) order

-- and of how many its user has
abbrev count_after : Option SlipRow → ℕ → ℕ → ℕ
count_after None user n = n
count_after (Some row) user n = n + cond (row.user == user) 1 0

counted_after : (t : Option SlipRow) (rows : List SlipRow) (user : ℕ) → slip_count user (with_taken t rows) ≡ count_after t user (slip_count user rows)
counted_after None rows user = refl
counted_after (Some row) rows user = count-add_row slip_key (λ s. s.user == user) row rows

module _ (w : WorldLists) (x : Execution) (order : IsNonDecreasingBy slip_key w.slips) where
  pub slip_is : (user number : ℕ) → slip (step w (executes x)) user number ≡ slip_after (taken_of w x) user number (slip w user number)
  slip_is user number = ap (find (is_slip user number)) (slips_are w x) ∙ found_after (taken_of w x) w.slips user number order

  pub count_is : (user : ℕ) → slip_count user (step w (executes x)).slips ≡ count_after (taken_of w x) user (slip_count user w.slips)
  count_is user = ap (slip_count user) (slips_are w x) ∙ counted_after (taken_of w x) w.slips user

  -- one that is there stays
  pub stays_taken : (user number : ℕ) (s : SlipRow) → slip w user number ≡ Some s → slip (step w (executes x)) user number ≡ Some s
  stays_taken user number s there = slip_is user number ∙ ap (slip_after (taken_of w x) user number) there ∙ go (taken_of w x)
    where
      go : (t : Option SlipRow) → slip_after t user number (Some s) ≡ Some s
      go None = refl
      go (Some row) = refl

  -- each but the one that is named
  pub other_slip : (user number : ℕ) → (number ≡ slip_named x → user ≢ asker x.who) → slip (step w (executes x)) user number ≡ slip w user number
  other_slip user number other = slip_is user number ∙ go (repeated w (executes x)) (first w (executes x)) (slip_named x == 0)
    where
      row : SlipRow
      row = slip_of x (reply_text w (executes x)).bytes

      beside : (b : Bool) → is_slip user number row ≡ b → b ≡ false
      beside false is = refl
      beside true is =
          let parts = and_parts (row.user == user) (row.number == number) is in
          absurd (other (sym (eqb-true row.number number parts.1)) (sym (eqb-true row.user user parts.0)))

      go : (kept : Option (List ℕ)) (f : Option Rule) (b : Bool)
          → slip_after (unless_repeated kept (if_allowed f (if b then None else Some row) None) None) user number (slip w user number) ≡ slip w user number
      go None None true = refl
      go None None false =
          ap (λ b. or_else (slip w user number) (cond b (Some row) None)) (beside (is_slip user number row) refl) ∙ or_none (slip w user number)
      go None (Some r) b = refl
      go (Some bytes) f b = refl

  -- and how many any other user has
  pub other_count : (user : ℕ) → (slip_named x ≢ 0 → user ≢ asker x.who) → slip_count user (step w (executes x)).slips ≡ slip_count user w.slips
  other_count user other = count_is user ∙ go (repeated w (executes x)) (first w (executes x)) (slip_named x == 0) refl
    where
      row : SlipRow
      row = slip_of x (reply_text w (executes x)).bytes

      none_more : (n : ℕ) → n + 0 ≡ n
      none_more n = omega arith

      go : (kept : Option (List ℕ)) (f : Option Rule) (b : Bool) → (slip_named x == 0) ≡ b
          → count_after (unless_repeated kept (if_allowed f (if b then None else Some row) None) None) user (slip_count user w.slips) ≡ slip_count user w.slips
      go None None true is = refl
      go None None false is =
          ap (λ b. slip_count user w.slips + cond b 1 0) (ne_eqb (asker x.who) user (λ same. other (eqb-false (slip_named x) 0 is) (sym same))) ∙ none_more (slip_count user w.slips)
      go None (Some r) b is = refl
      go (Some bytes) f b is = refl

-- where both Worlds take the same, what was the same of a slip, and of how many a user has, is so afterwards
module _ (w v : WorldLists) (x : Execution) (order : IsNonDecreasingBy slip_key w.slips) (order' : IsNonDecreasingBy slip_key v.slips) (taken : taken_of w x ≡ taken_of v x) where
  pub slip_still : (user number : ℕ) → slip w user number ≡ slip v user number → slip (step w (executes x)) user number ≡ slip (step v (executes x)) user number
  slip_still user number same =
      slip_is w x order user number
      ∙ ap (slip_after (taken_of w x) user number) same
      ∙ ap (λ t. slip_after t user number (slip v user number)) taken
      ∙ sym (slip_is v x order' user number)

  pub count_still : (user : ℕ) → slip_count user w.slips ≡ slip_count user v.slips → slip_count user (step w (executes x)).slips ≡ slip_count user (step v (executes x)).slips
  count_still user same =
      count_is w x order user
      ∙ ap (count_after (taken_of w x) user) same
      ∙ ap (λ t. count_after t user (slip_count user v.slips)) taken
      ∙ sym (count_is v x order' user)
