-- A slip that was taken is found in every later World, with what was replied then.
use Rattle.std.proofs.Common.{◌≡◌, ◌≢◌, ℕ, ◌==◌, ◌&&◌, Bool, true, false, not, is_none, List, [], ◌∷◌, Option, Some, None, cond, refl, ap, sym, ◌∙◌, ◌⊎◌, inl, inr}
use Rattle.std.specs.Prelude.{if◌then◌else◌, nat_le}
use Rattle.std.specs.List.{find}
use Rattle.std.proofs.lemmas.Bool.{and_from, and_parts, eq-eqb, eqb-true, ne_eqb}
use Rattle.keyed_rows.specs.Ordered.{add_row}
use Rattle.money.specs.declared.fault.Fault.{Fault}
use Rattle.bank_terms.specs.declared.operation_row.OperationRow.{OperationRow}
use Rattle.bank_terms.specs.declared.rule.Rule.{Rule}
use Rattle.bank_terms.specs.declared.rule.Rule.TheVariants as rule
use Rattle.bank_books.specs.Effects.{written}
use Rattle.bank_books.specs.Keys.{slip_key}
use Rattle.bank_books.specs.SlipRow.{SlipRow}
use Rattle.bank_books.specs.WorldLists.{WorldLists}
use Rattle.bank_books.specs.declared.row_write.RowWrite.TheVariants as write
use Rattle.counter_ops.specs.Rows.{row_of}
use Rattle.world_reads.specs.BookReads.{is_slip, slip}
use Rattle.store_rows.specs.Status.{after_mark}
use Rattle.bank_meaning.specs.Executions.{execution_meaning}
use Rattle.bank_meaning.specs.NamedRelease.{is_same_operation}
use Rattle.bank_meaning.specs.Once.{is_out}
use Rattle.bank_meaning.specs.PolicyRules.{asker, grounds, is_identified}
use Rattle.bank_meaning.specs.Repeats.{BearsSlipOf, RepliesAreKept}
use Rattle.bank_meaning.specs.Requests.{effect, executes, first, repeated, reply_text}
use Rattle.bank_meaning.specs.Run.{Marked, after_request, if_allowed, step, stated, repeated_reply, unless_repeated, world_after}
use Rattle.bank_meaning.specs.Slips.{SlipGrounds, has_no_room, is_of_another, kept_reply, slip_grounds, slip_named, slip_of}
use Rattle.bank_meaning.specs.declared.execution.Execution.{Execution}
use Rattle.bank_meaning.specs.declared.request.Asked.{Asked}
use Rattle.bank_meaning.specs.declared.request.Asked.TheVariants as asked
use Rattle.bank_meaning.specs.declared.who.Who.{Who}
use Rattle.bank_meaning.proofs.CountingRelease.{same_tested, same_of_test}
use Rattle.bank_meaning.proofs.SlipSteps.{first_by, neither, out_operation}
use Rattle.bank_meaning.proofs.SlipsAside.{command_beside, execution_beside}

-- ---- a row that is added

-- a search that the new row does not pass finds what it found
pub find_beside : {T : Type 0} (p : T → Bool) (key : T → ℕ) (e : T) (xs : List T) → p e ≡ false → find p (add_row key e xs) ≡ find p xs
find_beside p key e [] no_pass = ap (λ b. cond b (Some e) None) no_pass
find_beside p key e (x ∷ xs) no_pass = go (nat_le (key x) (key e)) (find_beside p key e xs no_pass)
  where
    go : (b : Bool) → find p (add_row key e xs) ≡ find p xs → find p (if b then x ∷ add_row key e xs else e ∷ x ∷ xs) ≡ find p (x ∷ xs)
    go true rest = ap (λ r. cond (p x) (Some x) r) rest
    go false rest = ap (λ b. cond b (Some e) (find p (x ∷ xs))) no_pass

head_none : {T : Type 0} (b : Bool) (x : T) (r : Option T) → cond b (Some x) r ≡ None → (b ≡ false) × (r ≡ None)
head_none true x r is = absurd cc
head_none false x r is = (refl, is)

-- one that no row passed, and the new one does, finds that
pub find_new : {T : Type 0} (p : T → Bool) (key : T → ℕ) (e : T) (xs : List T) → p e ≡ true → find p xs ≡ None → find p (add_row key e xs) ≡ Some e
find_new p key e [] pass none = ap (λ b. cond b (Some e) None) pass
find_new p key e (x ∷ xs) pass none =
    let parts = head_none (p x) x (find p xs) none in
    go (nat_le (key x) (key e)) parts.0 (find_new p key e xs pass parts.1)
  where
    go : (b : Bool) → p x ≡ false → find p (add_row key e xs) ≡ Some e → find p (if b then x ∷ add_row key e xs else e ∷ x ∷ xs) ≡ Some e
    go true front rest = ap (λ b. cond b (Some x) (find p (add_row key e xs))) front ∙ rest
    go false front rest = ap (λ b. cond b (Some e) (find p (x ∷ xs))) pass

-- ---- the slips after one request: those before, or one more that its user had not

abbrev Grew : WorldLists → WorldLists → Type 0
Grew v after = (after.slips ≡ v.slips) ⊎ ((row : SlipRow) × ((slip v row.user row.number ≡ None) × (after.slips ≡ add_row slip_key row v.slips)))

-- what is left of an operation beside its slip
pub plain_slips : (v : WorldLists) (x : Execution) → (execution_meaning v x).effect.slips ≡ v.slips
plain_slips v x = ap (λ u. u.slips) (execution_beside v.slips v x).effect

taken : (v : WorldLists) (x : Execution) → is_out v x ≡ false → Grew v (effect v (executes x))
taken v x stays = go (slip_named x == 0) refl
  where
    row : SlipRow
    row = slip_of x (execution_meaning v x).reply.bytes

    go : (b : Bool) → (slip_named x == 0) ≡ b → Grew v (if b then (execution_meaning v x).effect else written (write.Slip row) (execution_meaning v x).effect)
    go true is = inl (plain_slips v x)
    go false is =
        let parts = neither (slip_grounds v x).found (has_no_room (slip_grounds v x)) stays in
        inr (row, (sym (ap (λ (b : Bool). if b then None else slip v (asker x.who) (slip_named x)) is) ∙ parts.0, ap (λ rows. add_row slip_key row rows) (plain_slips v x)))

grew_if : (v e : WorldLists) (f : Option Rule) → (f ≡ None → Grew v e) → Grew v (if_allowed f e v)
grew_if v e None grew = grew refl
grew_if v e (Some r) grew = inl refl

grew_unless : (v e : WorldLists) (r : Option (List ℕ)) (f : Option Rule) → (r ≡ None → f ≡ None → Grew v e) → Grew v (unless_repeated r (if_allowed f e v) v)
grew_unless v e (Some bytes) f grew = inl refl
grew_unless v e None f grew = grew_if v e f (grew refl)

pub made_stays : (v : WorldLists) (x : Execution) (b : Bool) → is_out v x ≡ b → repeated v (executes x) ≡ None → first v (executes x) ≡ None → b ≡ false
made_stays v x true out once allowed = absurd (out_operation v x out once allowed)
made_stays v x false out once allowed = refl

grew_asked : (v : WorldLists) (a : Asked) (who : Who) (moment : ℕ) → Grew v (step v (record { who = who; moment = moment; asked = a }))
grew_asked v (asked.Operation op) who moment =
    let x : Execution = record { who = who; moment = moment; op = op } in
    grew_unless v (effect v (executes x)) (repeated v (executes x)) (first v (executes x)) (λ fresh allowed. taken v x (made_stays v x (is_out v x) refl fresh allowed))
grew_asked v asked.Opening who moment = grew_if v _ (first v (record { who = who; moment = moment; asked = asked.Opening })) (λ allowed. inl refl)
grew_asked v asked.Ending who moment = grew_if v _ (first v (record { who = who; moment = moment; asked = asked.Ending })) (λ allowed. inl refl)
grew_asked v (asked.Command c) who moment =
    grew_if v _ (first v (record { who = who; moment = moment; asked = asked.Command c })) (λ allowed. inl (ap (λ u. u.slips) (command_beside v.slips v c (asker who))))
grew_asked v asked.Listing who moment = grew_if v _ (first v (record { who = who; moment = moment; asked = asked.Listing })) (λ allowed. inl refl)

-- so a slip that is found is found after it
still_found : (v after : WorldLists) (user number : ℕ) (s : SlipRow) → Grew v after → slip v user number ≡ Some s → slip after user number ≡ Some s
still_found v after user number s (inl same) there = ap (λ rows. find (is_slip user number) rows) same ∙ there
still_found v after user number s (inr more) there =
    ap (λ rows. find (is_slip user number) rows) more.1.1 ∙ find_beside (is_slip user number) slip_key more.0 v.slips (go (is_slip user number more.0) refl) ∙ there
  where
    go : (b : Bool) → is_slip user number more.0 ≡ b → b ≡ false
    go false is = refl
    go true is =
        let parts = and_parts (more.0.user == user) (more.0.number == number) is in
        let same : slip v more.0.user more.0.number ≡ slip v user number =
        ap (λ u. slip v u more.0.number) (eqb-true more.0.user user parts.0) ∙ ap (λ n. slip v user n) (eqb-true more.0.number number parts.1) in
        let clash : None ≡ Some s = sym more.1.0 ∙ same ∙ there in
        absurd cc

still_after : (v : WorldLists) (m : Marked) (user number : ℕ) (s : SlipRow) → slip v user number ≡ Some s → slip (after_request v m) user number ≡ Some s
still_after v m user number s there = go m.mark
  where
    go : (mark : Option Fault) → slip (after_mark mark (step v m.request) v) user number ≡ Some s
    go None = still_found v (step v m.request) user number s (grew_asked v m.request.asked m.request.who m.request.moment) there
    go (Some f) = there

pub still_along : (v : WorldLists) (ms : List Marked) (user number : ℕ) (s : SlipRow) → slip v user number ≡ Some s → slip (world_after v ms) user number ≡ Some s
still_along v [] user number s there = there
still_along v (m ∷ ms) user number s there = still_along (after_request v m) ms user number s (still_after v m user number s there)

-- ---- a repeat

other_tested : (row other : OperationRow) → row ≢ other → is_same_operation row other ≡ false
other_tested row other differ = go (is_same_operation row other) refl
  where
    go : (b : Bool) → is_same_operation row other ≡ b → b ≡ false
    go true is = absurd (differ (same_of_test row other is))
    go false is = refl

is_known : (b : Bool) → not b ≡ false → b ≡ true
is_known true is = refl
is_known false is = cc

-- what is asked of a slip, where it is this one
abbrev found_as : SlipGrounds → SlipRow → SlipGrounds
found_as g s = record g { found = Some s }

module _ (v : WorldLists) (x y : Execution) (s : SlipRow) (bears : BearsSlipOf v x y) (named : slip_named x ≢ 0) (there : slip v (asker x.who) (slip_named x) ≡ Some s) where
  found : (slip_grounds v y).found ≡ Some s
  found =
      ap (λ (n : ℕ). if n == 0 then None else slip v (asker y.who) n) bears.number
      ∙ ap (λ u. if slip_named x == 0 then None else slip v u (slip_named x)) bears.user
      ∙ ap (λ (b : Bool). if b then None else slip v (asker x.who) (slip_named x)) (ne_eqb (slip_named x) 0 named)
      ∙ there

  known : is_identified (grounds v y).standing (grounds v y).session ≡ true
  known = is_known (is_identified (grounds v y).standing (grounds v y).session) bears.known

  kept : repeated v (executes y) ≡ kept_reply (found_as (slip_grounds v y) s)
  kept = ap (λ (b : Bool). if b then kept_reply (slip_grounds v y) else None) known ∙ ap (λ f. kept_reply (record (slip_grounds v y) { found = f })) found

  pub repeats : is_same_operation s.operation (row_of y.op) ≡ true → repeated v (executes y) ≡ Some s.reply
  repeats same = kept ∙ ap (λ (b : Bool). if b then Some s.reply else None) same

  pub differs : is_same_operation s.operation (row_of y.op) ≡ false → repeated v (executes y) ≡ None
  differs other = kept ∙ ap (λ (b : Bool). if b then Some s.reply else None) other

  pub denied : is_same_operation s.operation (row_of y.op) ≡ false → first v (executes y) ≡ Some rule.Slip
  denied other =
      let is : is_of_another (slip_grounds v y) ≡ true = ap (λ f. is_of_another (record (slip_grounds v y) { found = f })) found ∙ ap not other in
      ap (λ b. first_by b (has_no_room (slip_grounds v y)) (execution_meaning v y).denies) is ∙ ap (λ b. cond b (Some rule.Identity) (Some rule.Slip)) bears.known

accepted_parts : (r : Option (List ℕ)) (f : Option Rule) → (is_none r && is_none f) ≡ true → (r ≡ None) × (f ≡ None)
accepted_parts None None is = (refl, refl)
accepted_parts None (Some rule) is = absurd cc
accepted_parts (Some bytes) f is = absurd cc

-- what was accepted is found
taken_there : (w : WorldLists) (x : Execution) → slip_named x ≢ 0 → repeated w (executes x) ≡ None → first w (executes x) ≡ None
    → slip (step w (executes x)) (asker x.who) (slip_named x) ≡ Some (slip_of x (reply_text w (executes x)).bytes)
taken_there w x named fresh allowed =
    let u = asker x.who in
    let n = slip_named x in
    let row : SlipRow = slip_of x (reply_text w (executes x)).bytes in
    let stays = made_stays w x (is_out w x) refl fresh allowed in
    let parts = neither (slip_grounds w x).found (has_no_room (slip_grounds w x)) stays in
    let none : slip w u n ≡ None = sym (ap (λ (b : Bool). if b then None else slip w u n) (ne_eqb n 0 named)) ∙ parts.0 in
    let left : step w (executes x) ≡ written (write.Slip row) (execution_meaning w x).effect =
    ap (λ r. unless_repeated r (if_allowed (first w (executes x)) (effect w (executes x)) w) w) fresh
    ∙ ap (λ f. if_allowed f (effect w (executes x)) w) allowed
    ∙ ap (λ (b : Bool). if b then (execution_meaning w x).effect else written (write.Slip row) (execution_meaning w x).effect) (ne_eqb n 0 named) in
    ap (λ v. slip v u n) left
    ∙ ap (λ rows. find (is_slip u n) (add_row slip_key row rows)) (plain_slips w x)
    ∙ find_new (is_slip u n) slip_key row w.slips (and_from (u == u) (n == n) (eq-eqb u u refl) (eq-eqb n n refl)) none

pub replies_are_kept : RepliesAreKept
replies_are_kept w x ms named is =
    let parts = accepted_parts (repeated w (executes x)) (first w (executes x)) is in
    let row : SlipRow = slip_of x (reply_text w (executes x)).bytes in
    let v = world_after (step w (executes x)) ms in
    let there = still_along (step w (executes x)) ms (asker x.who) (slip_named x) row (taken_there w x named parts.0 parts.1) in
    record {
      left = λ y bears same.
          ap (λ r. unless_repeated r (if_allowed (first v (executes y)) (effect v (executes y)) v) v) (repeats v x y row bears named there (same_tested (row_of x.op) (row_of y.op) (sym same)));
      stated = λ y bears same.
          ap (λ r. repeated_reply r (stated (first v (executes y)) (reply_text v (executes y)))) (repeats v x y row bears named there (same_tested (row_of x.op) (row_of y.op) (sym same)));
      denied = λ y bears differ.
          let other = other_tested (row_of x.op) (row_of y.op) (λ same. differ (sym same)) in
          ap (λ r. repeated_reply r (stated (first v (executes y)) (reply_text v (executes y)))) (differs v x y row bears named there other)
          ∙ ap (λ f. stated f (reply_text v (executes y))) (denied v x y row bears named there other);
    }
