-- What is left of an operation with its slip: the books hold with that, too, and it moves nothing.
use Rattle.std.proofs.Common.{◌≡◌, ◌≢◌, ℕ, ◌^◌, ◌<◌, ◌≤◌, ◌==◌, ◌&&◌, zero, suc, Bool, true, false, not, is_none, List, None, Contains, refl, ap, arith, sym, subst, ◌∙◌}
use Rattle.std.specs.Prelude.{if◌then◌else◌, nat_le}
use Rattle.std.proofs.lemmas.Bool.{and_from, eq-eqb, eqb-false, false≢true, leb-false}
use Rattle.bank_terms.specs.Limits.{max_key, max_slips}
use Rattle.bank_terms.specs.Procedure.{takes_slip}
use Rattle.bank_books.specs.Effects.{written}
use Rattle.bank_books.specs.Keys.{slip_key}
use Rattle.bank_books.specs.Range.{IsUser}
use Rattle.bank_books.specs.Records.{slip_count}
use Rattle.bank_books.specs.SlipRow.{SlipRow}
use Rattle.bank_books.specs.WorldLists.{WorldLists}
use Rattle.bank_books.specs.declared.row_write.RowWrite.TheVariants as write
use Rattle.book_laws.specs.Next.{IsNextSlip}
use Rattle.keyed_rows.proofs.DistinctKeys.{key_parts}
use Rattle.book_laws.proofs.BooksSplit.{books_parts}
use Rattle.keyed_rows.proofs.Rows.{none_passes}
use Rattle.book_laws.proofs.SlipAdded.{slip_keeps_books}
use Rattle.counter_ops.specs.Op.{procedure_of}
use Rattle.counter_ops.specs.Operations.{IsOp}
use Rattle.world_reads.specs.BookReads.{is_slip, slip}
use Rattle.bank_meaning.specs.Executions.{execution_meaning}
use Rattle.bank_meaning.specs.Once.{is_out}
use Rattle.bank_meaning.specs.PolicyRules.{asker}
use Rattle.bank_meaning.specs.Requests.{effect, executes, first, repeated}
use Rattle.bank_meaning.specs.Slips.{has_no_room, slip_grounds, slip_named, slip_of}
use Rattle.bank_meaning.specs.Moves.{Moves}
use Rattle.bank_meaning.specs.Sums.{PassesChecks}
use Rattle.bank_meaning.specs.declared.execution.Execution.{Execution}
use Rattle.bank_meaning.proofs.AllowedRequest.{allowed_user}
use Rattle.bank_meaning.proofs.KeptOrder.{in_order_written}
use Rattle.bank_meaning.proofs.KeptReplies.{made_stays, plain_slips}
use Rattle.bank_meaning.proofs.LastWordKept.{plain_kept}
use Rattle.bank_meaning.proofs.SlipSteps.{neither}
use Rattle.bank_meaning.proofs.Steps.{IsStep}

at_least_one : (n : ℕ) → n ≢ 0 → 1 ≤ n
at_least_one zero is = absurd (is refl)
at_least_one (suc n) is = omega arith

fits : (n : ℕ) → n ≤ max_key → n < 2 ^ 32
fits n is = omega arith

named_small : (b : Bool) (n : ℕ) → n ≤ max_key → (if b then n else 0) ≤ max_key
named_small true n is = is
named_small false n is = omega arith

named_takes : (b : Bool) (n : ℕ) → ((if b then n else 0) == 0) ≡ false → b ≡ true
named_takes true n is = refl
named_takes false n is = absurd cc

-- a slip that is not found has room where its rule doesn't deny
room_of : (zero full : Bool) → zero ≡ false → (not zero && (true && full)) ≡ false → full ≡ false
room_of true full named is = absurd cc
room_of false full named is = is

below : (c m : ℕ) → nat_le m c ≡ false → c < m
below c m is = leb-false m c is

module _ (w : WorldLists) (x : Execution) (checks : PassesChecks w) (small : x.who.slip ≤ max_key) (stays : is_out w x ≡ false) (named : (slip_named x == 0) ≡ false) where
  not_found : slip w (asker x.who) (slip_named x) ≡ None
  not_found = sym (ap (λ (b : Bool). if b then None else slip w (asker x.who) (slip_named x)) named) ∙ (neither (slip_grounds w x).found (has_no_room (slip_grounds w x)) stays).0

  in_range : slip_named x ≤ max_key
  in_range = named_small (takes_slip (procedure_of x.op)) x.who.slip small

  no_other : (bytes : List ℕ) (o : SlipRow) → Contains w.slips o → slip_key o ≢ slip_key (slip_of x bytes)
  no_other bytes o there same =
      let was = ((books_parts w).0 checks.books).0.rows.slips.each o there in
      let parts = key_parts o.user o.number (asker x.who) (slip_named x) (fits o.number was.number.1) (fits (slip_named x) in_range) same in
      false≢true (
      sym (none_passes (is_slip (asker x.who) (slip_named x)) w.slips o not_found there)
      ∙ and_from (o.user == asker x.who) (o.number == slip_named x) (eq-eqb o.user (asker x.who) parts.0) (eq-eqb o.number (slip_named x) parts.1)
      )

  room : slip_count (asker x.who) w.slips < max_slips
  room =
      let parts = neither (slip_grounds w x).found (has_no_room (slip_grounds w x)) stays in
      let full : (not (slip_named x == 0) && (true && nat_le max_slips (slip_count (asker x.who) w.slips))) ≡ false =
      sym (ap (λ f. not (slip_named x == 0) && (is_none f && nat_le max_slips (slip_count (asker x.who) w.slips))) parts.0) ∙ parts.1 in
      below (slip_count (asker x.who) w.slips) max_slips (room_of (slip_named x == 0) (nat_le max_slips (slip_count (asker x.who) w.slips)) named full)

  -- so it may come next, when the operation was carried out
  is_next : (bytes : List ℕ) → IsOp x.op → IsUser w.policy.users (asker x.who) → IsNextSlip (execution_meaning w x).effect (slip_of x bytes)
  is_next bytes proper user = record {
    user = subst (λ p. IsUser p.users (asker x.who)) (sym (plain_kept w x).policy) user;
    number = (at_least_one (slip_named x) (eqb-false (slip_named x) 0 named), in_range);
    form = named_takes (takes_slip (procedure_of x.op)) x.who.slip named;
    operation = (x.op, (proper, refl));
    free = λ o there. no_other bytes o (subst (λ rows. Contains rows o) (plain_slips w x) there);
    room = subst (λ rows. slip_count (asker x.who) rows < max_slips) (sym (plain_slips w x)) room;
  }

pub taken_step : (w : WorldLists) (x : Execution) (m : Moves) → PassesChecks w → IsOp x.op → x.who.slip ≤ max_key → repeated w (executes x) ≡ None → first w (executes x) ≡ None
    → IsStep w (execution_meaning w x).effect m → IsStep w (effect w (executes x)) m
taken_step w x m checks proper small fresh is step = go (slip_named x == 0) refl
  where
    row : SlipRow
    row = slip_of x (execution_meaning w x).reply.bytes

    go : (b : Bool) → (slip_named x == 0) ≡ b → IsStep w (if b then (execution_meaning w x).effect else written (write.Slip row) (execution_meaning w x).effect) m
    go true none = step
    go false named =
        let next = is_next w x checks small (made_stays w x (is_out w x) refl fresh is) named row.reply proper (allowed_user w x is) in
        record {
          checks = record {
            in_order = in_order_written (write.Slip row) (execution_meaning w x).effect step.checks.in_order;
            books = slip_keeps_books (execution_meaning w x).effect row next step.checks.books;
            sound = step.checks.sound;
            separated = step.checks.separated;
          };
          branches = step.branches;
          tellers = step.tellers;
          accounts = step.accounts;
          history = step.history;
          cash_entries = step.cash_entries;
          stay = step.stay;
          vaults = step.vaults;
          added = record { entries = step.added.entries; lines = step.added.lines; proofs = step.added.proofs };
        }
