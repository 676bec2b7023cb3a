-- The slips of both banks: which is named and whether its user has it, and that one which is taken at both leaves them
-- alike.
use Rattle.std.proofs.Common.{◌≡◌, ◌==◌, ◌&&◌, ◌+◌, ◌∙◌, ℕ, Bool, true, false, cond, None, refl, ap, ap₂, sym, inl}
use Rattle.std.specs.Prelude.{if◌then◌else◌}
use Rattle.std.proofs.lemmas.Bool.{and_parts, eqb-true}
use Rattle.bank_terms.specs.Procedure.{takes_slip}
use Rattle.bank_terms.specs.declared.rule.Rule.{Rule}
use Rattle.bank_terms.specs.declared.rule.Rule.TheVariants as rule
use Rattle.keyed_rows.proofs.Rows.{count-add_row, find-add_row}
use Rattle.bank_books.specs.Effects.{written}
use Rattle.bank_books.specs.Keys.{slip_key}
use Rattle.bank_books.specs.SlipRow.{SlipRow}
use Rattle.bank_books.specs.WorldLists.{WorldLists}
use Rattle.bank_books.specs.declared.row_write.RowWrite.TheVariants as write
use Rattle.counter_ops.specs.declared.op.Op.{Op}
use Rattle.world_reads.specs.BookReads.{is_slip, slip}
use Rattle.bank_meaning.specs.PolicyRules.{asker}
use Rattle.bank_meaning.specs.Slips.{SlipGrounds, is_of_another, slip_grounds, slip_named, with_slip}
use Rattle.bank_meaning.specs.declared.execution.Execution.{Execution}
use Rattle.bank_meaning.specs.declared.who.Who.{Who}
use Rattle.year_laws.specs.GoesOn.{AreBoth, Turn, op_at_old}
use Rattle.year_laws.specs.JudgedAlike.{begins_anew}
use Rattle.year_laws.specs.RequestsAlike.{IsSameSlip, IsSlipAlike, ServeAlike}
use Rattle.year_laws.specs.StaysAlike.{AddsLast}
use Rattle.year_laws.proofs.AlikeRows.{chosen_same}
use Rattle.year_laws.proofs.RowsAlike.{carried, found_added}
use Rattle.year_laws.proofs.SameAsked.{same_procedure}

-- ---- the slip that is named

module _ (t : Turn) (who : Who) (moment : ℕ) (x : Op) where
  abbrev at_old : Execution
  at_old = record { who = who; moment = moment; op = op_at_old t x }

  abbrev at_new : Execution
  at_new = record { who = who; moment = moment; op = x }

  pub same_number : slip_named at_old ≡ slip_named at_new
  same_number = ap (λ p. if takes_slip p then who.slip else 0) (same_procedure t x)

  -- its user has it at both, alike, or at neither
  pub same_found : (old new : WorldLists) → ServeAlike t old new → AreBoth (IsSlipAlike t) (slip_grounds old at_old).found (slip_grounds new at_new).found
  same_found old new serve =
      carried (AreBoth (IsSlipAlike t)) _ _ _ _ (ap (λ n. if n == 0 then None else slip old (asker who) n) same_number) refl
      (chosen_same (IsSlipAlike t) (slip_named at_new == 0) (slip old (asker who) (slip_named at_new)) (slip new (asker who) (slip_named at_new)) (serve.slips (asker who) (slip_named at_new)))

-- every rule but that on full numbers denies it at both or at neither, with its slip, where it does without
pub with_slips_alike : (g h : SlipGrounds) (p q : Rule → Bool) → is_of_another g ≡ is_of_another h → ((r : Rule) → begins_anew r ≡ false → p r ≡ q r) → (r : Rule) → begins_anew r ≡ false
    → with_slip g p r ≡ with_slip h q r
with_slips_alike g h p q another same rule.Slip none = another
with_slips_alike g h p q another same rule.Full none = absurd cc
with_slips_alike g h p q another same r none = same r none

-- ---- a slip that is taken

adds_still : (w : WorldLists) (s : SlipRow) → AddsLast w → AddsLast (written (write.Slip s) w)
adds_still w s adds = record { tellers = adds.tellers; accounts = adds.accounts; entries = adds.entries; lines = adds.lines; places = adds.places; order = adds.order; releases = adds.releases }

module _ (t : Turn) (old new : WorldLists) (serve : ServeAlike t old new) (r s : SlipRow) (user : r.user ≡ s.user) (number : r.number ≡ s.number) (same : IsSameSlip t r s) where
  here : (w : WorldLists) (y : SlipRow) → slip w y.user y.number ≡ None → (u n : ℕ) → is_slip u n y ≡ true → slip w u n ≡ None
  here w y none u n is =
      let parts = and_parts (y.user == u) (y.number == n) is in
      ap₂ (slip w) (sym (eqb-true y.user u parts.0)) (sym (eqb-true y.number n parts.1)) ∙ none

  slips : slip old r.user r.number ≡ None → slip new s.user s.number ≡ None → (u n : ℕ) → AreBoth (IsSlipAlike t) (slip (written (write.Slip r) old) u n) (slip (written (write.Slip s) new) u n)
  slips old_free new_free u n = go (is_slip u n s) refl
    where
      tested : is_slip u n r ≡ is_slip u n s
      tested = ap₂ (λ k m. k == u && m == n) user number

      go : (c : Bool) → is_slip u n s ≡ c → AreBoth (IsSlipAlike t) (slip (written (write.Slip r) old) u n) (slip (written (write.Slip s) new) u n)
      go true is =
          carried (AreBoth (IsSlipAlike t)) _ _ _ _ (found_added slip_key (is_slip u n) r old.slips (tested ∙ is) (here old r old_free u n (tested ∙ is)))
          (found_added slip_key (is_slip u n) s new.slips is (here new s new_free u n is)) (inl same)
      go false is =
          carried (AreBoth (IsSlipAlike t)) _ _ _ _ (find-add_row slip_key (is_slip u n) r old.slips (tested ∙ is)) (find-add_row slip_key (is_slip u n) s new.slips is) (serve.slips u n)

  slip_stays : slip old r.user r.number ≡ None → slip new s.user s.number ≡ None → ServeAlike t (written (write.Slip r) old) (written (write.Slip s) new)
  slip_stays old_free new_free = record {
    books = record {
      alike = record {
        accounts = serve.books.alike.accounts;
        tellers = serve.books.alike.tellers;
        branches = serve.books.alike.branches;
        rosters = serve.books.alike.rosters;
        entries = serve.books.alike.entries;
        undone = serve.books.alike.undone;
        users = serve.books.alike.users;
      };
      old_adds = adds_still old r serve.books.old_adds;
      new_adds = adds_still new s serve.books.new_adds;
      turns = serve.books.turns;
      given = serve.books.given;
      releases = serve.books.releases;
    };
    policy = serve.policy;
    version = serve.version;
    slips = slips old_free new_free;
    slip_counts = λ u.
        count-add_row slip_key (λ y. y.user == u) r old.slips
        ∙ ap₂ (λ n k. n + cond (k == u) 1 0) (serve.slip_counts u) user
        ∙ sym (count-add_row slip_key (λ y. y.user == u) s new.slips);
  }

  -- where one is named, which its user has not
  pub taken_stays : (b c : Bool) → b ≡ c → (b ≡ false → slip old r.user r.number ≡ None) → (c ≡ false → slip new s.user s.number ≡ None)
      → ServeAlike t (if b then old else written (write.Slip r) old) (if c then new else written (write.Slip s) new)
  taken_stays true true both old_free new_free = serve
  taken_stays false false both old_free new_free = slip_stays (old_free refl) (new_free refl)
  taken_stays true false both old_free new_free = absurd cc
  taken_stays false true both old_free new_free = absurd cc
