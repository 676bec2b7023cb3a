-- Where the slip denies nothing, the first rule against an operation is that of the policy and the books.
use Rattle.std.proofs.Common.{◌≡◌, ◌==◌, ◌&&◌, ◌||◌, inl, inr, Bool, true, false, not, Option, None, Some, refl, ap, sym, ◌∙◌}
use Rattle.std.specs.Prelude.{if◌then◌else◌, is_none, nat_le}
use Rattle.std.specs.Option.{option_map_or}
use Rattle.std.proofs.lemmas.Bool.{eq-eqb, eqb-true, leb-false, lt-leb, not-false}
use Rattle.bank_terms.specs.Limits.{max_slips}
use Rattle.bank_terms.specs.declared.rule.Rule.TheVariants as rule
use Rattle.bank_books.specs.Records.{slip_count}
use Rattle.bank_books.specs.SlipRow.{SlipRow}
use Rattle.bank_books.specs.WorldLists.{WorldLists}
use Rattle.counter_ops.specs.Rows.{row_of}
use Rattle.world_reads.specs.BookReads.{slip}
use Rattle.bank_meaning.specs.Executions.{execution_meaning}
use Rattle.bank_meaning.specs.Laws.{SlipAllows}
use Rattle.bank_meaning.specs.NamedRelease.{is_same_operation}
use Rattle.bank_meaning.specs.PolicyRules.{asker}
use Rattle.bank_meaning.specs.Requests.{executes, first}
use Rattle.bank_meaning.specs.Slips.{has_no_room, is_of_another, slip_grounds, slip_named}
use Rattle.bank_meaning.specs.declared.execution.Execution.{Execution}
use Rattle.bank_meaning.proofs.CountingRelease.{same_tested, same_of_test}
use Rattle.bank_meaning.proofs.FirstRule.{none_denies}
use Rattle.bank_meaning.proofs.PolicyLemmas.{plain_first}
use Rattle.bank_meaning.proofs.SlipSteps.{first_by}

pub slip_passes : (w : WorldLists) (x : Execution) → is_of_another (slip_grounds w x) ≡ false → has_no_room (slip_grounds w x) ≡ false → first w (executes x) ≡ plain_first w x
slip_passes w x other full =
    ap (λ b. first_by b (has_no_room (slip_grounds w x)) (execution_meaning w x).denies) other ∙ ap (λ b. first_by false b (execution_meaning w x).denies) full

neither_of : (a b : Bool) → (a || b) ≡ false → a ≡ false
neither_of true b is = absurd cc
neither_of false b is = refl

-- an operation that is allowed has a slip that denies nothing
pub not_another : (w : WorldLists) (x : Execution) → first w (executes x) ≡ None → is_of_another (slip_grounds w x) ≡ false
not_another w x is = none_denies w (executes x) rule.Slip is

pub has_room : (w : WorldLists) (x : Execution) → first w (executes x) ≡ None → has_no_room (slip_grounds w x) ≡ false
has_room w x is = neither_of (has_no_room (slip_grounds w x)) ((execution_meaning w x).denies rule.Full) (none_denies w (executes x) rule.Full is)

pub plain_allowed : (w : WorldLists) (x : Execution) → first w (executes x) ≡ None → plain_first w x ≡ None
plain_allowed w x is = sym (slip_passes w x (not_another w x is) (has_room w x is)) ∙ is

-- ---- what the two tests of a slip ask, over the rows of the user

module _ (w : WorldLists) (x : Execution) where
  -- the tests, by whether a slip is named and which the user has
  abbrev another : Bool → Option SlipRow → Bool
  another unnamed o = option_map_or (λ s. not (is_same_operation s.operation (row_of x.op))) (if unnamed then None else o) false

  abbrev full : Bool → Option SlipRow → Bool
  full unnamed o = not unnamed && (is_none (if unnamed then None else o) && nat_le max_slips (slip_count (asker x.who) w.slips))

  pub slip_of_test : is_of_another (slip_grounds w x) ≡ false → has_no_room (slip_grounds w x) ≡ false → SlipAllows w x
  slip_of_test not_other not_full = go (slip_named x == 0) refl (slip w (asker x.who) (slip_named x)) refl not_other not_full
    where
      go : (b : Bool) → (slip_named x == 0) ≡ b → (o : Option SlipRow) → slip w (asker x.who) (slip_named x) ≡ o → another b o ≡ false → full b o ≡ false → SlipAllows w x
      go true none o at not_other not_full = inl (eqb-true _ _ none)
      go false some None at not_other not_full = inr (inl (record { free = at; room = leb-false _ _ not_full }))
      go false some (Some s) at not_other not_full = inr (inr (record { row = s; there = at; operation = same_of_test s.operation (row_of x.op) (not-false _ not_other) }))

  free_passes : (b : Bool) → nat_le max_slips (slip_count (asker x.who) w.slips) ≡ false → (another b None ≡ false) × (full b None ≡ false)
  free_passes true room = (refl, refl)
  free_passes false room = (refl, room)

  same_passes : (b : Bool) (s : SlipRow) → is_same_operation s.operation (row_of x.op) ≡ true → (another b (Some s) ≡ false) × (full b (Some s) ≡ false)
  same_passes true s same = (refl, refl)
  same_passes false s same = (ap not same, refl)

  pub slip_tested : SlipAllows w x → (is_of_another (slip_grounds w x) ≡ false) × (has_no_room (slip_grounds w x) ≡ false)
  slip_tested (inl none) =
      let there = slip w (asker x.who) (slip_named x) in
      let named = eq-eqb (slip_named x) 0 none in
      (ap (λ b. another b there) named, ap (λ b. full b there) named)
  slip_tested (inr (inl new)) =
      let passes = free_passes (slip_named x == 0) (lt-leb _ _ new.room) in
      (ap (another (slip_named x == 0)) new.free ∙ passes.0, ap (full (slip_named x == 0)) new.free ∙ passes.1)
  slip_tested (inr (inr its)) =
      let passes = same_passes (slip_named x == 0) its.row (same_tested its.row.operation (row_of x.op) its.operation) in
      (ap (another (slip_named x == 0)) its.there ∙ passes.0, ap (full (slip_named x == 0)) its.there ∙ passes.1)
