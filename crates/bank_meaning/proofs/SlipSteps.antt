-- One request with its slip, and the same without it in a World that has no slips.
use Rattle.std.proofs.Common.{◌≡◌, ℕ, ◌==◌, ◌||◌, ◌&&◌, Bool, true, false, not, is_none, is_some, List, [], Option, Some, None, refl, ap, sym, subst, ◌∙◌, inl, inr}
use Rattle.std.specs.Prelude.{if◌then◌else◌}
use Rattle.std.specs.List.{find}
use Rattle.money.specs.declared.fault.Fault.{Fault}
use Rattle.bank_terms.specs.Procedure.{takes_slip}
use Rattle.bank_terms.specs.declared.rule.Rule.{Rule}
use Rattle.bank_terms.specs.declared.rule.Rule.TheVariants as rule
use Rattle.bank_books.specs.Effects.{written}
use Rattle.bank_books.specs.Records.{slip_count}
use Rattle.bank_books.specs.SlipRow.{SlipRow}
use Rattle.bank_books.specs.WorldLists.{WorldLists}
use Rattle.bank_books.specs.declared.row_write.RowWrite.TheVariants as write
use Rattle.counter_ops.specs.Op.{procedure_of}
use Rattle.counter_ops.specs.Rows.{row_of}
use Rattle.world_reads.specs.BookReads.{slip}
use Rattle.store_rows.specs.Status.{after_mark}
use Rattle.bank_meaning.specs.Executions.{execution_meaning}
use Rattle.bank_meaning.specs.NamedRelease.{is_same_operation}
use Rattle.bank_meaning.specs.Once.{asked_out, is_out, is_taken_out, marked_without_slip, without_slip, without_slips}
use Rattle.bank_meaning.specs.PolicyRules.{asker, grounds, is_identified}
use Rattle.bank_meaning.specs.Requests.{denies, effect, executes, first, repeated, reply_text, rules}
use Rattle.bank_meaning.specs.Run.{Marked, after_request, if_allowed, is_accepted, reply, step, stated, repeated_reply, unless_repeated}
use Rattle.bank_meaning.specs.Slips.{SlipGrounds, has_no_room, is_of_another, kept_reply, slip_grounds, slip_named, taken_by}
use Rattle.bank_meaning.specs.declared.execution.Execution.{Execution}
use Rattle.bank_meaning.specs.declared.request.Asked.{Asked}
use Rattle.bank_meaning.specs.declared.request.Asked.TheVariants as asked
use Rattle.bank_meaning.specs.declared.request.Request.{Request}
use Rattle.bank_meaning.specs.declared.who.Who.{Who}
use Rattle.bank_meaning.proofs.FirstRule.{Has, none}
use Rattle.bank_meaning.proofs.SlipsAside.{command_beside, execution_beside}

-- ---- the first rule, by what the slip denies

abbrev pub by_slip : Bool → Bool → (Rule → Bool) → Rule → Bool
by_slip another full denies rule.Slip = another
by_slip another full denies rule.Full = full || denies rule.Full
by_slip another full denies r = denies r

abbrev pub first_by : Bool → Bool → (Rule → Bool) → Option Rule
first_by another full denies = find (by_slip another full denies) rules

first_is : (w : WorldLists) (x : Execution) → first w (executes x) ≡ first_by (is_of_another (slip_grounds w x)) (has_no_room (slip_grounds w x)) (execution_meaning w x).denies
first_is w x = refl

-- a slip that is not found denies nothing as one of another operation, and is no repeat
pub not_another : (g : SlipGrounds) → g.found ≡ None → is_of_another g ≡ false
not_another g none = ap (λ f. is_of_another (record g { found = f })) none

pub no_repeat : (b : Bool) (g : SlipGrounds) → g.found ≡ None → (if b then kept_reply g else None) ≡ None
no_repeat true g none = ap (λ f. kept_reply (record g { found = f })) none
no_repeat false g none = refl

pub neither : (o : Option SlipRow) (b : Bool) → (is_some o || b) ≡ false → (o ≡ None) × (b ≡ false)
neither None b is = (refl, is)
neither (Some s) b is = absurd cc

-- ---- no slip is named

abbrev named : Bool → ℕ → ℕ
named b n = if b then n else 0

none_named : (b : Bool) → named b 0 ≡ 0
none_named true = refl
none_named false = refl

abbrev grounds_at : ℕ → WorldLists → Execution → SlipGrounds
grounds_at n w x = record {
  number = n;
  operation = row_of x.op;
  found = if n == 0 then None else slip w (asker x.who) n;
  count = slip_count (asker x.who) w.slips;
}

abbrev taken_at : ℕ → Execution → List ℕ → WorldLists → WorldLists
taken_at n x bytes w = if n == 0 then w else written (write.Slip (record { user = asker x.who; number = n; operation = row_of x.op; reply = bytes })) w

abbrev plain : Execution → Execution
plain x = record x { who = record x.who { slip = 0 } }

-- ---- a request that stays

-- it is judged, and leaves and is replied, as it is without its slip where there are none
pub record IsSameStep (w : WorldLists) (q : Request) : Type 0 where
  pub made : repeated w q ≡ None
  pub made_there : repeated (without_slips w) (without_slip q) ≡ None
  pub first : first w q ≡ first (without_slips w) (without_slip q)
  pub effect : without_slips (effect w q) ≡ effect (without_slips w) (without_slip q)
  pub text : reply_text w q ≡ reply_text (without_slips w) (without_slip q)

-- a slip that is taken is put aside
taken_aside : (b : Bool) (row : SlipRow) (w : WorldLists) → without_slips (if b then w else written (write.Slip row) w) ≡ without_slips w
taken_aside true row w = refl
taken_aside false row w = refl

stays_operation : (w : WorldLists) (x : Execution) → is_out w x ≡ false → IsSameStep w (executes x)
stays_operation w x is =
    let g = slip_grounds w x in
    let parts = neither g.found (has_no_room g) is in
    let same = execution_beside [] w x in
    let none = none_named (takes_slip (procedure_of x.op)) in
    let v = without_slips w in
    let there : slip_grounds v (plain x) ≡ grounds_at 0 v (plain x) = ap (λ n. grounds_at n v (plain x)) none in
    let here : first w (executes x) ≡ first_by false false (execution_meaning w x).denies =
    ap (λ b. first_by b (has_no_room g) (execution_meaning w x).denies) (not_another g parts.0) ∙ ap (λ b. first_by false b (execution_meaning w x).denies) parts.1 in
    let other : first v (executes (plain x)) ≡ first_by false false (execution_meaning v x).denies =
    ap (λ h. first_by (is_of_another h) (has_no_room h) (execution_meaning v x).denies) there in
    let left : taken_by (plain x) (execution_meaning v x).reply.bytes (execution_meaning v x).effect ≡ (execution_meaning v x).effect =
    ap (λ n. taken_at n x (execution_meaning v x).reply.bytes (execution_meaning v x).effect) none in
    record {
      made = no_repeat (is_identified (grounds w x).standing (grounds w x).session) g parts.0;
      made_there = no_repeat (is_identified (grounds v x).standing (grounds v x).session) (slip_grounds v (plain x)) (ap (λ h. h.found) there);
      first = here ∙ ap (first_by false false) (sym same.denies) ∙ sym other;
      effect = taken_aside (slip_named x == 0) _ (execution_meaning w x).effect ∙ sym same.effect ∙ sym left;
      text = sym same.reply;
    }

stays_asked : (w : WorldLists) (a : Asked) (who : Who) (moment : ℕ) → asked_out a who moment w ≡ false → IsSameStep w (record { who = who; moment = moment; asked = a })
stays_asked w (asked.Operation op) who moment is = stays_operation w (record { who = who; moment = moment; op = op }) is
stays_asked w asked.Opening who moment is = record { made = refl; made_there = refl; first = refl; effect = refl; text = refl }
stays_asked w asked.Ending who moment is = record { made = refl; made_there = refl; first = refl; effect = refl; text = refl }
stays_asked w (asked.Command command) who moment is = record { made = refl; made_there = refl; first = refl; effect = sym (command_beside [] w command (asker who)); text = refl }
stays_asked w asked.Listing who moment is = record { made = refl; made_there = refl; first = refl; effect = refl; text = refl }

pub stays : (w : WorldLists) (q : Request) → is_taken_out w q ≡ false → IsSameStep w q
stays w q is = stays_asked w q.asked q.who q.moment is

allowed_aside : (f : Option Rule) (e w : WorldLists) → without_slips (if_allowed f e w) ≡ if_allowed f (without_slips e) (without_slips w)
allowed_aside None e w = refl
allowed_aside (Some r) e w = refl

same_step : (w : WorldLists) (q : Request) → IsSameStep w q → without_slips (step w q) ≡ step (without_slips w) (without_slip q)
same_step w q s =
    let v = without_slips w in
    let p = without_slip q in
    ap (λ r. without_slips (unless_repeated r (if_allowed (first w q) (effect w q) w) w)) s.made
    ∙ allowed_aside (first w q) (effect w q) w
    ∙ ap (λ e. if_allowed (first w q) e v) s.effect
    ∙ ap (λ f. if_allowed f (effect v p) v) s.first
    ∙ sym (ap (λ r. unless_repeated r (if_allowed (first v p) (effect v p) v) v) s.made_there)

pub same_after : (w : WorldLists) (m : Marked) → is_taken_out w m.request ≡ false → without_slips (after_request w m) ≡ after_request (without_slips w) (marked_without_slip m)
same_after w m is = go m.mark
  where
    go : (mark : Option Fault) → without_slips (after_mark mark (step w m.request) w) ≡ after_mark mark (step (without_slips w) (without_slip m.request)) (without_slips w)
    go None = same_step w m.request (stays w m.request is)
    go (Some f) = refl

pub same_reply : (w : WorldLists) (q : Request) → IsSameStep w q → reply w q ≡ reply (without_slips w) (without_slip q)
same_reply w q s =
    let v = without_slips w in
    let p = without_slip q in
    ap (λ r. repeated_reply r (stated (first w q) (reply_text w q))) s.made
    ∙ ap (λ t. stated (first w q) t) s.text
    ∙ ap (λ f. stated f (reply_text v p)) s.first
    ∙ sym (ap (λ r. repeated_reply r (stated (first v p) (reply_text v p))) s.made_there)

pub same_acceptance : (w : WorldLists) (m : Marked) → IsSameStep w m.request → is_accepted w m ≡ is_accepted (without_slips w) (marked_without_slip m)
same_acceptance w m s =
    let v = without_slips w in
    let p = without_slip m.request in
    ap (λ r. is_none m.mark && (is_none r && is_none (first w m.request))) s.made
    ∙ ap (λ f. is_none m.mark && is_none f) s.first
    ∙ sym (ap (λ r. is_none m.mark && (is_none r && is_none (first v p))) s.made_there)

-- ---- a request that is taken out

is_full : Has rule.Full rules
is_full = inr (inr (inr (inr (inr (inr (inr (inr (inr (inr (inr (inr (inr (inr (inr (inr (inl refl))))))))))))))))

-- where the slip has no room, rule Full denies
full_denies : (another : Bool) (d : Rule → Bool) → first_by another true d ≡ None → ⊥
full_denies another d is =
    let no : true ≡ false = none (by_slip another true d) rules rule.Full is_full is in
    cc

slip_denied : (full : Bool) (d : Rule → Bool) → first_by true full d ≡ None → ⊥
slip_denied full d is =
    let no : true ≡ false = none (by_slip true full d) rules rule.Slip (inr (inl refl)) is in
    cc

pub identity_denied : (another full : Bool) (d : Rule → Bool) → d rule.Identity ≡ true → first_by another full d ≡ None → ⊥
identity_denied another full d denied is =
    let no = sym denied ∙ none (by_slip another full d) rules rule.Identity (inl refl) is in
    cc

-- either it is a repeat, or some rule denies it
abbrev NotMade : WorldLists → Request → Type 0
NotMade w q = repeated w q ≡ None → first w q ≡ None → ⊥

-- a slip that is found is one of this operation, or of another; who repeats it is known, or not
found_denies : (same known full : Bool) (bytes : List ℕ) (d : Rule → Bool) → d rule.Identity ≡ not known → (if known then (if same then Some bytes else None) else None) ≡ None
    → first_by (not same) full d ≡ None → ⊥
found_denies false known full bytes d identity no_repeat is = slip_denied full d is
found_denies true true full bytes d identity no_repeat is = absurd cc
found_denies true false full bytes d identity no_repeat is = identity_denied false full d identity is

out_denies : (o : Option SlipRow) (g : SlipGrounds) (known : Bool) (d : Rule → Bool) → (is_some o || has_no_room (record g { found = o })) ≡ true → d rule.Identity ≡ not known
    → (if known then kept_reply (record g { found = o }) else None) ≡ None → first_by (is_of_another (record g { found = o })) (has_no_room (record g { found = o })) d ≡ None → ⊥
out_denies None g known d out identity no_repeat is = full_denies false d (subst (λ b. first_by false b d ≡ None) out is)
out_denies (Some s) g known d out identity no_repeat is =
    found_denies (is_same_operation s.operation g.operation) known (has_no_room (record g { found = Some s })) s.reply d identity no_repeat is

pub out_operation : (w : WorldLists) (x : Execution) → is_out w x ≡ true → NotMade w (executes x)
out_operation w x out no_repeat is =
    out_denies (slip_grounds w x).found (slip_grounds w x) (is_identified (grounds w x).standing (grounds w x).session) (execution_meaning w x).denies out refl no_repeat is

out_asked : (w : WorldLists) (a : Asked) (who : Who) (moment : ℕ) → asked_out a who moment w ≡ true → NotMade w (record { who = who; moment = moment; asked = a })
out_asked w (asked.Operation op) who moment out = out_operation w (record { who = who; moment = moment; op = op }) out
out_asked w asked.Opening who moment out = absurd cc
out_asked w asked.Ending who moment out = absurd cc
out_asked w (asked.Command command) who moment out = absurd cc
out_asked w asked.Listing who moment out = absurd cc

-- so it leaves the World as it was
left_alone : (r : Option (List ℕ)) (f : Option Rule) (e w : WorldLists) → (r ≡ None → f ≡ None → ⊥) → unless_repeated r (if_allowed f e w) w ≡ w
left_alone (Some bytes) f e w either = refl
left_alone None (Some r) e w either = refl
left_alone None None e w either = absurd (either refl refl)

pub out_after : (w : WorldLists) (m : Marked) → is_taken_out w m.request ≡ true → after_request w m ≡ w
out_after w m out = go m.mark
  where
    go : (mark : Option Fault) → after_mark mark (step w m.request) w ≡ w
    go None = left_alone (repeated w m.request) (first w m.request) (effect w m.request) w (out_asked w m.request.asked m.request.who m.request.moment out)
    go (Some f) = refl

-- and is not accepted
not_made : (b : Bool) (r : Option (List ℕ)) (f : Option Rule) → (r ≡ None → f ≡ None → ⊥) → (b && (is_none r && is_none f)) ≡ false
not_made false r f either = refl
not_made true (Some bytes) f either = refl
not_made true None (Some r) either = refl
not_made true None None either = absurd (either refl refl)

pub out_refused : (w : WorldLists) (m : Marked) → is_taken_out w m.request ≡ true → is_accepted w m ≡ false
out_refused w m out = not_made (is_none m.mark) (repeated w m.request) (first w m.request) (out_asked w m.request.asked m.request.who m.request.moment out)
