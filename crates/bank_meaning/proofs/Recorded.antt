-- What is carried out adds the rows that were asked for, and no others: those of its form, beside the release that lets it be and its slip.
use Rattle.std.proofs.Common.{◌≡◌, ◌≢◌, ℕ, ◌^◌, ◌<◌, ◌≤◌, ◌==◌, ◌&&◌, Bool, true, false, Option, Some, None, List, Contains, ◌⊎◌, inl, inr, refl, ap, arith, sym, subst, ◌∙◌}
use Rattle.std.specs.Prelude.{is_none, if◌then◌else◌}
use Rattle.std.proofs.lemmas.Bool.{and_parts, eqb-true, ne_eqb}
use Rattle.bank_terms.specs.Limits.{max_releases}
use Rattle.bank_terms.specs.Procedure.{takes_slip}
use Rattle.bank_terms.specs.declared.rule.Rule.{Rule}
use Rattle.bank_books.specs.Effects.{all_written, used_up, written}
use Rattle.bank_books.specs.Keys.{release_key, release_number, slip_key}
use Rattle.bank_books.specs.Range.{HasDistinctKeys}
use Rattle.bank_books.specs.SlipRow.{SlipRow}
use Rattle.bank_books.specs.WorldLists.{WorldLists}
use Rattle.bank_books.specs.declared.row_write.RowWrite.{RowWrite}
use Rattle.bank_books.specs.declared.row_write.RowWrite.TheVariants as write
use Rattle.bank_books.specs.declared.rows.Release.{Release}
use Rattle.book_laws.proofs.ChangedRows.{each_changed}
use Rattle.counter_ops.specs.Op.{procedure_of}
use Rattle.keyed_rows.proofs.DistinctKeys.{key_parts}
use Rattle.keyed_rows.proofs.Rows.{Contains-add_row_cases, Contains-map, find-found}
use Rattle.world_reads.specs.BookReads.{is_release}
use Rattle.bank_meaning.specs.AskedRows.{Bears}
use Rattle.bank_meaning.specs.Executions.{books_meaning, execution_meaning, signature_of}
use Rattle.bank_meaning.specs.Form.{changed_by}
use Rattle.bank_meaning.specs.Laws.{InLimitOrReleased}
use Rattle.bank_meaning.specs.Operations.{form_of, moves_of}
use Rattle.bank_meaning.specs.PolicyRules.{asker, grounds, is_in_limit, leave_of, used_by}
use Rattle.bank_meaning.specs.Recorded.{IsIn, IsTaken, IsUsedUp, RowsAreAsked, RowsSayWhatWasAsked}
use Rattle.bank_meaning.specs.Requests.{effect, executes, first, repeated, reply_text}
use Rattle.bank_meaning.specs.Run.{if_allowed, unless_repeated}
use Rattle.bank_meaning.specs.Slips.{slip_named, slip_of, taken_by}
use Rattle.bank_meaning.specs.Sums.{IsProper, PassesChecks}
use Rattle.bank_meaning.specs.declared.execution.Execution.{Execution}
use Rattle.bank_meaning.specs.declared.leave.Authorization.TheVariants as leave
use Rattle.bank_meaning.proofs.AddedRows.{adds_no_more, each_is_new, each_of}
use Rattle.bank_meaning.proofs.AllowedRequest.{allowed_by_books, allowed_user}
use Rattle.bank_meaning.proofs.BookChanges.{all_applied, policy_kept}
use Rattle.bank_meaning.proofs.BooksJudged.{books_are_judged}
use Rattle.bank_meaning.proofs.Forms.{law_of}
use Rattle.bank_meaning.proofs.RepliedRows.{still_replied}
use Rattle.bank_meaning.proofs.Steps.{IsStep}
use Rattle.bank_meaning.proofs.JudgedPolicy.{allowed_exactly_when_held, leave_in_limit}

-- ---- by the books alone

by_books : (w : WorldLists) (x : Execution) → PassesChecks w → IsProper (executes x) → IsStep w (books_meaning w x).effect (moves_of x.op) → first w (executes x) ≡ None → RowsAreAsked w (books_meaning w x).effect x
by_books w x checks proper step is =
    let keys = step.checks.books.in_range.keys in
    let by = signature_of x in
    let law = law_of x.op in
    let changes = changed_by (form_of x.op) by w in
    let alone = law.books_alone ((form_of x.op).rows by w) by in
    let are = law.asked by w (books_are_judged w x is) in
    let all = adds_no_more changes w alone.each in
    let kept = policy_kept changes w alone in
    let effect : (books_meaning w x).effect ≡ all_written changes w = ap (λ m. m.effect) (law.said by w) ∙ all_applied changes w alone in
    let policy : (all_written changes w).policy ≡ w.policy = ap (λ v. v.policy) (sym (all_applied changes w alone)) ∙ kept.policy in
    subst (λ after. RowsAreAsked w after x) (sym effect) (record {
      rows = changes;
      asked = are.asked;
      new = λ row there.
          let is_new = each_is_new changes w alone.each are.days (subst HasDistinctKeys effect keys) row there in
          record { there = is_new.0; before = is_new.1; bears = each_of (Bears w by.user by.moment) changes are.bear row there };
      branches = all.branches;
      tellers = all.tellers;
      accounts = all.accounts;
      entries = all.entries;
      lines = all.lines;
      proofs = all.proofs;
      releases = λ r there. elim (all.releases r there) [ inl was ↦ inl was | inr new ↦ inr (inr new) ];
      slips = λ s there. inl (subst (λ rows. Contains rows s) all.slips there);
      policy = policy;
      replied = subst (λ after. (form_of x.op).IsReplied by w after changes (books_meaning w x).reply) effect (law.replied by w checks proper.asked (books_are_judged w x is) step);
    })

-- ---- with the release that lets it be

small : (n : ℕ) → n ≤ max_releases → n < 2 ^ 32
small n is = omega arith

-- each release of books that hold has a number in its range
in_range : (after : WorldLists) → PassesChecks after → (r : Release) → Contains after.releases r → r.number < 2 ^ 32
in_range after checks r there = small r.number (checks.books.in_range.releases r there).number.1

-- the release that is used up is none of somebody else's
not_used : (w after : WorldLists) (x : Execution) (row : RowWrite) → PassesChecks after → x.who.release < 2 ^ 32 → Bears w (asker x.who) x.moment row → IsIn after row
    → IsIn (used_by (leave.Release x.who.release) (asker x.who) after) row
not_used w after x (write.Release r) checks named bears there =
    let k = release_number (asker x.who) x.who.release in
    let other : release_key r ≢ k = λ same. bears.1 (key_parts r.user r.number (asker x.who) x.who.release (in_range after checks r there) named same).0 in
    subst (λ b. Contains (used_by (leave.Release x.who.release) (asker x.who) after).releases (if b then used_up r else r)) (ne_eqb (release_key r) k other)
    (Contains-map (λ row. if release_key row == k then used_up row else row) after.releases r there)
not_used w after x _ checks named bears there = there

used : (w after : WorldLists) (x : Execution) → PassesChecks after → x.who.release < 2 ^ 32 → RowsAreAsked w after x → RowsAreAsked w (used_by (leave.Release x.who.release) (asker x.who) after) x
used w after x checks named asked = record {
  rows = asked.rows;
  asked = asked.asked;
  new = λ row among. let is = asked.new row among in record { there = not_used w after x row checks named is.bears is.there; before = is.before; bears = is.bears };
  branches = asked.branches;
  tellers = asked.tellers;
  accounts = asked.accounts;
  entries = asked.entries;
  lines = asked.lines;
  proofs = asked.proofs;
  releases =
      each_changed release_key (release_number (asker x.who) x.who.release) used_up after.releases
      (λ r. Contains w.releases r ⊎ (IsUsedUp w x r ⊎ Contains asked.rows (write.Release r)))
      (λ r there at. of_key r (asked.releases r there) (key_parts r.user r.number (asker x.who) x.who.release (in_range after checks r there) named (eqb-true _ _ at))) (λ r there other. asked.releases r there);
  slips = asked.slips;
  policy = asked.policy;
  replied = still_replied after (used_by (leave.Release x.who.release) (asker x.who) after).releases after.slips asked.rows (reply_text w (executes x)) x.op (signature_of x) w asked.replied;
}
  where
    of_key : (r : Release) → Contains w.releases r ⊎ (IsUsedUp w x r ⊎ Contains asked.rows (write.Release r)) → (r.user ≡ asker x.who) × (r.number ≡ x.who.release)
        → Contains w.releases (used_up r) ⊎ (IsUsedUp w x (used_up r) ⊎ Contains asked.rows (write.Release (used_up r)))
    of_key r (inl was) parts = inr (inl (record { before = r; there = was; user = parts.0; number = parts.1; same = refl }))
    of_key r (inr (inl before)) parts = inr (inl (record { before = before.before; there = before.there; user = before.user; number = before.number; same = ap used_up before.same }))
    of_key r (inr (inr new)) parts = absurd ((asked.new (write.Release r) new).bears.1 parts.0)

left : (w after : WorldLists) (x : Execution) → PassesChecks w → PassesChecks after → first w (executes x) ≡ None → RowsAreAsked w after x
    → RowsAreAsked w (used_by (leave_of (grounds w x)) (asker x.who) after) x
left w after x checks also is asked = by_leave ((allowed_exactly_when_held w x).0 is).2
  where
    either : (b : Bool) → x.who.release < 2 ^ 32 → RowsAreAsked w (used_by (if b then leave.Triple else leave.Release x.who.release) (asker x.who) after) x
    either true named = asked
    either false named = used w after x also named asked

    by_leave : InLimitOrReleased w x → RowsAreAsked w (used_by (leave_of (grounds w x)) (asker x.who) after) x
    by_leave (inl in_limit) = subst (λ l. RowsAreAsked w (used_by l (asker x.who) after) x) (sym (leave_in_limit w x in_limit)) asked
    by_leave (inr released) =
        let row : Release = released.1.counts.row in
        let found = find-found (is_release (asker x.who) x.who.release) w.releases row released.1.counts.there in
        let number = eqb-true row.number x.who.release (and_parts (row.user == asker x.who) (row.number == x.who.release) found.1).1 in
        either (is_in_limit (grounds w x)) (subst (λ n. n < 2 ^ 32) number (in_range w checks row found.0))

-- ---- with its slip

named_slip : (b : Bool) (n : ℕ) → ((if b then n else 0) == 0) ≡ false → (if b then n else 0) ≡ n
named_slip true n some = refl
named_slip false n some = absurd cc

beside_slip : (after : WorldLists) (s : SlipRow) (row : RowWrite) → IsIn after row → IsIn (written (write.Slip s) after) row
beside_slip after s (write.Account a) there = there
beside_slip after s _ there = there

taken : (w after : WorldLists) (x : Execution) → RowsAreAsked w after x → RowsAreAsked w (taken_by x (execution_meaning w x).reply.bytes after) x
taken w after x asked = go (slip_named x == 0) refl
  where
    row : SlipRow
    row = slip_of x (execution_meaning w x).reply.bytes

    new : (slip_named x == 0) ≡ false → (s : SlipRow) → Contains (written (write.Slip row) after).slips s → Contains w.slips s ⊎ IsTaken w x s
    new some s there = elim (Contains-add_row_cases slip_key row after.slips s there) [
      | inl same ↦ inr (subst (IsTaken w x) same (record { user = refl; number = named_slip (takes_slip (procedure_of x.op)) x.who.slip some; operation = refl; reply = refl }))
      | inr was ↦ asked.slips s was
    ]

    go : (b : Bool) → (slip_named x == 0) ≡ b → RowsAreAsked w (if b then after else written (write.Slip row) after) x
    go true none = asked
    go false some = record {
      rows = asked.rows;
      asked = asked.asked;
      new = λ r among. let is = asked.new r among in record { there = beside_slip after row r is.there; before = is.before; bears = is.bears };
      branches = asked.branches;
      tellers = asked.tellers;
      accounts = asked.accounts;
      entries = asked.entries;
      lines = asked.lines;
      proofs = asked.proofs;
      releases = asked.releases;
      slips = new some;
      policy = asked.policy;
      replied = still_replied after after.releases (written (write.Slip row) after).slips asked.rows (reply_text w (executes x)) x.op (signature_of x) w asked.replied;
    }

-- ---- the law

allowed : (w : WorldLists) (x : Execution) → PassesChecks w → IsProper (executes x) → first w (executes x) ≡ None → RowsAreAsked w (effect w (executes x)) x
allowed w x checks proper is =
    let after = (books_meaning w x).effect in
    let step = (law_of x.op).steps (signature_of x) w checks proper.asked (record { user = allowed_user w x is; moment = proper.moment }) (allowed_by_books w x is) in
    taken w (used_by (leave_of (grounds w x)) (asker x.who) after) x (left w after x checks step.checks is (by_books w x checks proper step is))

pub rows_say_what_was_asked : RowsSayWhatWasAsked
rows_say_what_was_asked w x checks proper = record {
  accepted = accepted (repeated w (executes x)) (first w (executes x)) refl;
  not_accepted = not_accepted (repeated w (executes x)) (first w (executes x));
}
  where
    accepted : (kept : Option (List ℕ)) (r : Option Rule) → first w (executes x) ≡ r → (is_none kept && is_none r) ≡ true → RowsAreAsked w (unless_repeated kept (if_allowed r (effect w (executes x)) w) w) x
    accepted None None is so = allowed w x checks proper is
    accepted None (Some r) is so = absurd cc
    accepted (Some text) r is so = absurd cc

    not_accepted : (kept : Option (List ℕ)) (r : Option Rule) → (is_none kept && is_none r) ≡ false → unless_repeated kept (if_allowed r (effect w (executes x)) w) w ≡ w
    not_accepted None None so = absurd cc
    not_accepted None (Some r) so = refl
    not_accepted (Some text) r so = refl
