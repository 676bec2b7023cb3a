-- The rows that say what was asked, and bear who asked, when and on which day, are one list: two such rows differ in nothing.
use Rattle.std.proofs.Common.{◌≡◌, ℕ, ◌+◌, ℤ, List, [], ◌∷◌, ap, ap₂, sym, subst, ◌∙◌}
use Rattle.std.specs.Prelude.{Bool}
use Rattle.std.specs.List.{AllByRecursion}
use Rattle.std.proofs.lemmas.Option.{same_Some}
use Rattle.bank_terms.specs.declared.operation_row.OperationRow.{OperationRow}
use Rattle.bank_books.specs.Balances.{entry_count}
use Rattle.bank_books.specs.WorldLists.{WorldLists}
use Rattle.bank_books.specs.declared.row_write.RowWrite.{RowWrite}
use Rattle.bank_books.specs.declared.row_write.RowWrite.TheVariants as write
use Rattle.bank_books.specs.declared.rows.CashLine.{CashLine}
use Rattle.bank_books.specs.declared.rows.Entry.{Entry}
use Rattle.bank_books.specs.declared.rows.EntryForm.{EntryForm}
use Rattle.bank_books.specs.declared.rows.EntryForm.TheVariants as entry_form
use Rattle.bank_books.specs.declared.rows.Proof.{Proof}
use Rattle.bank_books.specs.declared.rows.Release.{Release as ReleaseRow}
use Rattle.counter_ops.specs.declared.close_day.CloseDay.{CloseDay}
use Rattle.counter_ops.specs.declared.correct.Correct.{Correct}
use Rattle.counter_ops.specs.declared.drawer_off.DrawerOff.{DrawerOff}
use Rattle.counter_ops.specs.declared.op.Op.{Op}
use Rattle.counter_ops.specs.declared.op.Op.TheVariants as op
use Rattle.counter_ops.specs.declared.release.Release.{Release}
use Rattle.bank_meaning.specs.AskedRows.{Bears, EntrySays, LineSays, entry_says, line_says, today}
use Rattle.bank_meaning.specs.CloseDay.{AreCloseDayAsked, IsProofOf}
use Rattle.bank_meaning.specs.Correct.{AreCorrectAsked, AreUndoing, undoing_says}
use Rattle.bank_meaning.specs.DrawerOff.{AreDrawerOffAsked}
use Rattle.bank_meaning.specs.Operations.{form_of}
use Rattle.bank_meaning.specs.Release.{AreReleaseAsked, IsReleaseOf}

module _ (w : WorldLists) (user moment : ℕ) where
  abbrev Bear : RowWrite → Type 0
  Bear row = Bears w user moment row

  -- ---- rows

  abbrev entry_of : EntrySays → ℕ → ℕ → ℕ → Entry
  entry_of s at day by = record {
    branch = s.branch;
    number = s.number;
    account = s.account;
    turn = s.turn;
    teller = s.teller;
    delta = s.delta;
    moment = at;
    day = day;
    user = by;
    form = s.form;
    partner = s.partner;
    undoes = s.undoes;
  }

  same_entry : (e f : Entry) → entry_says e ≡ entry_says f → Bear (write.Entry e) → Bear (write.Entry f) → e ≡ f
  same_entry e f says here there =
      let day : e.day ≡ f.day = same_Some _ _ (sym here.2 ∙ ap (λ (s : EntrySays). today w s.branch) says ∙ there.2) in
      ap (λ s. entry_of s e.moment e.day e.user) says
      ∙ ap (λ at. entry_of (entry_says f) at e.day e.user) (here.1 ∙ sym there.1)
      ∙ ap (λ d. entry_of (entry_says f) f.moment d e.user) day
      ∙ ap (λ by. entry_of (entry_says f) f.moment f.day by) (here.0 ∙ sym there.0)

  abbrev line_of : LineSays → ℕ → ℕ → ℕ → CashLine
  line_of s at day by = record { branch = s.branch; number = s.number; place = s.place; amount = s.amount; form = s.form; moment = at; day = day; user = by }

  same_line : (l m : CashLine) → line_says l ≡ line_says m → Bear (write.Line l) → Bear (write.Line m) → l ≡ m
  same_line l m says here there =
      let day : l.day ≡ m.day = same_Some _ _ (sym here.2 ∙ ap (λ (s : LineSays). today w s.branch) says ∙ there.2) in
      ap (λ s. line_of s l.moment l.day l.user) says
      ∙ ap (λ at. line_of (line_says m) at l.day l.user) (here.1 ∙ sym there.1)
      ∙ ap (λ d. line_of (line_says m) m.moment d l.user) day
      ∙ ap (λ by. line_of (line_says m) m.moment m.day by) (here.0 ∙ sym there.0)

  abbrev release_of : ℕ → ℕ → ℕ → ℕ → ℕ → OperationRow → Bool → ReleaseRow
  release_of by number giver branch day operation used = record { user = by; number = number; giver = giver; branch = branch; day = day; operation = operation; used = used }

  same_release : (form : Release) (r s : ReleaseRow) → IsReleaseOf w form r → IsReleaseOf w form s → Bear (write.Release r) → Bear (write.Release s) → r ≡ s
  same_release form r s this that here there =
      let branch = this.branch ∙ sym that.branch in
      let day : r.day ≡ s.day = same_Some _ _ (sym here.2 ∙ ap (today w) branch ∙ there.2) in
      ap (λ x. release_of x r.number r.giver r.branch r.day r.operation r.used) (this.user ∙ sym that.user)
      ∙ ap (λ x. release_of s.user x r.giver r.branch r.day r.operation r.used) (this.number ∙ sym that.number)
      ∙ ap (λ x. release_of s.user s.number x r.branch r.day r.operation r.used) (here.0 ∙ sym there.0)
      ∙ ap (λ x. release_of s.user s.number s.giver x r.day r.operation r.used) branch
      ∙ ap (λ x. release_of s.user s.number s.giver s.branch x r.operation r.used) day
      ∙ ap (λ x. release_of s.user s.number s.giver s.branch s.day x r.used) (this.operation ∙ sym that.operation)
      ∙ ap (λ x. release_of s.user s.number s.giver s.branch s.day s.operation x) (this.unused ∙ sym that.unused)

  abbrev proof_of : ℕ → ℕ → ℕ → ℤ → ℤ → Proof
  proof_of branch day entries balance cash = record { branch = branch; day = day; entries = entries; balance = balance; cash = cash }

  same_proof : (form : CloseDay) (p q : Proof) → IsProofOf w form p → IsProofOf w form q → Bear (write.Proof p) → Bear (write.Proof q) → p ≡ q
  same_proof form p q this that here there =
      let branch = this.branch ∙ sym that.branch in
      let day : p.day ≡ q.day = same_Some _ _ (sym here ∙ ap (today w) branch ∙ there) in
      ap (λ x. proof_of x p.day p.entries p.balance p.cash) branch
      ∙ ap (λ x. proof_of q.branch x p.entries p.balance p.cash) day
      ∙ ap (λ x. proof_of q.branch q.day x p.balance p.cash) (this.entries ∙ sym that.entries)
      ∙ ap (λ x. proof_of q.branch q.day q.entries x p.cash) (this.balance ∙ sym that.balance)
      ∙ ap (λ x. proof_of q.branch q.day q.entries q.balance x) (this.cash ∙ sym that.cash)

  -- ---- two lists, form by form

  abbrev All : List RowWrite → Type 0
  All rows = AllByRecursion Bear rows

  -- the first row and the second of a list of two, which bear all that
  first_bears : (rows : List RowWrite) (a : RowWrite) (more : List RowWrite) → rows ≡ a ∷ more → All rows → All (a ∷ more)
  first_bears rows a more is bear = subst All is bear

  entry_and_line : (rows other : List RowWrite) (e f : Entry) (l m : CashLine) → rows ≡ write.Entry e ∷ write.Line l ∷ [] → other ≡ write.Entry f ∷ write.Line m ∷ []
      → entry_says e ≡ entry_says f → line_says l ≡ line_says m → All rows → All other → rows ≡ other
  entry_and_line rows other e f l m is at says also here there =
      let a = first_bears rows (write.Entry e) (write.Line l ∷ []) is here in
      let b = first_bears other (write.Entry f) (write.Line m ∷ []) at there in
      is ∙ ap₂ (λ x y. write.Entry x ∷ write.Line y ∷ []) (same_entry e f says a.0 b.0) (same_line l m also a.1.0 b.1.0) ∙ sym at

  two_entries : (rows other : List RowWrite) (e f l m : Entry) → rows ≡ write.Entry e ∷ write.Entry l ∷ [] → other ≡ write.Entry f ∷ write.Entry m ∷ []
      → entry_says e ≡ entry_says f → entry_says l ≡ entry_says m → All rows → All other → rows ≡ other
  two_entries rows other e f l m is at says also here there =
      let a = first_bears rows (write.Entry e) (write.Entry l ∷ []) is here in
      let b = first_bears other (write.Entry f) (write.Entry m ∷ []) at there in
      is ∙ ap₂ (λ x y. write.Entry x ∷ write.Entry y ∷ []) (same_entry e f says a.0 b.0) (same_entry l m also a.1.0 b.1.0) ∙ sym at

  two_lines : (rows other : List RowWrite) (e f l m : CashLine) → rows ≡ write.Line e ∷ write.Line l ∷ [] → other ≡ write.Line f ∷ write.Line m ∷ []
      → line_says e ≡ line_says f → line_says l ≡ line_says m → All rows → All other → rows ≡ other
  two_lines rows other e f l m is at says also here there =
      let a = first_bears rows (write.Line e) (write.Line l ∷ []) is here in
      let b = first_bears other (write.Line f) (write.Line m ∷ []) at there in
      is ∙ ap₂ (λ x y. write.Line x ∷ write.Line y ∷ []) (same_line e f says a.0 b.0) (same_line l m also a.1.0 b.1.0) ∙ sym at

  undoing_alike : (c : Correct) (named : Entry) (form : EntryForm) (rows other : List RowWrite) → AreUndoing w c named form rows → AreUndoing w c named form other → All rows → All other → rows ≡ other
  undoing_alike c named entry_form.Post rows other (e, l, is, says, also) (f, m, at, said, too) here there =
      entry_and_line rows other e f l m is at (says ∙ sym said) (also ∙ sym too) here there
  undoing_alike c named entry_form.TransferLeg rows other (e, l, leg, is, says, found, also) (f, m, legs, at, said, at_last, too) here there =
      let same = same_Some leg legs (sym found ∙ at_last) in
      two_entries rows other e f l m is at (says ∙ sym said) (also ∙ ap other_says same ∙ sym too) here there
    where
      other_says : Entry → EntrySays
      other_says x = undoing_says w c x.account named.delta (entry_count c.branch w.entries + 2) (entry_count c.branch w.entries + 1) named.partner
  undoing_alike c named entry_form.Correction rows other this that here there = absurd this

  correct_alike : (c : Correct) (rows other : List RowWrite) → AreCorrectAsked w c rows → AreCorrectAsked w c other → All rows → All other → rows ≡ other
  correct_alike c rows other (named, found, this) (known, at, that) here there =
      let same = same_Some named known (sym found ∙ at) in
      undoing_alike c named named.form rows other this (subst (λ (n : Entry). AreUndoing w c n n.form other) (sym same) that) here there

  drawer_off_alike : (form : DrawerOff) (rows other : List RowWrite) → AreDrawerOffAsked w form rows → AreDrawerOffAsked w form other → All rows → All other → rows ≡ other
  drawer_off_alike form rows other (e, l, g, is, says, also, last) (f, m, h, at, said, too, end) here there =
      let a = first_bears rows (write.Line e) (write.Line l ∷ write.Line g ∷ []) is here in
      let b = first_bears other (write.Line f) (write.Line m ∷ write.Line h ∷ []) at there in
      is
      ∙ ap₂ (λ x ys. write.Line x ∷ ys) (same_line e f (says ∙ sym said) a.0 b.0)
      (ap₂ (λ x y. write.Line x ∷ write.Line y ∷ []) (same_line l m (also ∙ sym too) a.1.0 b.1.0) (same_line g h (last ∙ sym end) a.1.1.0 b.1.1.0))
      ∙ sym at

  release_alike : (form : Release) (rows other : List RowWrite) → AreReleaseAsked w form rows → AreReleaseAsked w form other → All rows → All other → rows ≡ other
  release_alike form rows other (r, is, this) (s, at, that) here there =
      let a = first_bears rows (write.Release r) [] is here in
      let b = first_bears other (write.Release s) [] at there in
      is ∙ ap (λ x. write.Release x ∷ []) (same_release form r s this that a.0 b.0) ∙ sym at

  close_day_alike : (form : CloseDay) (rows other : List RowWrite) → AreCloseDayAsked w form rows → AreCloseDayAsked w form other → All rows → All other → rows ≡ other
  close_day_alike form rows other (p, d, is, this, next) (q, e, at, that, after) here there =
      let a = first_bears rows (write.Proof p) (write.Day (record { branch = form.branch; day = d }) ∷ []) is here in
      let b = first_bears other (write.Proof q) (write.Day (record { branch = form.branch; day = e }) ∷ []) at there in
      is ∙ ap₂ (λ x n. write.Proof x ∷ write.Day (record { branch = form.branch; day = n }) ∷ []) (same_proof form p q this that a.0 b.0) (same_Some d e (sym next ∙ after)) ∙ sym at

  -- ---- and of each operation

  pub rows_alike : (o : Op) (rows other : List RowWrite) → (form_of o).AreAsked w rows → (form_of o).AreAsked w other → AllByRecursion (Bears w user moment) rows → AllByRecursion (Bears w user moment) other → rows ≡ other
  rows_alike (op.Post form) rows other (e, l, is, says, also) (f, m, at, said, too) here there = entry_and_line rows other e f l m is at (says ∙ sym said) (also ∙ sym too) here there
  rows_alike (op.Transfer form) rows other (e, l, is, says, also) (f, m, at, said, too) here there = two_entries rows other e f l m is at (says ∙ sym said) (also ∙ sym too) here there
  rows_alike (op.Correct form) rows other this that here there = correct_alike form rows other this that here there
  rows_alike (op.DrawerOn form) rows other (e, l, is, says, also) (f, m, at, said, too) here there = two_lines rows other e f l m is at (says ∙ sym said) (also ∙ sym too) here there
  rows_alike (op.DrawerOff form) rows other this that here there = drawer_off_alike form rows other this that here there
  rows_alike (op.MoveCash form) rows other (e, l, is, says, also) (f, m, at, said, too) here there = two_lines rows other e f l m is at (says ∙ sym said) (also ∙ sym too) here there
  rows_alike (op.NewAccount form) rows other this that here there = this ∙ sym that
  rows_alike (op.Release form) rows other this that here there = release_alike form rows other this that here there
  rows_alike (op.Balance form) rows other this that here there = this ∙ sym that
  rows_alike (op.Statement form) rows other this that here there = this ∙ sym that
  rows_alike (op.Accounts form) rows other this that here there = this ∙ sym that
  rows_alike (op.Proof form) rows other this that here there = this ∙ sym that
  rows_alike (op.CloseDay form) rows other this that here there = close_day_alike form rows other this that here there
