-- Which items a change comes to. It leaves all others alone, and changes those alike in two Worlds in which they are alike.
use Rattle.std.proofs.Common.{◌≡◌, ◌≢◌, ℕ, ◌+◌, ℤ, pos, ◌+ℤ◌, List, [], ◌∷◌, map, Bool, false, cond, refl, ap, ap₂, arith, sym, subst, ◌∙◌, ◌==◌, ◌&&◌, Option, Some, None, Contains, ◌⊎◌, inl, inr}
use Rattle.std.specs.Prelude.{if◌then◌else◌, option_map}
use Rattle.std.specs.List.{AllByRecursion, filter}
use Rattle.std.proofs.lemmas.Bool.{and_left, and_right, eqb-false, ne_eqb}
use Rattle.std.proofs.lemmas.Int.{ints}
use Rattle.keyed_rows.specs.Ordered.{add_row}
use Rattle.bank_terms.specs.declared.item.Cdi.{Cdi}
use Rattle.bank_terms.specs.declared.item.Kind.{Kind}
use Rattle.bank_terms.specs.declared.item.Kind.TheVariants as kind
use Rattle.bank_books.specs.Balances.{branch_row}
use Rattle.bank_books.specs.Cash.{holder_of, is_cash_entry, is_difference}
use Rattle.bank_books.specs.Effects.{all_written, on_day, written}
use Rattle.bank_books.specs.Keys.{branch_key, entry_key, line_key, proof_key}
use Rattle.bank_books.specs.Records.{teller_record_of}
use Rattle.bank_books.specs.WorldLists.{WorldLists}
use Rattle.bank_books.specs.declared.row_write.RowWrite.{RowWrite}
use Rattle.bank_books.specs.declared.row_write.RowWrite.TheVariants as write
use Rattle.bank_books.specs.declared.rows.Branch.{Branch}
use Rattle.bank_books.specs.declared.rows.CashLine.{CashLine}
use Rattle.bank_books.specs.declared.rows.Entry.{Entry}
use Rattle.bank_books.specs.declared.rows.Teller.{Teller}
use Rattle.book_laws.proofs.LastRow.{or_else}
use Rattle.keyed_rows.proofs.Rows.{Contains-head, Contains-tail, found_row}
use Rattle.world_reads.specs.BookReads.{is_teller_of}
use Rattle.counter_ops.specs.Touched.{account_item, branch_item, drawer_item, history_item, teller_item, vault_item}
use Rattle.bank_meaning.proofs.KeptOrder.{in_order_written}
use Rattle.bank_meaning.specs.Order.{IsInOrder}
use Rattle.two_worlds.specs.View.{RosterLine, roster_line_of, view_at, view_of}
use Rattle.two_worlds.proofs.Grown.{filter-add_row, grown, or_none}
use Rattle.two_worlds.proofs.Seen.{holder_passing}
use Rattle.two_worlds.proofs.Written.{IsHolderAfter, entered, lined, of_branch, same_tellers, view_after, view_is}

-- ---- the items of a change

-- the teller of this number, where there is one, is of this branch
abbrev pub IsOfBranch : List Teller → ℕ → ℕ → Type 0
IsOfBranch tellers teller branch = (t : Teller) → Contains tellers t → t.teller ≡ teller → t.branch ≡ branch

pub record IsEntryWithin (items : List Cdi) (tellers : List Teller) (e : Entry) : Type 0 where
  pub account : Contains items (account_item e.account)
  pub teller : Contains items (teller_item e.teller)
  pub branch : Contains items (branch_item e.branch)
  pub history : Contains items (history_item e.branch)
  pub of : IsOfBranch tellers e.teller e.branch

-- a line is at the vault of its branch, or at the drawer of a teller of it
pub record IsLineWithin (items : List Cdi) (tellers : List Teller) (l : CashLine) : Type 0 where
  pub branch : Contains items (branch_item l.branch)
  pub place : ((l.place ≡ 0) × Contains items (vault_item l.branch)) ⊎ ((l.place ≢ 0) × Contains items (drawer_item l.place) × IsOfBranch tellers l.place l.branch)

-- all that a change comes to is among the items, and it is none of the policy
abbrev pub IsWithin : List Cdi → List Teller → RowWrite → Type 0
IsWithin items tellers (write.Account a) = Contains items (account_item a.account) × Contains items (branch_item a.home)
IsWithin items tellers (write.Entry e) = IsEntryWithin items tellers e
IsWithin items tellers (write.Line l) = IsLineWithin items tellers l
IsWithin items tellers (write.Proof p) = Contains items (branch_item p.branch)
IsWithin items tellers (write.Day d) = Contains items (branch_item d.branch)
IsWithin items tellers (write.Release r) = Unit {0}
IsWithin items tellers (write.Used k) = Unit {0}
IsWithin items tellers (write.Slip s) = Unit {0}
IsWithin items tellers _ = ⊥

abbrev pub AreWithin : List Cdi → List Teller → List RowWrite → Type 0
AreWithin items tellers changes = AllByRecursion (IsWithin items tellers) changes

-- ---- what it leaves alone

-- no teller has the place of the vault
abbrev pub HaveDrawers : List Teller → Type 0
HaveDrawers tellers = (t : Teller) → Contains tellers t → t.teller ≢ 0

-- another item than one of these
apart : (items : List Cdi) (item : ℕ → Cdi) (one other : ℕ) → Contains items (item one) → ¬ Contains items (item other) → (one == other) ≡ false
apart items item one other there not = ne_eqb one other (λ same. not (subst (λ n. Contains items (item n)) same there))

no_more : (n : ℕ) → n + 0 ≡ n
no_more n = omega arith

plus_zero : (z : ℤ) → z +ℤ pos 0 ≡ z
plus_zero z = omega (arith, ints)

rows_stay : (w : WorldLists) (f : RosterLine → RosterLine) (ts : List Teller) → ((t : Teller) → Contains ts t → f (roster_line_of (teller_record_of w t)) ≡ roster_line_of (teller_record_of w t))
    → map f (map roster_line_of (map (teller_record_of w) ts)) ≡ map roster_line_of (map (teller_record_of w) ts)
rows_stay w f [] same = refl
rows_stay w f (t ∷ ts) same = ap₂ (λ r rs. r ∷ rs) (same t (Contains-head t ts)) (rows_stay w f ts (λ u there. same u (Contains-tail t ts u there)))

day_stays : (w : WorldLists) (day of key : ℕ) → (of == key) ≡ false → option_map (λ row. if row.branch == of then on_day day row else row) (branch_row key w.branches) ≡ branch_row key w.branches
day_stays w day of key other = go (branch_row key w.branches) refl
  where
    turned : (a b : ℕ) → (a == b) ≡ false → (b == a) ≡ false
    turned a b e = ne_eqb b a (λ same. eqb-false a b e (sym same))

    go : (o : Option Branch) → branch_row key w.branches ≡ o → option_map (λ row. if row.branch == of then on_day day row else row) o ≡ o
    go None is = refl
    go (Some row) is =
        ap (λ (b : Bool). Some (if b then on_day day row else row)) (ap (λ n. n == of) (found_row branch_key key w.branches row is).1 ∙ turned of key other)

module _ (items : List Cdi) (w : WorldLists) (holder : Option ℕ) (key : ℕ) (real : key ≢ 0) (drawers : HaveDrawers w.tellers) where
  entry_elsewhere : (e : Entry) → IsEntryWithin items w.tellers e → ¬ Contains items (branch_item key) → (t : Teller) → Contains (filter (is_teller_of key) w.tellers) t → (e.teller == t.teller) ≡ false
  entry_elsewhere e within not t there =
      let at = of_branch w key t there in
      ne_eqb e.teller t.teller (λ same. not (subst (λ n. Contains items (branch_item n)) (sym (within.of t at.0 (sym same)) ∙ at.1) within.branch))

  line_elsewhere : (l : CashLine) → IsLineWithin items w.tellers l → ¬ Contains items (branch_item key) → (t : Teller) → Contains (filter (is_teller_of key) w.tellers) t → (l.place == t.teller) ≡ false
  line_elsewhere l within not t there =
      let at = of_branch w key t there in
      ne_eqb l.place t.teller (λ same. elim within.place [
        | inl vault ↦ drawers t at.0 (sym same ∙ vault.0)
        | inr drawer ↦ not (subst (λ n. Contains items (branch_item n)) (sym (drawer.2 t at.0 (sym same)) ∙ at.1) within.branch)
      ])

  pub left_alone : (c : RowWrite) (k : Kind) → IsWithin items w.tellers c → ¬ Contains items (record { kind = k; key = key }) → view_after holder c k key (view_at k key w) ≡ view_at k key w
  left_alone (write.Account a) kind.Account within not =
      let s = view_at kind.Account key w in
      ap (λ b. record s { account = or_else s.account (cond b (Some a) None) }) (apart items account_item a.account key within.0 not) ∙ ap (λ o. record s { account = o }) (or_none s.account)
  left_alone (write.Account a) kind.Branch within not =
      let s = view_at kind.Branch key w in
      ap (λ b. record s { homed = s.homed + cond b 1 0 }) (apart items branch_item a.home key within.1 not) ∙ ap (λ n. record s { homed = n }) (no_more s.homed)
  left_alone (write.Entry e) kind.Account within not =
      let s = view_at kind.Account key w in
      ap (λ b. record s { entries = grown entry_key b e s.entries }) (apart items account_item e.account key within.account not)
  left_alone (write.Entry e) kind.Teller within not =
      let s = view_at kind.Teller key w in
      ap (λ b. record s { entries = grown entry_key b e s.entries }) (apart items teller_item e.teller key within.teller not)
  left_alone (write.Entry e) kind.History within not =
      let s = view_at kind.History key w in
      ap (λ b. record s { entries = grown entry_key b e s.entries }) (apart items history_item e.branch key within.history not)
  left_alone (write.Entry e) kind.Branch within not =
      ap (λ rs. record (view_at kind.Branch key w) { roster = rs })
      (rows_stay w (entered e) (filter (is_teller_of key) w.tellers) (λ t there.
      let r = roster_line_of (teller_record_of w t) in
      ap (λ b. record r { balance = r.balance +ℤ (if b then e.delta else pos 0) }) (entry_elsewhere e within not t there) ∙ ap (λ z. record r { balance = z }) (plus_zero r.balance)))
  left_alone (write.Line l) kind.Drawer within not =
      let s = view_at kind.Drawer key w in
      let elsewhere : (l.place == key) ≡ false = elim within.place [
        | inl vault ↦ ne_eqb l.place key (λ same. real (sym same ∙ vault.0))
        | inr drawer ↦ apart items drawer_item l.place key drawer.1 not
      ] in
      ap (λ b. record s { lines = grown line_key b l s.lines }) elsewhere
  left_alone (write.Line l) kind.Vault within not =
      let s = view_at kind.Vault key w in
      let elsewhere : (l.branch == key && l.place == 0) ≡ false = elim within.place [
        | inl vault ↦ and_left (l.branch == key) (l.place == 0) (apart items vault_item l.branch key vault.1 not)
        | inr drawer ↦ and_right (l.branch == key) (l.place == 0) (ne_eqb l.place 0 drawer.0)
      ] in
      ap (λ b. record s { lines = grown line_key b l s.lines }) elsewhere
  left_alone (write.Line l) kind.Branch within not =
      let s = view_at kind.Branch key w in
      let other = apart items branch_item l.branch key within.branch not in
      let roster = rows_stay w (lined key holder l) (filter (is_teller_of key) w.tellers) (λ t there.
      let r = roster_line_of (teller_record_of w t) in
      ap₂ (λ b c. record r { cash = r.cash +ℤ (if b && l.place == r.teller then l.amount else pos 0); holder = if c then holder else r.holder }) other (line_elsewhere l within not t there)
      ∙ ap (λ z. record r { cash = z }) (plus_zero r.cash)) in
      let lines = ap (λ b. s.lined + cond b 1 0) other ∙ no_more s.lined in
      let entries = ap (λ b. s.cash_entries +ℤ (if b && is_cash_entry l.form then l.amount else pos 0)) other ∙ plus_zero s.cash_entries in
      let differences = ap (λ b. s.differences +ℤ (if b && is_difference l.form then l.amount else pos 0)) other ∙ plus_zero s.differences in
      λ i. record s { roster = roster i; lined = lines i; cash_entries = entries i; differences = differences i }
  left_alone (write.Proof p) kind.Branch within not =
      let s = view_at kind.Branch key w in
      ap (λ b. record s { proofs = grown proof_key b p s.proofs }) (apart items branch_item p.branch key within not)
  left_alone (write.Day d) kind.Branch within not =
      ap (λ o. record (view_at kind.Branch key w) { branch = o }) (day_stays w d.day d.branch key (apart items branch_item d.branch key within not))
  left_alone (write.Release r) kind.Account within not = refl
  left_alone (write.Used u) kind.Account within not = refl
  left_alone (write.Slip u) kind.Account within not = refl
  left_alone (write.Session u) kind.Account within not = refl
  left_alone (write.Policy p) kind.Account within not = refl
  left_alone _ _ within not = refl

-- ---- a World that changes may come to

pub record IsSteady (w : WorldLists) : Type 0 where
  pub order : IsInOrder w
  pub drawers : HaveDrawers w.tellers

pub still_steady : (c : RowWrite) (w : WorldLists) → IsSteady w → IsSteady (written c w)
still_steady c w was = record { order = in_order_written c w was.order; drawers = subst HaveDrawers (sym (same_tellers c w)) was.drawers }

pub plan_steady : (cs : List RowWrite) (w : WorldLists) → IsSteady w → IsSteady (all_written cs w)
plan_steady [] w was = was
plan_steady (c ∷ cs) w was = plan_steady cs (written c w) (still_steady c w was)

pub still_within : (items : List Cdi) (c : RowWrite) (w : WorldLists) (cs : List RowWrite) → AreWithin items w.tellers cs → AreWithin items (written c w).tellers cs
still_within items c w cs within = subst (λ ts. AreWithin items ts cs) (sym (same_tellers c w)) within

-- ---- one World

holder_there : (c : RowWrite) (w : WorldLists) → (h : Option ℕ) × IsHolderAfter h c w
holder_there (write.Line l) w = (holder_of (add_row line_key l w.lines) l.place, λ t there same. ap (holder_of (add_row line_key l w.lines)) (sym same))
holder_there _ w = (None, tt)

pub plan_leaves : (items : List Cdi) (item : Cdi) → item.key ≢ 0 → ¬ Contains items item → (cs : List RowWrite) (w : WorldLists) → IsSteady w → AreWithin items w.tellers cs
    → view_of (all_written cs w) item ≡ view_of w item
plan_leaves items item real not [] w steady within = refl
plan_leaves items item real not (c ∷ cs) w steady within =
    let holder = holder_there c w in
    plan_leaves items item real not cs (written c w) (still_steady c w steady) (still_within items c w cs within.1)
    ∙ view_is holder.0 c item.kind item.key w steady.order.books holder.1
    ∙ left_alone items w holder.0 item.key real steady.drawers c item.kind within.0 not

-- ---- two Worlds

abbrev pub AreAlike : List Cdi → WorldLists → WorldLists → Type 0
AreAlike items w v = (item : Cdi) → Contains items item → view_of w item ≡ view_of v item

-- who holds the drawer of a line once it is added, where the lines of the drawer are alike
same_holder : (w v : WorldLists) (l : CashLine) → IsSteady w → IsSteady v → view_of w (drawer_item l.place) ≡ view_of v (drawer_item l.place)
    → holder_of (add_row line_key l v.lines) l.place ≡ holder_of (add_row line_key l w.lines) l.place
same_holder w v l steady steady' same =
    sym (holder_passing l.place (add_row line_key l v.lines))
    ∙ ap (λ ls. holder_of ls l.place)
    (filter-add_row line_key (λ x. x.place == l.place) l v.lines steady'.order.books.lines
    ∙ ap (λ s. grown line_key (l.place == l.place) l s.lines) (sym same)
    ∙ sym (filter-add_row line_key (λ x. x.place == l.place) l w.lines steady.order.books.lines))
    ∙ holder_passing l.place (add_row line_key l w.lines)

one_holder : (items : List Cdi) (w v : WorldLists) (c : RowWrite) → IsSteady w → IsSteady v → IsWithin items w.tellers c → AreAlike items w v → (h : Option ℕ) × IsHolderAfter h c w × IsHolderAfter h c v
one_holder items w v (write.Line l) steady steady' within same = elim within.place [
  | inl vault ↦ (None, λ t there at. absurd (steady.drawers t there (sym at ∙ vault.0)), λ t there at. absurd (steady'.drawers t there (sym at ∙ vault.0)))
  | inr drawer ↦ (
    holder_of (add_row line_key l w.lines) l.place,
    λ t there at. ap (holder_of (add_row line_key l w.lines)) (sym at),
    λ t there at. ap (holder_of (add_row line_key l v.lines)) (sym at) ∙ same_holder w v l steady steady' (same (drawer_item l.place) drawer.1),
  )
]
one_holder items w v _ steady steady' within same = (None, tt, tt)

-- so is every item afterwards that was so before
written_alike : (items : List Cdi) (item : Cdi) (w v : WorldLists) (c : RowWrite) → IsSteady w → IsSteady v → IsWithin items w.tellers c → AreAlike items w v → view_of w item ≡ view_of v item
    → view_of (written c w) item ≡ view_of (written c v) item
written_alike items item w v c steady steady' within alike same =
    let holder = one_holder items w v c steady steady' within alike in
    view_is holder.0 c item.kind item.key w steady.order.books holder.1
    ∙ ap (view_after holder.0 c item.kind item.key) same
    ∙ sym (view_is holder.0 c item.kind item.key v steady'.order.books holder.2)

pub plan_alike : (items : List Cdi) (cs : List RowWrite) (w v : WorldLists) → IsSteady w → IsSteady v → AreWithin items w.tellers cs → AreAlike items w v → (item : Cdi) → view_of w item ≡ view_of v item
    → view_of (all_written cs w) item ≡ view_of (all_written cs v) item
plan_alike items [] w v steady steady' within alike item same = same
plan_alike items (c ∷ cs) w v steady steady' within alike item same =
    plan_alike items cs (written c w) (written c v) (still_steady c w steady) (still_steady c v steady') (still_within items c w cs within.1)
    (λ other there. written_alike items other w v c steady steady' within.0 alike (alike other there)) item
    (written_alike items item w v c steady steady' within.0 alike same)
