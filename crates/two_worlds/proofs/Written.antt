-- What one change makes of the view of each item: a view of the view before, and of the change.
use Rattle.std.proofs.Common.{◌≡◌, ℕ, ◌+◌, ℤ, pos, ◌+ℤ◌, List, [], ◌∷◌, map, Bool, true, false, cond, refl, ap, ap₂, sym, ◌∙◌, ◌==◌, ◌&&◌, Option, Some, None, Contains}
use Rattle.std.specs.Prelude.{if◌then◌else◌, option_map}
use Rattle.std.specs.List.{filter}
use Rattle.std.proofs.lemmas.Bool.{eqb-true}
use Rattle.keyed_rows.proofs.MadeRows.{key-changed}
use Rattle.keyed_rows.specs.Changed.{change_rows}
use Rattle.keyed_rows.specs.Ordered.{add_row}
use Rattle.bank_policy.proofs.RowsTell.{from_filter}
use Rattle.bank_terms.specs.declared.item.Kind.{Kind}
use Rattle.bank_terms.specs.declared.item.Kind.TheVariants as kind
use Rattle.bank_books.specs.Balances.{branch_row, teller_deltas}
use Rattle.bank_books.specs.Cash.{holder_of, is_cash_entry, is_difference, place_cash}
use Rattle.bank_books.specs.Effects.{on_day, written}
use Rattle.bank_books.specs.Keys.{account_key, branch_key, entry_key, line_key, proof_key}
use Rattle.bank_books.specs.Records.{teller_record_of}
use Rattle.bank_books.specs.WorldLists.{WorldLists}
use Rattle.bank_books.specs.declared.row_write.RowWrite.{RowWrite}
use Rattle.bank_books.specs.declared.row_write.RowWrite.TheVariants as write
use Rattle.bank_books.specs.declared.rows.Account.{Account}
use Rattle.bank_books.specs.declared.rows.Branch.{Branch}
use Rattle.bank_books.specs.declared.rows.CashLine.{CashLine}
use Rattle.bank_books.specs.declared.rows.Entry.{Entry}
use Rattle.bank_books.specs.declared.rows.Teller.{Teller}
use Rattle.book_laws.proofs.LastRow.{or_else}
use Rattle.book_laws.proofs.LineAdded.{share_moves}
use Rattle.keyed_rows.proofs.Rows.{Contains-head, Contains-tail, above, count-add_row, total-add_row}
use Rattle.world_reads.specs.BookReads.{is_teller_of}
use Rattle.bank_meaning.specs.Order.{AreBooksInOrder}
use Rattle.two_worlds.specs.View.{RosterLine, View, roster_line_of, view_at}
use Rattle.two_worlds.proofs.Grown.{filter-add_row, find_added, find_made, grown}
use Rattle.two_worlds.proofs.Seen.{holder_passing}

-- ---- what a change makes of a view

-- a line of the roster with one more entry
abbrev pub entered : Entry → RosterLine → RosterLine
entered e r = record r { balance = r.balance +ℤ (if e.teller == r.teller then e.delta else pos 0) }

-- and with one more line of the cash book, after which this user holds the drawer that it is at
abbrev pub lined : ℕ → Option ℕ → CashLine → RosterLine → RosterLine
lined branch holder l r = record r {
  cash = r.cash +ℤ (if l.branch == branch && l.place == r.teller then l.amount else pos 0);
  holder = if l.place == r.teller then holder else r.holder;
}

-- the account that is opened, where none was there
abbrev pub opened_at : ℕ → Account → Option Account → Option Account
opened_at key a before = or_else before (cond (a.account == key) (Some a) None)

-- the view afterwards, where this user holds the drawer of the line that is added, if it is a line
abbrev pub view_after : Option ℕ → RowWrite → Kind → ℕ → View → View
view_after holder (write.Account a) kind.Account key s = record s { account = opened_at key a s.account }
view_after holder (write.Account a) kind.Branch key s = record s { homed = s.homed + cond (a.home == key) 1 0 }
view_after holder (write.Entry e) kind.Account key s = record s { entries = grown entry_key (e.account == key) e s.entries }
view_after holder (write.Entry e) kind.Teller key s = record s { entries = grown entry_key (e.teller == key) e s.entries }
view_after holder (write.Entry e) kind.History key s = record s { entries = grown entry_key (e.branch == key) e s.entries }
view_after holder (write.Entry e) kind.Branch key s = record s { roster = map (entered e) s.roster }
view_after holder (write.Line l) kind.Drawer key s = record s { lines = grown line_key (l.place == key) l s.lines }
view_after holder (write.Line l) kind.Vault key s = record s { lines = grown line_key (l.branch == key && l.place == 0) l s.lines }
view_after holder (write.Line l) kind.Branch key s = record s {
  roster = map (lined key holder l) s.roster;
  lined = s.lined + cond (l.branch == key) 1 0;
  cash_entries = s.cash_entries +ℤ (if l.branch == key && is_cash_entry l.form then l.amount else pos 0);
  differences = s.differences +ℤ (if l.branch == key && is_difference l.form then l.amount else pos 0);
}
view_after holder (write.Proof p) kind.Branch key s = record s { proofs = grown proof_key (p.branch == key) p s.proofs }
view_after holder (write.Day d) kind.Branch key s = record s { branch = option_map (λ row. if row.branch == d.branch then on_day d.day row else row) s.branch }
view_after holder _ _ key s = s

-- this user holds the drawer of the line once it is added, where there is a teller of that drawer
abbrev pub IsHolderAfter : Option ℕ → RowWrite → WorldLists → Type 0
IsHolderAfter holder (write.Line l) w = (t : Teller) → Contains w.tellers t → l.place ≡ t.teller → holder_of (add_row line_key l w.lines) t.teller ≡ holder
IsHolderAfter holder _ w = Unit {0}

-- ---- the roster

each_entered : (w : WorldLists) (e : Entry) (ts : List Teller) → map roster_line_of (map (teller_record_of (written (write.Entry e) w)) ts) ≡ map (entered e) (map roster_line_of (map (teller_record_of w) ts))
each_entered w e [] = refl
each_entered w e (t ∷ ts) =
    ap₂ (λ z rs. record (roster_line_of (teller_record_of w t)) { balance = z } ∷ rs)
    (above t.opening (teller_deltas t.teller w.entries) (teller_deltas t.teller (add_row entry_key e w.entries)) (if e.teller == t.teller then e.delta else pos 0)
    (total-add_row entry_key (λ x. if x.teller == t.teller then x.delta else pos 0) e w.entries))
    (each_entered w e ts)

-- who holds the drawer of a line that is none of this teller's
holder_stays : (w : WorldLists) (l : CashLine) (key : ℕ) → AreBooksInOrder w → (l.place == key) ≡ false → holder_of (add_row line_key l w.lines) key ≡ holder_of w.lines key
holder_stays w l key order is =
    sym (holder_passing key (add_row line_key l w.lines))
    ∙ ap (λ ls. holder_of ls key) (filter-add_row line_key (λ x. x.place == key) l w.lines order.lines ∙ ap (λ b. grown line_key b l (filter (λ x. x.place == key) w.lines)) is)
    ∙ holder_passing key w.lines

each_lined : (w : WorldLists) (branch : ℕ) (holder : Option ℕ) (l : CashLine) → AreBooksInOrder w → (ts : List Teller) → ((t : Teller) → Contains ts t → t.branch ≡ branch)
    → ((t : Teller) → Contains ts t → l.place ≡ t.teller → holder_of (add_row line_key l w.lines) t.teller ≡ holder)
    → map roster_line_of (map (teller_record_of (written (write.Line l) w)) ts) ≡ map (lined branch holder l) (map roster_line_of (map (teller_record_of w) ts))
each_lined w branch holder l order [] of holds = refl
each_lined w branch holder l order (t ∷ ts) of holds =
    ap₂ (λ r rs. r ∷ rs) one (each_lined w branch holder l order ts (λ u there. of u (Contains-tail t ts u there)) (λ u there. holds u (Contains-tail t ts u there)))
  where
    cash : place_cash t.branch t.teller (add_row line_key l w.lines) ≡ place_cash t.branch t.teller w.lines +ℤ (if l.branch == branch && l.place == t.teller then l.amount else pos 0)
    cash =
        share_moves l w.lines t.branch (λ x. x.place == t.teller)
        ∙ ap (λ b. place_cash t.branch t.teller w.lines +ℤ (if l.branch == b && l.place == t.teller then l.amount else pos 0)) (of t (Contains-head t ts))

    held : (b : Bool) → (l.place == t.teller) ≡ b → holder_of (add_row line_key l w.lines) t.teller ≡ (if b then holder else holder_of w.lines t.teller)
    held true is = holds t (Contains-head t ts) (eqb-true l.place t.teller is)
    held false is = holder_stays w l t.teller order is

    one : roster_line_of (teller_record_of (written (write.Line l) w) t) ≡ lined branch holder l (roster_line_of (teller_record_of w t))
    one = ap₂ (λ c h. record (roster_line_of (teller_record_of w t)) { cash = c; holder = h }) cash (held (l.place == t.teller) refl)

-- a teller of a branch
pub of_branch : (w : WorldLists) (branch : ℕ) (t : Teller) → Contains (filter (is_teller_of branch) w.tellers) t → Contains w.tellers t × (t.branch ≡ branch)
of_branch w branch t there =
    let found = from_filter (is_teller_of branch) w.tellers t there in
    (found.0, eqb-true t.branch branch found.1)

-- ---- the branch on its next day

day_made : (day : ℕ) (of : ℕ) (branches : List Branch) (key : ℕ) → branch_row key (change_rows branch_key of (on_day day) branches) ≡ option_map (λ row. if row.branch == of then on_day day row else row) (branch_row key branches)
day_made day of branches key =
    find_made (λ row. row.branch == key) (λ row. if row.branch == of then on_day day row else row)
    (λ row. ap (λ n. n == key) (key-changed branch_key (on_day day) of (λ r. refl) row)) branches

-- its opening cash stays
cash_stays : (day of : ℕ) (o : Option Branch) → option_map (λ b. b.cash) (option_map (λ row. if row.branch == of then on_day day row else row) o) ≡ option_map (λ b. b.cash) o
cash_stays day of None = refl
cash_stays day of (Some row) = go (row.branch == of)
  where
    go : (b : Bool) → ◌≡◌ {A = Option ℤ} (Some (if b then on_day day row else row).cash) (Some row.cash)
    go true = refl
    go false = refl

-- ---- the view afterwards

pub view_is : (holder : Option ℕ) (c : RowWrite) (k : Kind) (key : ℕ) (w : WorldLists) → AreBooksInOrder w → IsHolderAfter holder c w → view_at k key (written c w) ≡ view_after holder c k key (view_at k key w)
view_is holder (write.Account a) kind.Account key w order holds = ap (λ o. record (view_at kind.Account key w) { account = o }) (find_added account_key (λ row. row.account == key) a w.accounts (λ y of of'. eqb-true y.account key of' ∙ sym (eqb-true a.account key of)) order.accounts)
view_is holder (write.Account a) kind.Branch key w order holds = ap (λ n. record (view_at kind.Branch key w) { homed = n }) (count-add_row account_key (λ x. x.home == key) a w.accounts)
view_is holder (write.Entry e) kind.Account key w order holds = ap (λ es. record (view_at kind.Account key w) { entries = es }) (filter-add_row entry_key (λ x. x.account == key) e w.entries order.entries)
view_is holder (write.Entry e) kind.Teller key w order holds = ap (λ es. record (view_at kind.Teller key w) { entries = es }) (filter-add_row entry_key (λ x. x.teller == key) e w.entries order.entries)
view_is holder (write.Entry e) kind.History key w order holds = ap (λ es. record (view_at kind.History key w) { entries = es }) (filter-add_row entry_key (λ x. x.branch == key) e w.entries order.entries)
view_is holder (write.Entry e) kind.Branch key w order holds = ap (λ rs. record (view_at kind.Branch key w) { roster = rs }) (each_entered w e (filter (is_teller_of key) w.tellers))
view_is holder (write.Line l) kind.Drawer key w order holds = ap (λ ls. record (view_at kind.Drawer key w) { lines = ls }) (filter-add_row line_key (λ x. x.place == key) l w.lines order.lines)
view_is holder (write.Line l) kind.Vault key w order holds = ap (λ ls. record (view_at kind.Vault key w) { lines = ls }) (filter-add_row line_key (λ x. x.branch == key && x.place == 0) l w.lines order.lines)
view_is holder (write.Line l) kind.Branch key w order holds =
    let roster = each_lined w key holder l order (filter (is_teller_of key) w.tellers) (λ t there. (of_branch w key t there).1) (λ t there. holds t (of_branch w key t there).0) in
    let count = count-add_row line_key (λ x. x.branch == key) l w.lines in
    let entries = share_moves l w.lines key (λ x. is_cash_entry x.form) in
    let differences = share_moves l w.lines key (λ x. is_difference x.form) in
    λ i. record (view_at kind.Branch key w) { roster = roster i; lined = count i; cash_entries = entries i; differences = differences i }
view_is holder (write.Proof p) kind.Branch key w order holds = ap (λ ps. record (view_at kind.Branch key w) { proofs = ps }) (filter-add_row proof_key (λ x. x.branch == key) p w.proofs order.proofs)
view_is holder (write.Day d) kind.Branch key w order holds = ap (λ o. record (view_at kind.Branch key w) { branch = o }) (day_made d.day d.branch w.branches key)
view_is holder (write.Day d) kind.Vault key w order holds =
    ap (λ o. record (view_at kind.Vault key w) { opening = o }) (ap (option_map (λ b. b.cash)) (day_made d.day d.branch w.branches key) ∙ cash_stays d.day d.branch (branch_row key w.branches))
view_is holder (write.Release r) kind.Account key w order holds = refl
view_is holder (write.Used u) kind.Account key w order holds = refl
view_is holder (write.Slip u) kind.Account key w order holds = refl
view_is holder (write.Session u) kind.Account key w order holds = refl
view_is holder (write.Policy p) kind.Account key w order holds = refl
view_is holder _ _ key w order holds = refl

-- no change comes to a teller
pub same_tellers : (c : RowWrite) (w : WorldLists) → (written c w).tellers ≡ w.tellers
same_tellers (write.Account row) w = refl
same_tellers _ w = refl
