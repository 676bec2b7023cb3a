-- What the tables of the books say of a World.
use Rattle.std.proofs.Common.{◌≡◌, ◌≢◌, ◌∙◌, ◌+◌, ◌<◌, ◌==◌, ◌++◌, ℕ, zero, suc, Bool, true, false, cond, List, [], ◌∷◌, map, filter, take, length, get_or, Contains, Option, Some, None, ap, arith, find, refl, subst, sym, inl, inr}
use Rattle.std.specs.Prelude.{option_map}
use Rattle.std.proofs.lemmas.List.{take_more}
use Rattle.std.proofs.lemmas.List.Elements.{Contains-get_or}
use Rattle.bank_books.specs.Records.{entry_record_of, teller_record_of}
use Rattle.bank_books.specs.WorldLists.{WorldLists}
use Rattle.bank_books.specs.declared.records.EntryRecord.{EntryRecord}
use Rattle.bank_books.specs.declared.records.TellerRecord.{TellerRecord}
use Rattle.bank_books.specs.declared.rows.Entry.{Entry}
use Rattle.bank_books.specs.declared.rows.Teller.{Teller}
use Rattle.keyed_rows.proofs.Rows.{Contains-cons_cases, Contains-tail, every_made}
use Rattle.world_reads.specs.BookReads.{entry, is_teller_of as is_row_of, roster}
use Rattle.book_kept.proofs.RowLemmas.{find-map}
use Rattle.book_kept.specs.Keepable.{IsKeepable}
use Rattle.book_kept.specs.Records.{kept_teller, kept_teller_of}
use Rattle.book_kept.specs.Sheets.{sheets_of}
use Rattle.sql_books.specs.Picks.{is_entry, is_teller_of}
use Rattle.sql_schema.proofs.KeyTests.{length-mapped}

pub entry_is : (w : WorldLists) (branch number : ℕ) → option_map (λ (e : EntryRecord). e.row) (find (is_entry branch number) (sheets_of w).entries) ≡ entry w branch number
entry_is w branch number = ap (option_map (λ (e : EntryRecord). e.row)) (find-map (is_entry branch number) (entry_record_of w) w.entries) ∙ twice (entry w branch number)
  where
    twice : (o : Option Entry) → option_map (λ (e : EntryRecord). e.row) (option_map (entry_record_of w) o) ≡ o
    twice None = refl
    twice (Some e) = refl

-- ---- the tellers of a branch

module _ (w : WorldLists) (branch : ℕ) where
  kept_of_these : (tellers : List Teller) → filter (is_teller_of branch) (map (kept_teller_of w) tellers) ≡ map kept_teller (map (teller_record_of w) (filter (is_row_of branch) tellers))
  kept_of_these [] = refl
  kept_of_these (t ∷ tellers) = go (t.branch == branch) (kept_of_these tellers)
    where
      go : (b : Bool) → filter (is_teller_of branch) (map (kept_teller_of w) tellers) ≡ map kept_teller (map (teller_record_of w) (filter (is_row_of branch) tellers))
          → cond b (kept_teller_of w t ∷ filter (is_teller_of branch) (map (kept_teller_of w) tellers)) (filter (is_teller_of branch) (map (kept_teller_of w) tellers)) ≡ map kept_teller (map (teller_record_of w) (cond b (t ∷ filter (is_row_of branch) tellers) (filter (is_row_of branch) tellers)))
      go true rest = ap (λ ts. kept_teller_of w t ∷ ts) rest
      go false rest = rest

  pub roster_kept : filter (is_teller_of branch) (sheets_of w).tellers ≡ map kept_teller (roster w branch)
  roster_kept = kept_of_these w.tellers

filtered_there : {X : Type 0} (p : X → Bool) (xs : List X) (x : X) → Contains (filter p xs) x → Contains xs x
filtered_there p [] x there = there
filtered_there {X = X} p (y ∷ ys) x there = go (p y) (filtered_there p ys x) there
  where
    go : (b : Bool) → (Contains (filter p ys) x → Contains ys x) → Contains (cond b (y ∷ filter p ys) (filter p ys)) x → Contains (y ∷ ys) x
    go true rest here = elim (Contains-cons_cases y (filter p ys) x here) [ inl is ↦ (zero, omega arith, is) | inr following ↦ Contains-tail y ys x (rest following) ]
    go false rest here = Contains-tail y ys x (rest here)

-- none of their drawers is held by user 0
pub roster_holders : (w : WorldLists) (branch : ℕ) → IsKeepable w → (t : TellerRecord) → Contains (roster w branch) t → t.holder ≢ Some 0
roster_holders w branch can =
    every_made (teller_record_of w) (λ (t : TellerRecord). t.holder ≢ Some 0) (filter (is_row_of branch) w.tellers) (λ t there. can.tellers.holders t (filtered_there (is_row_of branch) w.tellers t there))

-- ---- rows that are made one after another of what is kept of them

module _ {X Y : Type 0} (shown : X → Y) where
  shown_at : (there : List X) (k : ℕ) (x : X) (row : Y) → k < length there → get_or (map shown there) k row ≡ shown (get_or there k x)
  shown_at [] k x row below = absurd (omega arith)
  shown_at (y ∷ there) zero x row below = refl
  shown_at (y ∷ there) (suc k) x row below = shown_at there k x row (omega arith)

  -- the next is what stands there
  pub made_more : (rows : List Y) (there before made : List X) (k : ℕ) (row : Y) (read : X) → k < length rows → row ≡ get_or rows k row → ((x : X) → Contains there x → row ≡ shown x → read ≡ x)
      → rows ≡ map shown there → before ≡ take k there → made ≡ before ++ read ∷ [] → made ≡ take (k + 1) there
  made_more rows there before made k row read below is reads are so_far made_is =
      let within : k < length there = subst (λ n. k < n) (ap length are ∙ length-mapped shown there) below in
      let here : row ≡ shown (get_or there k read) = is ∙ ap (λ rs. get_or rs k row) are ∙ shown_at there k read row within in
      made_is ∙ (λ i. so_far i ++ reads (get_or there k read) (Contains-get_or there k read within) here i ∷ []) ∙ sym (take_more there k read within)
