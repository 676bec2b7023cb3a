-- What changes of the books make of the lists of a World: the rows that they write are new there, and each other row was there before.
use Rattle.std.proofs.Common.{◌≡◌, ◌≢◌, ℕ, ◌==◌, Bool, true, false, cond, Some, List, [], ◌∷◌, map, Contains, ◌⊎◌, inl, inr, refl, ap, sym, subst, ◌∙◌}
use Rattle.std.specs.Prelude.{nat_le, option_map, ⊤, if◌then◌else◌}
use Rattle.std.specs.List.{AllByRecursion, find}
use Rattle.std.proofs.lemmas.Bool.{eq-eqb, eqb-true, false≢true}
use Rattle.bank_books.specs.Balances.{branch_row}
use Rattle.bank_books.specs.Effects.{all_written, on_day, written}
use Rattle.bank_books.specs.Keys.{account_key, branch_key, entry_key, line_key, proof_key, release_key}
use Rattle.bank_books.specs.Range.{HasDistinctKeys}
use Rattle.bank_books.specs.WorldLists.{WorldLists}
use Rattle.bank_books.specs.declared.row_write.BranchDay.{BranchDay}
use Rattle.bank_books.specs.declared.row_write.RowWrite.{RowWrite}
use Rattle.bank_books.specs.declared.row_write.RowWrite.TheVariants as write
use Rattle.bank_books.specs.declared.rows.Account.{Account}
use Rattle.bank_books.specs.declared.rows.Branch.{Branch}
use Rattle.bank_books.specs.declared.rows.CashLine.{CashLine}
use Rattle.bank_books.specs.declared.rows.Entry.{Entry}
use Rattle.bank_books.specs.declared.rows.Proof.{Proof}
use Rattle.bank_books.specs.declared.rows.Release.{Release}
use Rattle.book_laws.proofs.ChangedRows.{each_changed}
use Rattle.keyed_rows.proofs.Rows.{Contains-add_row, Contains-add_row_cases, Contains-add_row_new, Contains-cons_cases, Contains-head, Contains-tail, first_apart, found_row, none_of_key, none_there}
use Rattle.keyed_rows.specs.Changed.{change_rows}
use Rattle.keyed_rows.specs.Ordered.{AreDistinct, add_row}
use Rattle.bank_meaning.proofs.BookChanges.{is_of_books}
use Rattle.bank_meaning.specs.Recorded.{IsIn, IsOnAnotherDay}

-- each of them is a change of the books
abbrev pub OfBooks : List RowWrite → Type 0
OfBooks cs = AllByRecursion (λ c. is_of_books c ≡ true) cs

-- what holds of each of a list
pub each_of : {A : Type 0} (P : A → Type 0) (xs : List A) → AllByRecursion P xs → (x : A) → Contains xs x → P x
each_of P [] all x there = absurd (none_there there)
each_of P (y ∷ ys) all x there = elim (Contains-cons_cases y ys x there) [ inl is ↦ subst P is all.0 | inr later ↦ each_of P ys all.1 x later ]

-- ---- a row that is put among rows of distinct keys

-- it has another key than each of them
apart : {T : Type 0} (key : T → ℕ) (e : T) (xs : List T) → AreDistinct (map key (add_row key e xs)) → (x : T) → Contains xs x → key x ≢ key e
apart key e [] distinct x there = absurd (none_there there)
apart {T = T} key e (y ∷ ys) distinct x there = go (nat_le (key y) (key e)) distinct (apart key e ys)
  where
    go : (b : Bool) → AreDistinct (map key (cond b (y ∷ add_row key e ys) (e ∷ y ∷ ys))) → (AreDistinct (map key (add_row key e ys)) → (z : T) → Contains ys z → key z ≢ key e) → key x ≢ key e
    go true d rest = elim (Contains-cons_cases y ys x there) [
      | inl is ↦ subst (λ z. key z ≢ key e) is (first_apart key y (add_row key e ys) e d (Contains-add_row_new key e ys))
      | inr later ↦ rest d.1 x later
    ]
    go false d rest = λ same. first_apart key e (y ∷ ys) x d there (sym same)

-- and they had distinct keys before
distinct_before : {T : Type 0} (key : T → ℕ) (e : T) (xs : List T) → AreDistinct (map key (add_row key e xs)) → AreDistinct (map key xs)
distinct_before key e [] distinct = tt
distinct_before {T = T} key e (y ∷ ys) distinct = go (nat_le (key y) (key e)) distinct (distinct_before key e ys)
  where
    go : (b : Bool) → AreDistinct (map key (cond b (y ∷ add_row key e ys) (e ∷ y ∷ ys))) → (AreDistinct (map key (add_row key e ys)) → AreDistinct (map key ys)) → AreDistinct (map key (y ∷ ys))
    go true d rest = (none_of_key key (key y) ys (λ z there same. first_apart key y (add_row key e ys) z d (Contains-add_row key e ys z there) (sym same)), rest d.1)
    go false d rest = d.1

-- ---- a list of rows that one kind of change adds to

module _ {T : Type 0} (key : T → ℕ) (rows : WorldLists → List T) (make : T → RowWrite)
    (makes : (row : T) (w : WorldLists) → rows (written (make row) w) ≡ add_row key row (rows w))
    (one : (c : RowWrite) (w : WorldLists) → is_of_books c ≡ true → (rows (written c w) ≡ rows w) ⊎ ((row : T) × (make row ≡ c))) where
  -- what one change makes of it, in either case
  either : (P : List T → Type 0) (c : RowWrite) (w : WorldLists) → is_of_books c ≡ true → P (rows w) → ((row : T) → make row ≡ c → P (add_row key row (rows w))) → P (rows (written c w))
  either P c w is same new = elim (one c w is) [
    | inl stays ↦ subst P (sym stays) same
    | inr made ↦ subst (λ (d : RowWrite). P (rows (written d w))) made.1 (subst P (sym (makes made.0 w)) (new made.0 made.1))
  ]

  -- what is there was there, or is written
  added : (cs : List RowWrite) (w : WorldLists) → OfBooks cs → (row : T) → Contains (rows (all_written cs w)) row → Contains (rows w) row ⊎ Contains cs (make row)
  added [] w books row there = inl there
  added (c ∷ cs) w books row there = elim (added cs (written c w) books.1 row there) [
    | inl now ↦ either (λ xs. Contains xs row → Contains (rows w) row ⊎ Contains (c ∷ cs) (make row)) c w books.0 (λ was. inl was)
        (λ new made among. elim (Contains-add_row_cases key new (rows w) row among) [ inl is ↦ inr (subst (λ (d : RowWrite). Contains (c ∷ cs) d) (sym made ∙ ap make is) (Contains-head c cs)) | inr was ↦ inl was ]) now
    | inr later ↦ inr (Contains-tail c cs (make row) later)
  ]

  -- what was there still is
  stays : (cs : List RowWrite) (w : WorldLists) → OfBooks cs → (row : T) → Contains (rows w) row → Contains (rows (all_written cs w)) row
  stays [] w books row was = was
  stays (c ∷ cs) w books row was = stays cs (written c w) books.1 row (either (λ xs. Contains xs row) c w books.0 was (λ new made. Contains-add_row key new (rows w) row was))

  -- and so is what is written
  is_there : (cs : List RowWrite) (w : WorldLists) → OfBooks cs → (row : T) → Contains cs (make row) → Contains (rows (all_written cs w)) row
  is_there [] w books row there = absurd (none_there there)
  is_there (c ∷ cs) w books row there = elim (Contains-cons_cases c cs (make row) there) [
    | inl is ↦ stays cs (written c w) books.1 row (subst (λ (d : RowWrite). Contains (rows (written d w)) row) (sym is) (subst (λ xs. Contains xs row) (sym (makes row w)) (Contains-add_row_new key row (rows w))))
    | inr later ↦ is_there cs (written c w) books.1 row later
  ]

  were_distinct : (cs : List RowWrite) (w : WorldLists) → OfBooks cs → AreDistinct (map key (rows (all_written cs w))) → AreDistinct (map key (rows w))
  were_distinct [] w books distinct = distinct
  were_distinct (c ∷ cs) w books distinct =
      either (λ xs. AreDistinct (map key xs) → AreDistinct (map key (rows w))) c w books.0 (λ d. d) (λ new made d. distinct_before key new (rows w) d) (were_distinct cs (written c w) books.1 distinct)

  -- which was not there before
  was_not : (cs : List RowWrite) (w : WorldLists) → OfBooks cs → AreDistinct (map key (rows (all_written cs w))) → (row : T) → Contains cs (make row) → ¬ Contains (rows w) row
  was_not [] w books distinct row there = λ was. none_there there
  was_not (c ∷ cs) w books distinct row there = elim (Contains-cons_cases c cs (make row) there) [
    | inl is ↦ λ was. apart key row (rows w) (subst (λ xs. AreDistinct (map key xs)) (makes row w) (subst (λ (d : RowWrite). AreDistinct (map key (rows (written d w)))) is (were_distinct cs (written c w) books.1 distinct))) row was refl
    | inr later ↦ λ was. was_not cs (written c w) books.1 distinct row later (either (λ xs. Contains xs row) c w books.0 was (λ new made. Contains-add_row key new (rows w) row was))
  ]

one_account : (c : RowWrite) (w : WorldLists) → is_of_books c ≡ true → ((written c w).accounts ≡ w.accounts) ⊎ ((row : Account) × (write.Account row ≡ c))
one_account (write.Account new) w is = inr (new, refl)
one_account _ w is = inl refl

one_entry : (c : RowWrite) (w : WorldLists) → is_of_books c ≡ true → ((written c w).entries ≡ w.entries) ⊎ ((row : Entry) × (write.Entry row ≡ c))
one_entry (write.Entry new) w is = inr (new, refl)
one_entry _ w is = inl refl

one_line : (c : RowWrite) (w : WorldLists) → is_of_books c ≡ true → ((written c w).lines ≡ w.lines) ⊎ ((row : CashLine) × (write.Line row ≡ c))
one_line (write.Line new) w is = inr (new, refl)
one_line _ w is = inl refl

one_proof : (c : RowWrite) (w : WorldLists) → is_of_books c ≡ true → ((written c w).proofs ≡ w.proofs) ⊎ ((row : Proof) × (write.Proof row ≡ c))
one_proof (write.Proof new) w is = inr (new, refl)
one_proof _ w is = inl refl

one_release : (c : RowWrite) (w : WorldLists) → is_of_books c ≡ true → ((written c w).releases ≡ w.releases) ⊎ ((row : Release) × (write.Release row ≡ c))
one_release (write.Release new) w is = inr (new, refl)
one_release (write.Used k) w is = absurd cc
one_release _ w is = inl refl

-- ---- the branches, which other days are written to

one_branch : (c : RowWrite) (cs : List RowWrite) (w : WorldLists) (b : Branch) → Contains (written c w).branches b → Contains w.branches b ⊎ IsOnAnotherDay w (c ∷ cs) b
one_branch (write.Day d) cs w b there =
    each_changed branch_key d.branch (on_day d.day) w.branches (λ row. Contains w.branches row ⊎ IsOnAnotherDay w (write.Day d ∷ cs) row)
    (λ row was named. inr (record { before = row; there = was; same = refl; asked = subst (λ key. Contains (write.Day d ∷ cs) (write.Day (record { branch = key; day = d.day }))) (sym (eqb-true row.branch d.branch named)) (Contains-head (write.Day d) cs) })) (λ row was other. inl was) b there
one_branch _ cs w b there = inl there

branches_added : (cs : List RowWrite) (w : WorldLists) (b : Branch) → Contains (all_written cs w).branches b → Contains w.branches b ⊎ IsOnAnotherDay w cs b
branches_added [] w b there = inl there
branches_added (c ∷ cs) w b there = elim (branches_added cs (written c w) b there) [
  | inl now ↦ one_branch c cs w b now
  | inr day ↦
      let asked = Contains-tail c cs (write.Day (record { branch = b.branch; day = b.day })) day.asked in
      elim (one_branch c cs w day.before day.there) [
        | inl was ↦ inr (record { before = day.before; there = was; same = day.same; asked = asked })
        | inr earlier ↦ inr (record { before = earlier.before; there = earlier.there; same = day.same ∙ ap (on_day b.day) earlier.same; asked = asked })
      ]
]

-- A day that is written comes last, and its branch is there on another.
abbrev pub IsDayLast : List Branch → List RowWrite → Type 0
IsDayLast branches [] = ⊤
IsDayLast branches (write.Day d ∷ cs) = (cs ≡ []) × ((row : Branch) × (branch_row d.branch branches ≡ Some row) × (row.day ≢ d.day))
IsDayLast branches (c ∷ cs) = IsDayLast branches cs

pub found_made : {T : Type 0} (key : T → ℕ) (k : ℕ) (made : T → T) (xs : List T) (x : T) → key (made x) ≡ k → find (λ y. key y == k) xs ≡ Some x → find (λ y. key y == k) (change_rows key k made xs) ≡ Some (made x)
found_made key k made [] x of is = absurd cc
found_made {T = T} key k made (y ∷ ys) x of is = go (key y == k) refl is (found_made key k made ys x of)
  where
    go : (b : Bool) → (key y == k) ≡ b → cond b (Some y) (find (λ z. key z == k) ys) ≡ Some x → (find (λ z. key z == k) ys ≡ Some x → find (λ z. key z == k) (change_rows key k made ys) ≡ Some (made x))
        → find (λ z. key z == k) ((if b then made y else y) ∷ change_rows key k made ys) ≡ Some (made x)
    go true at found rest =
        let same : y ≡ x = cc in
        ap (λ b. cond b (Some (made y)) (find (λ z. key z == k) (change_rows key k made ys))) (eq-eqb (key (made y)) k (ap (λ z. key (made z)) same ∙ of)) ∙ ap (λ z. Some (made z)) same
    go false at found rest = ap (λ b. cond b (Some y) (find (λ z. key z == k) (change_rows key k made ys))) at ∙ rest found

-- So it is the present one after, and was not before.
day_is_new : (cs : List RowWrite) (w : WorldLists) → IsDayLast w.branches cs → (d : BranchDay) → Contains cs (write.Day d) → IsIn (all_written cs w) (write.Day d) × (¬ IsIn w (write.Day d))
day_is_new [] w last d there = absurd (none_there there)
day_is_new (write.Day e ∷ cs) w last d there = elim (Contains-cons_cases (write.Day e) cs (write.Day d) there) [
  | inl is ↦
      let same : e ≡ d = cc in
      let row = last.1.0 in
      let of = (found_row branch_key e.branch w.branches row last.1.1).1 in
      let now : IsIn (written (write.Day e) w) (write.Day e) = ap (option_map (λ (b : Branch). b.day)) (found_made branch_key e.branch (on_day e.day) w.branches row of last.1.1) in
      let before : ¬ IsIn w (write.Day e) = λ was. other_day row.day e.day last.1.2 (sym (ap (option_map (λ (b : Branch). b.day)) last.1.1) ∙ was) in
      (subst (λ (day : BranchDay). IsIn (all_written cs (written (write.Day e) w)) (write.Day day)) same (subst (λ rest. IsIn (all_written rest (written (write.Day e) w)) (write.Day e)) (sym last.0) now), subst (λ (day : BranchDay). ¬ IsIn w (write.Day day)) same before)
  | inr later ↦ absurd (none_there (subst (λ rest. Contains rest (write.Day d)) last.0 later))
]
  where
    other_day : (n m : ℕ) → n ≢ m → Some n ≡ Some m → ⊥
    other_day n m other same = let is : n ≡ m = cc in other is
day_is_new (c ∷ cs) w last d there = elim (Contains-cons_cases c cs (write.Day d) there) [
  | inl is ↦ absurd cc
  | inr later ↦ day_is_new cs (written c w) last d later
]

-- ---- all of them

pub each_is_new : (cs : List RowWrite) (w : WorldLists) → OfBooks cs → IsDayLast w.branches cs → HasDistinctKeys (all_written cs w) → (row : RowWrite) → Contains cs row
    → IsIn (all_written cs w) row × (¬ IsIn w row)
each_is_new cs w books last keys (write.Account a) is = (
  is_there account_key (λ v. v.accounts) write.Account (λ row v. refl) one_account cs w books a is,
  was_not account_key (λ v. v.accounts) write.Account (λ row v. refl) one_account cs w books keys.accounts a is,
)
each_is_new cs w books last keys (write.Entry e) is = (
  is_there entry_key (λ v. v.entries) write.Entry (λ row v. refl) one_entry cs w books e is,
  was_not entry_key (λ v. v.entries) write.Entry (λ row v. refl) one_entry cs w books keys.entries e is,
)
each_is_new cs w books last keys (write.Line l) is = (
  is_there line_key (λ v. v.lines) write.Line (λ row v. refl) one_line cs w books l is,
  was_not line_key (λ v. v.lines) write.Line (λ row v. refl) one_line cs w books keys.lines l is,
)
each_is_new cs w books last keys (write.Proof p) is = (
  is_there proof_key (λ v. v.proofs) write.Proof (λ row v. refl) one_proof cs w books p is,
  was_not proof_key (λ v. v.proofs) write.Proof (λ row v. refl) one_proof cs w books keys.proofs p is,
)
each_is_new cs w books last keys (write.Release r) is = (
  is_there release_key (λ v. v.releases) write.Release (λ row v. refl) one_release cs w books r is,
  was_not release_key (λ v. v.releases) write.Release (λ row v. refl) one_release cs w books keys.releases r is,
)
each_is_new cs w books last keys (write.Day d) is = day_is_new cs w last d is
each_is_new cs w books last keys (write.Used k) is = absurd (false≢true (each_of (λ c. is_of_books c ≡ true) cs books (write.Used k) is))
each_is_new cs w books last keys (write.Slip s) is = absurd (false≢true (each_of (λ c. is_of_books c ≡ true) cs books (write.Slip s) is))
each_is_new cs w books last keys (write.Session s) is = absurd (false≢true (each_of (λ c. is_of_books c ≡ true) cs books (write.Session s) is))
each_is_new cs w books last keys (write.Policy c) is = absurd (false≢true (each_of (λ c. is_of_books c ≡ true) cs books (write.Policy c) is))

one_beside : (c : RowWrite) (w : WorldLists) → is_of_books c ≡ true → ((written c w).tellers ≡ w.tellers) × ((written c w).slips ≡ w.slips)
one_beside (write.Slip s) w is = absurd cc
one_beside _ w is = (refl, refl)

beside : (cs : List RowWrite) (w : WorldLists) → OfBooks cs → ((all_written cs w).tellers ≡ w.tellers) × ((all_written cs w).slips ≡ w.slips)
beside [] w books = (refl, refl)
beside (c ∷ cs) w books =
    let rest = beside cs (written c w) books.1 in
    let first = one_beside c w books.0 in
    (rest.0 ∙ first.0, rest.1 ∙ first.1)

-- each other row was there before
pub record AddsNoMore (cs : List RowWrite) (w after : WorldLists) : Type 0 where
  pub branches : (b : Branch) → Contains after.branches b → Contains w.branches b ⊎ IsOnAnotherDay w cs b
  pub tellers : after.tellers ≡ w.tellers
  pub accounts : (a : Account) → Contains after.accounts a → Contains w.accounts a ⊎ Contains cs (write.Account a)
  pub entries : (e : Entry) → Contains after.entries e → Contains w.entries e ⊎ Contains cs (write.Entry e)
  pub lines : (l : CashLine) → Contains after.lines l → Contains w.lines l ⊎ Contains cs (write.Line l)
  pub proofs : (p : Proof) → Contains after.proofs p → Contains w.proofs p ⊎ Contains cs (write.Proof p)
  pub releases : (r : Release) → Contains after.releases r → Contains w.releases r ⊎ Contains cs (write.Release r)
  pub slips : after.slips ≡ w.slips

pub adds_no_more : (cs : List RowWrite) (w : WorldLists) → OfBooks cs → AddsNoMore cs w (all_written cs w)
adds_no_more cs w books = record {
  branches = branches_added cs w;
  tellers = (beside cs w books).0;
  accounts = added account_key (λ v. v.accounts) write.Account (λ row v. refl) one_account cs w books;
  entries = added entry_key (λ v. v.entries) write.Entry (λ row v. refl) one_entry cs w books;
  lines = added line_key (λ v. v.lines) write.Line (λ row v. refl) one_line cs w books;
  proofs = added proof_key (λ v. v.proofs) write.Proof (λ row v. refl) one_proof cs w books;
  releases = added release_key (λ v. v.releases) write.Release (λ row v. refl) one_release cs w books;
  slips = (beside cs w books).1;
}
