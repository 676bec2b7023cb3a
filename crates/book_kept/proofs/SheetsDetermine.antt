-- The rows and the numbers beside them determine the World.
use Rattle.std.proofs.Common.{◌≡◌, ◌≢◌, ℕ, ◌+◌, List, [], ◌∷◌, ◌++◌, map, Bool, true, false, cond, refl, ap, ap₂, sym, ◌∙◌, ◌==◌, Contains, ◌⊎◌, inl, inr, append-nil}
use Rattle.std.specs.List.{enumerate_from, filter, flat_map}
use Rattle.std.proofs.lemmas.Bool.{eq-eqb, ne_eqb}
use Rattle.std.proofs.lemmas.List.Elements.{filter-append}
use Rattle.keyed_rows.specs.Ordered.{AreDistinct}
use Rattle.bank_policy.specs.PolicyKeys.{set_key, user_key}
use Rattle.bank_policy.specs.SetRow.{SetRow}
use Rattle.bank_policy.specs.declared.rows.Member.{Member}
use Rattle.bank_books.specs.Keys.{account_key, branch_key, entry_key, teller_key}
use Rattle.bank_books.specs.WorldLists.{WorldLists}
use Rattle.bank_books.specs.Records.{account_record_of, branch_record_of, entry_record_of}
use Rattle.keyed_rows.proofs.Rows.{Contains-cons_cases, Contains-head, Contains-tail, first_apart, map-made, map-map, none_there}
use Rattle.book_kept.proofs.MemberRows.{each_placed, members_rise}
use Rattle.book_kept.proofs.Rising.{IsOrdered-from_rising, IsOrdered-map, Rises-from_order}
use Rattle.book_kept.proofs.RowLemmas.{map_same}
use Rattle.book_kept.specs.Laws.{SheetsAreOrdered, SheetsDetermineWorld}
use Rattle.book_kept.specs.Records.{kept_teller_of, kept_user_of, member_row, member_rows, slip_count_of}
use Rattle.book_kept.specs.Sheets.{Sheets, account_no, branch_no, entry_no, member_no, sheets_of, teller_no, user_no, slip_no}
use Rattle.book_kept.specs.declared.records.MemberRow.{MemberRow}

-- ---- sets, by their numbers and their members

filter-all : {X : Type 0} (p : X → Bool) (xs : List X) → ((x : X) → Contains xs x → p x ≡ true) → filter p xs ≡ xs
filter-all p [] all = refl
filter-all p (x ∷ xs) all = ap (λ b. cond b (x ∷ filter p xs) (filter p xs)) (all x (Contains-head x xs)) ∙ ap (λ ys. x ∷ ys) (filter-all p xs (λ y there. all y (Contains-tail x xs y there)))

filter-none : {X : Type 0} (p : X → Bool) (xs : List X) → ((x : X) → Contains xs x → p x ≡ false) → filter p xs ≡ []
filter-none p [] none = refl
filter-none p (x ∷ xs) none = ap (λ b. cond b (x ∷ filter p xs) (filter p xs)) (none x (Contains-head x xs)) ∙ filter-none p xs (λ y there. none y (Contains-tail x xs y there))

-- the members of a set among those of all
abbrev pub of_set : ℕ → List MemberRow → List MemberRow
of_set set rows = filter (λ m. m.set == set) rows

own : (s : SetRow) → of_set s.set (member_rows s) ≡ member_rows s
own s = filter-all (λ m. m.set == s.set) (member_rows s) (λ m there. eq-eqb m.set s.set (each_placed s.set 1 s.members m there).of)

of_other : (s : SetRow) (set : ℕ) → s.set ≢ set → of_set set (member_rows s) ≡ []
of_other s set apart = filter-none (λ m. m.set == set) (member_rows s) (λ m there. ne_eqb m.set set (λ same. apart (sym (each_placed s.set 1 s.members m there).of ∙ same)))

of_none : (sets : List SetRow) (set : ℕ) → ((s : SetRow) → Contains sets s → s.set ≢ set) → of_set set (flat_map member_rows sets) ≡ []
of_none [] set apart = refl
of_none (s ∷ sets) set apart =
    filter-append (λ m. m.set == set) (member_rows s) (flat_map member_rows sets)
    ∙ ap₂ (λ xs ys. xs ++ ys) (of_other s set (apart s (Contains-head s sets))) (of_none sets set (λ z there. apart z (Contains-tail s sets z there)))

-- among distinct sets those of one are its own
of_one : (sets : List SetRow) (s : SetRow) → AreDistinct (map set_key sets) → Contains sets s → of_set s.set (flat_map member_rows sets) ≡ member_rows s
of_one [] s distinct there = absurd (none_there there)
of_one (z ∷ sets) s distinct there =
    filter-append (λ m. m.set == s.set) (member_rows z) (flat_map member_rows sets) ∙ by (Contains-cons_cases z sets s there) (of_one sets s distinct.1)
  where
    by : (z ≡ s) ⊎ Contains sets s → (Contains sets s → of_set s.set (flat_map member_rows sets) ≡ member_rows s) → of_set s.set (member_rows z) ++ of_set s.set (flat_map member_rows sets) ≡ member_rows s
    by (inl is) rest =
        ap₂ (λ xs ys. xs ++ ys) (ap (λ y. of_set s.set (member_rows y)) is ∙ own s) (of_none sets s.set (λ y among same. first_apart set_key z sets y distinct among (ap set_key is ∙ sym same)))
        ∙ append-nil (member_rows s)
    by (inr following) rest = ap₂ (λ xs ys. xs ++ ys) (of_other z s.set (first_apart set_key z sets s distinct following)) (rest following)

-- its members stand in them as they are
back : (set first : ℕ) (members : List Member) → map (λ m. m.member) (map (member_row set) (enumerate_from first members)) ≡ members
back set first [] = refl
back set first (x ∷ members) = ap (λ xs. x ∷ xs) (back set (first + 1) members)

-- the set of this number with these members
abbrev pub set_read : List MemberRow → ℕ → SetRow
set_read rows set = record { set = set; members = map (λ m. m.member) (of_set set rows) }

sets_read : (sets : List SetRow) → AreDistinct (map set_key sets) → map (set_read (flat_map member_rows sets)) (map (λ s. s.set) sets) ≡ sets
sets_read sets distinct =
    map-map (λ s. s.set) (set_read (flat_map member_rows sets)) sets
    ∙ map_same (λ s. set_read (flat_map member_rows sets) s.set) (λ s. s) sets
    (λ s there. ap (λ members. record { set = s.set; members = members }) (ap (map (λ m. m.member)) (of_one sets s distinct there) ∙ back s.set 1 s.members)) ∙ map_itself sets
  where
    map_itself : (xs : List SetRow) → map (λ s. s) xs ≡ xs
    map_itself [] = refl
    map_itself (x ∷ xs) = ap (λ ys. x ∷ ys) (map_itself xs)

-- ---- the World

-- the World of which these are the rows
abbrev pub world_read_back : Sheets → WorldLists
world_read_back s = record {
  branches = map (λ b. b.row) s.branches;
  tellers = map (λ t. t.row) s.tellers;
  accounts = map (λ a. a.row) s.accounts;
  entries = map (λ e. e.row) s.entries;
  lines = s.lines;
  proofs = s.proofs;
  releases = s.releases;
  slips = s.slips;
  policy = record {
    users = map (λ u. u.row) s.users;
    sets = map (set_read s.members) s.sets;
    relations = s.relations;
    triples = s.triples;
    certifiers = s.certifiers;
  };
  version = s.version;
}

stated : (w : WorldLists) → AreDistinct (map set_key w.policy.sets) → world_read_back (sheets_of w) ≡ w
stated w distinct =
    let branches = map-made (branch_record_of w) (λ b. b.row) (λ x. refl) w.branches in
    let tellers = map-made (kept_teller_of w) (λ t. t.row) (λ x. refl) w.tellers in
    let accounts = map-made (account_record_of w) (λ a. a.row) (λ x. refl) w.accounts in
    let entries = map-made (entry_record_of w) (λ e. e.row) (λ x. refl) w.entries in
    let users = map-made (kept_user_of w) (λ u. u.row) (λ x. refl) w.policy.users in
    let sets = sets_read w.policy.sets distinct in
    λ i. record w {
      branches = branches i;
      tellers = tellers i;
      accounts = accounts i;
      entries = entries i;
      policy = record w.policy { users = users i; sets = sets i };
    }

pub sheets_determine_world : SheetsDetermineWorld
sheets_determine_world v w can can_too same = sym (stated v can.policy.sets.distinct) ∙ ap world_read_back same ∙ stated w can_too.policy.sets.distinct

-- ---- the order of the rows

pub sheets_are_ordered : SheetsAreOrdered
sheets_are_ordered w can = record {
  branches = IsOrdered-map branch_key branch_no (branch_record_of w) (λ x. refl) w.branches can.branches;
  tellers = IsOrdered-map teller_key teller_no (kept_teller_of w) (λ x. refl) w.tellers can.tellers.ordered;
  accounts = IsOrdered-map account_key account_no (account_record_of w) (λ x. refl) w.accounts can.accounts;
  entries = IsOrdered-map entry_key entry_no (entry_record_of w) (λ x. refl) w.entries can.entries.ordered;
  lines = can.lines.ordered;
  proofs = can.proofs;
  releases = can.releases.ordered;
  slips = can.slips.ordered;
  slip_counts = IsOrdered-map user_key slip_no (slip_count_of w) (λ x. refl) w.policy.users can.policy.users;
  users = IsOrdered-map user_key user_no (kept_user_of w) (λ x. refl) w.policy.users can.policy.users;
  sets = IsOrdered-map set_key (λ n. n) (λ s. s.set) (λ x. refl) w.policy.sets can.policy.sets;
  members =
      IsOrdered-from_rising member_no (flat_map member_rows w.policy.sets)
      (members_rise w.policy.sets (Rises-from_order set_key w.policy.sets can.policy.sets.in_order can.policy.sets.distinct) can.policy.places);
  relations = can.policy.relations;
  triples = can.policy.triples;
  certifiers = can.policy.certifiers;
}
