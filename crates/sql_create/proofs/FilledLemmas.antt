-- Rows that are written one after another to tables that hold none are the rows of the World.
use Rattle.std.proofs.Common.{◌≡◌, ◌∙◌, ℕ, ◌<◌, List, [], ◌∷◌, ◌++◌, map, true, cond, Contains, zero, suc, append-nil, refl, ap, arith, sym, subst}
use Rattle.std.specs.Prelude.{nat_le}
use Rattle.std.specs.List.{flat_map}
use Rattle.std.proofs.lemmas.Bool.Decides.{nat_tests}
use Rattle.std.proofs.lemmas.List.{append_assoc}
use Rattle.std.proofs.lemmas.List.Elements.{Contains-append_right}
use Rattle.keyed_rows.specs.Ordered.{add_row}
use Rattle.bank_policy.specs.PolicyKeys.{certifier_key, relation_key, triple_key}
use Rattle.bank_policy.specs.SetRow.{SetRow}
use Rattle.bank_policy.specs.declared.rows.Certifier.{Certifier}
use Rattle.bank_policy.specs.declared.rows.Relation.{Relation}
use Rattle.bank_policy.specs.declared.rows.Triple.{Triple}
use Rattle.bank_books.specs.Keys.{line_key, proof_key, release_key, slip_key}
use Rattle.bank_books.specs.Records.{kept_of, release_count_of, teller_record_of}
use Rattle.bank_books.specs.SlipRow.{SlipRow}
use Rattle.bank_books.specs.WorldLists.{WorldLists}
use Rattle.bank_books.specs.declared.records.AccountRecord.{AccountRecord}
use Rattle.bank_books.specs.declared.records.BranchRecord.{BranchRecord}
use Rattle.bank_books.specs.declared.records.EntryRecord.{EntryRecord}
use Rattle.bank_books.specs.declared.records.ReleaseCount.{ReleaseCount}
use Rattle.bank_books.specs.declared.records.TellerRecord.{TellerRecord}
use Rattle.bank_books.specs.declared.rows.CashLine.{CashLine}
use Rattle.bank_books.specs.declared.rows.Proof.{Proof}
use Rattle.bank_books.specs.declared.rows.Release.{Release}
use Rattle.keyed_rows.proofs.Rows.{Contains-head, Contains-tail, map-map}
use Rattle.book_kept.specs.Changes.{add_rows}
use Rattle.book_kept.specs.Keepable.{IsKeepable, IsOrdered}
use Rattle.book_kept.specs.Records.{kept_teller, kept_user_of, member_rows}
use Rattle.book_kept.specs.Sheets.{Sheets, account_no, branch_no, entry_no, member_no, sheets_of, slip_no, teller_no, user_no}
use Rattle.book_kept.specs.declared.records.KeptUser.{KeptUser}
use Rattle.book_kept.proofs.Rising.{Rises, Rises-from_order}
use Rattle.book_kept.proofs.SheetsDetermine.{sheets_are_ordered}
use Rattle.sql_schema.specs.Held.{set_no}
use Rattle.sql_create.specs.Blank.{bare}
use Rattle.sql_create.specs.Filled.{filled, with_account, with_all, with_branch, with_certifier, with_entry, with_line, with_proof, with_relation, with_release, with_set, with_slip, with_slip_count, slips_in, with_teller, with_triple, with_user}

-- ---- rows in order

at_most : (a b : ℕ) → a < b → nat_le a b ≡ true
at_most a b low = grind (arith, nat_tests)

-- after rows of lower keys a row stands last
add_row-last : {X : Type 0} (key : X → ℕ) (e : X) (xs : List X) → ((x : X) → Contains xs x → key x < key e) → add_row key e xs ≡ xs ++ e ∷ []
add_row-last key e [] low = refl
add_row-last key e (x ∷ xs) low =
    ap (λ b. cond b (x ∷ add_row key e xs) (e ∷ x ∷ xs)) (at_most (key x) (key e) (low x (Contains-head x xs)))
    ∙ ap (λ ys. x ∷ ys) (add_row-last key e xs (λ y there. low y (Contains-tail x xs y there)))

-- where rows rise, those in front lie below one that follows
in_front : {X : Type 0} (key : X → ℕ) (xs : List X) (e : X) (ys : List X) → Rises key (xs ++ e ∷ ys) → (x : X) → Contains xs x → key x < key e
in_front key [] e ys rises x (k, within, is) = absurd (omega (arith, within))
in_front key (y ∷ xs) e ys rises x (zero, within, is) = subst (λ z. key z < key e) is (rises.0 e (Contains-append_right xs (e ∷ ys) e (Contains-head e ys)))
in_front key (y ∷ xs) e ys rises x (suc k, within, is) = in_front key xs e ys rises.1 x (k, omega (arith, within), is)

add_rows-rising : {X : Type 0} (key : X → ℕ) (ys xs : List X) → Rises key (xs ++ ys) → add_rows key ys xs ≡ xs ++ ys
add_rows-rising key [] xs rises = sym (append-nil xs)
add_rows-rising key (y ∷ ys) xs rises =
    let assoc : (xs ++ y ∷ []) ++ ys ≡ xs ++ y ∷ ys = append_assoc xs (y ∷ []) ys in
    ap (add_rows key ys) (add_row-last key y xs (in_front key xs y ys rises)) ∙ add_rows-rising key ys (xs ++ y ∷ []) (subst (Rises key) (sym assoc) rises) ∙ assoc

-- rows in order of keys that differ, each put at its place among those before it
in_place : {X : Type 0} (key : X → ℕ) (xs : List X) → IsOrdered key xs → add_rows key xs [] ≡ xs
in_place key xs ordered = add_rows-rising key xs [] (Rises-from_order key xs ordered.in_order ordered.distinct)

-- the same where none were there
placed : {X : Type 0} (key : X → ℕ) (xs there : List X) → there ≡ [] → IsOrdered key xs → add_rows key xs there ≡ xs
placed key xs there none ordered = ap (add_rows key xs) none ∙ in_place key xs ordered

add_rows-append : {X : Type 0} (key : X → ℕ) (xs ys there : List X) → add_rows key (xs ++ ys) there ≡ add_rows key ys (add_rows key xs there)
add_rows-append key [] ys there = refl
add_rows-append key (x ∷ xs) ys there = add_rows-append key xs ys (add_row key x there)

-- ---- of each table

users_added : (xs : List KeptUser) (s : Sheets) → with_all with_user xs s ≡ record s { users = add_rows user_no xs s.users }
users_added [] s = refl
users_added (x ∷ xs) s = users_added xs (with_user x s)

users_are : (xs : List KeptUser) (s : Sheets) → s.users ≡ [] → IsOrdered user_no xs → with_all with_user xs s ≡ record s { users = xs }
users_are xs s none ordered = users_added xs s ∙ ap (λ rows. record s { users = rows }) (placed user_no xs s.users none ordered)

relations_added : (xs : List Relation) (s : Sheets) → with_all with_relation xs s ≡ record s { relations = add_rows relation_key xs s.relations }
relations_added [] s = refl
relations_added (x ∷ xs) s = relations_added xs (with_relation x s)

relations_are : (xs : List Relation) (s : Sheets) → s.relations ≡ [] → IsOrdered relation_key xs → with_all with_relation xs s ≡ record s { relations = xs }
relations_are xs s none ordered = relations_added xs s ∙ ap (λ rows. record s { relations = rows }) (placed relation_key xs s.relations none ordered)

triples_added : (xs : List Triple) (s : Sheets) → with_all with_triple xs s ≡ record s { triples = add_rows triple_key xs s.triples }
triples_added [] s = refl
triples_added (x ∷ xs) s = triples_added xs (with_triple x s)

triples_are : (xs : List Triple) (s : Sheets) → s.triples ≡ [] → IsOrdered triple_key xs → with_all with_triple xs s ≡ record s { triples = xs }
triples_are xs s none ordered = triples_added xs s ∙ ap (λ rows. record s { triples = rows }) (placed triple_key xs s.triples none ordered)

certifiers_added : (xs : List Certifier) (s : Sheets) → with_all with_certifier xs s ≡ record s { certifiers = add_rows certifier_key xs s.certifiers }
certifiers_added [] s = refl
certifiers_added (x ∷ xs) s = certifiers_added xs (with_certifier x s)

certifiers_are : (xs : List Certifier) (s : Sheets) → s.certifiers ≡ [] → IsOrdered certifier_key xs → with_all with_certifier xs s ≡ record s { certifiers = xs }
certifiers_are xs s none ordered = certifiers_added xs s ∙ ap (λ rows. record s { certifiers = rows }) (placed certifier_key xs s.certifiers none ordered)

branches_added : (xs : List BranchRecord) (s : Sheets) → with_all with_branch xs s ≡ record s { branches = add_rows branch_no xs s.branches }
branches_added [] s = refl
branches_added (x ∷ xs) s = branches_added xs (with_branch x s)

branches_are : (xs : List BranchRecord) (s : Sheets) → s.branches ≡ [] → IsOrdered branch_no xs → with_all with_branch xs s ≡ record s { branches = xs }
branches_are xs s none ordered = branches_added xs s ∙ ap (λ rows. record s { branches = rows }) (placed branch_no xs s.branches none ordered)

accounts_added : (xs : List AccountRecord) (s : Sheets) → with_all with_account xs s ≡ record s { accounts = add_rows account_no xs s.accounts }
accounts_added [] s = refl
accounts_added (x ∷ xs) s = accounts_added xs (with_account x s)

accounts_are : (xs : List AccountRecord) (s : Sheets) → s.accounts ≡ [] → IsOrdered account_no xs → with_all with_account xs s ≡ record s { accounts = xs }
accounts_are xs s none ordered = accounts_added xs s ∙ ap (λ rows. record s { accounts = rows }) (placed account_no xs s.accounts none ordered)

entries_added : (xs : List EntryRecord) (s : Sheets) → with_all with_entry xs s ≡ record s { entries = add_rows entry_no xs s.entries }
entries_added [] s = refl
entries_added (x ∷ xs) s = entries_added xs (with_entry x s)

entries_are : (xs : List EntryRecord) (s : Sheets) → s.entries ≡ [] → IsOrdered entry_no xs → with_all with_entry xs s ≡ record s { entries = xs }
entries_are xs s none ordered = entries_added xs s ∙ ap (λ rows. record s { entries = rows }) (placed entry_no xs s.entries none ordered)

lines_added : (xs : List CashLine) (s : Sheets) → with_all with_line xs s ≡ record s { lines = add_rows line_key xs s.lines }
lines_added [] s = refl
lines_added (x ∷ xs) s = lines_added xs (with_line x s)

lines_are : (xs : List CashLine) (s : Sheets) → s.lines ≡ [] → IsOrdered line_key xs → with_all with_line xs s ≡ record s { lines = xs }
lines_are xs s none ordered = lines_added xs s ∙ ap (λ rows. record s { lines = rows }) (placed line_key xs s.lines none ordered)

proofs_added : (xs : List Proof) (s : Sheets) → with_all with_proof xs s ≡ record s { proofs = add_rows proof_key xs s.proofs }
proofs_added [] s = refl
proofs_added (x ∷ xs) s = proofs_added xs (with_proof x s)

proofs_are : (xs : List Proof) (s : Sheets) → s.proofs ≡ [] → IsOrdered proof_key xs → with_all with_proof xs s ≡ record s { proofs = xs }
proofs_are xs s none ordered = proofs_added xs s ∙ ap (λ rows. record s { proofs = rows }) (placed proof_key xs s.proofs none ordered)

releases_added : (xs : List Release) (s : Sheets) → with_all with_release xs s ≡ record s { releases = add_rows release_key xs s.releases }
releases_added [] s = refl
releases_added (x ∷ xs) s = releases_added xs (with_release x s)

releases_are : (xs : List Release) (s : Sheets) → s.releases ≡ [] → IsOrdered release_key xs → with_all with_release xs s ≡ record s { releases = xs }
releases_are xs s none ordered = releases_added xs s ∙ ap (λ rows. record s { releases = rows }) (placed release_key xs s.releases none ordered)

slips_added : (xs : List SlipRow) (s : Sheets) → with_all with_slip xs s ≡ record s { slips = add_rows slip_key xs s.slips }
slips_added [] s = refl
slips_added (x ∷ xs) s = slips_added xs (with_slip x s)

slips_are : (xs : List SlipRow) (s : Sheets) → s.slips ≡ [] → IsOrdered slip_key xs → with_all with_slip xs s ≡ record s { slips = xs }
slips_are xs s none ordered = slips_added xs s ∙ ap (λ rows. record s { slips = rows }) (placed slip_key xs s.slips none ordered)

counts_added : (xs : List ReleaseCount) (s : Sheets) → with_all with_slip_count xs s ≡ record s { slip_counts = add_rows slip_no (map slips_in xs) s.slip_counts }
counts_added [] s = refl
counts_added (x ∷ xs) s = counts_added xs (with_slip_count x s)

counts_are : (xs : List ReleaseCount) (s : Sheets) → s.slip_counts ≡ [] → IsOrdered slip_no (map slips_in xs) → with_all with_slip_count xs s ≡ record s { slip_counts = map slips_in xs }
counts_are xs s none ordered = counts_added xs s ∙ ap (λ rows. record s { slip_counts = rows }) (placed slip_no (map slips_in xs) s.slip_counts none ordered)

tellers_added : (xs : List TellerRecord) (s : Sheets) → with_all with_teller xs s ≡ record s { tellers = add_rows teller_no (map kept_teller xs) s.tellers }
tellers_added [] s = refl
tellers_added (x ∷ xs) s = tellers_added xs (with_teller x s)

tellers_are : (xs : List TellerRecord) (s : Sheets) → s.tellers ≡ [] → IsOrdered teller_no (map kept_teller xs) → with_all with_teller xs s ≡ record s { tellers = map kept_teller xs }
tellers_are xs s none ordered = tellers_added xs s ∙ ap (λ rows. record s { tellers = rows }) (placed teller_no (map kept_teller xs) s.tellers none ordered)

abbrev numbers : List SetRow → List ℕ
numbers rows = map (λ row. row.set) rows

sets_added : (xs : List SetRow) (s : Sheets) → with_all with_set xs s ≡ record s { sets = add_rows set_no (numbers xs) s.sets; members = add_rows member_no (flat_map member_rows xs) s.members }
sets_added [] s = refl
sets_added (x ∷ xs) s =
    sets_added xs (with_set x s)
    ∙ sym (ap (λ rows. record s { sets = add_rows set_no (numbers (x ∷ xs)) s.sets; members = rows }) (add_rows-append member_no (member_rows x) (flat_map member_rows xs) s.members))

sets_are : (xs : List SetRow) (s : Sheets) → s.sets ≡ [] → s.members ≡ [] → IsOrdered set_no (numbers xs) → IsOrdered member_no (flat_map member_rows xs)
    → with_all with_set xs s ≡ record s { sets = numbers xs; members = flat_map member_rows xs }
sets_are xs s none nobody ordered places =
    sets_added xs s ∙ (λ i. record s { sets = placed set_no (numbers xs) s.sets none ordered i; members = placed member_no (flat_map member_rows xs) s.members nobody places i })

-- ---- of all tables

pub filled_is : (w : WorldLists) → IsKeepable w → filled w (bare w.version) ≡ sheets_of w
filled_is w can =
    let rows = sheets_of w in
    let k = kept_of w in
    let order = sheets_are_ordered w can in
    let users = map (kept_user_of w) w.policy.users in
    let tellers_same : map kept_teller k.tellers ≡ rows.tellers = map-map (teller_record_of w) kept_teller w.tellers in
    let s0 : Sheets = bare w.version in
    let s1 : Sheets = record s0 { users = rows.users } in
    let s2 : Sheets = record s1 { sets = rows.sets; members = rows.members } in
    let s3 : Sheets = record s2 { relations = rows.relations } in
    let s4 : Sheets = record s3 { triples = rows.triples } in
    let s5 : Sheets = record s4 { certifiers = rows.certifiers } in
    let s6 : Sheets = record s5 { branches = rows.branches } in
    let s7 : Sheets = record s6 { tellers = rows.tellers } in
    let s8 : Sheets = record s7 { accounts = rows.accounts } in
    let s9 : Sheets = record s8 { entries = rows.entries } in
    let s10 : Sheets = record s9 { lines = rows.lines } in
    let s11 : Sheets = record s10 { proofs = rows.proofs } in
    let s12 : Sheets = record s11 { releases = rows.releases } in
    let s13 : Sheets = record s12 { slips = rows.slips } in
    let counts_same : map slips_in k.users ≡ rows.slip_counts = map-map (release_count_of w) slips_in w.policy.users in
    ap (with_all with_slip_count k.users) ((ap (with_all with_slip w.slips) ((ap (with_all with_release w.releases) ((ap (with_all with_proof w.proofs) ((ap (with_all with_line w.lines) ((ap (with_all with_entry k.entries) ((ap (with_all with_account k.accounts) ((ap (with_all with_teller k.tellers) ((ap (with_all with_branch k.branches) ((ap (with_all with_certifier w.policy.certifiers) ((ap (with_all with_triple w.policy.triples) ((ap (with_all with_relation w.policy.relations) ((ap (with_all with_set w.policy.sets) (users_are users s0 refl order.users)
    ∙ sets_are w.policy.sets s1 refl refl order.sets order.members))
    ∙ relations_are w.policy.relations s2 refl order.relations))
    ∙ triples_are w.policy.triples s3 refl order.triples))
    ∙ certifiers_are w.policy.certifiers s4 refl order.certifiers))
    ∙ branches_are k.branches s5 refl order.branches))
    ∙ (tellers_are k.tellers s6 refl (subst (IsOrdered teller_no) (sym tellers_same) order.tellers) ∙ ap (λ ts. record s6 { tellers = ts }) tellers_same)))
    ∙ accounts_are k.accounts s7 refl order.accounts))
    ∙ entries_are k.entries s8 refl order.entries))
    ∙ lines_are w.lines s9 refl order.lines))
    ∙ proofs_are w.proofs s10 refl order.proofs))
    ∙ releases_are w.releases s11 refl order.releases))
    ∙ slips_are w.slips s12 refl order.slips))
    ∙ (counts_are k.users s13 refl (subst (IsOrdered slip_no) (sym counts_same) order.slip_counts) ∙ ap (λ cs. record s13 { slip_counts = cs }) counts_same)
