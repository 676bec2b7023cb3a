-- The members of a set at their places, one after another.
use Rattle.std.proofs.Common.{◌≡◌, ◌∙◌, ◌+◌, ◌<◌, ℕ, List, [], ◌∷◌, ◌++◌, length, map, take, get_or, refl, ap, arith, sym, subst, ◌^◌, Result, IsTrue, OnOk}
use Rattle.std.specs.Prelude.{⊤}
use Rattle.std.specs.List.{enumerate_from}
use Rattle.std.proofs.lemmas.List.{length-take-le, map-append, take_more}
use Rattle.sqlite.specs.State.{HasCleanDisk, State}
use Rattle.keyed_rows.specs.Ordered.{add_row}
use Rattle.bank_policy.specs.SetRow.{SetRow}
use Rattle.bank_policy.specs.declared.rows.Member.{Member}
use Rattle.bank_policy.specs.declared.policy_write.PolicyWrite.TheVariants as policy
use Rattle.bank_books.specs.Effects.{written}
use Rattle.bank_books.specs.declared.row_write.RowWrite.TheVariants as write
use Rattle.book_kept.specs.Changes.{IsNew, add_rows, policy_sheets}
use Rattle.book_kept.specs.Records.{member_row, member_rows}
use Rattle.book_kept.specs.Sheets.{Sheets, member_no}
use Rattle.book_kept.specs.Named.{IsFree}
use Rattle.book_kept.specs.declared.records.MemberRow.{MemberRow}
use Rattle.sql_schema.specs.Held.{HoldsTables, set_no}
use Rattle.sql_schema.specs.Steps.{LeavesNone, Moves, Steps, Tells}
use Rattle.sql_schema.proofs.StepLemmas.{early, ok_weaker}
use Rattle.sql_writes.proofs.KeptLemmas.{policy_moves}
use Rattle.sql_writes.proofs.ThenLemmas.{SteppedBy, stepped_then, steps_then}

abbrev pub places_of : ℕ → List Member → List MemberRow
places_of set members = map (member_row set) (enumerate_from 1 members)

add_rows-last : {X : Type 0} (key : X → ℕ) (xs : List X) (x : X) (rows : List X) → add_rows key (xs ++ x ∷ []) rows ≡ add_row key x (add_rows key xs rows)
add_rows-last key [] x rows = refl
add_rows-last key (y ∷ xs) x rows = add_rows-last key xs x (add_row key y rows)

enumerate-last : {X : Type 0} (n : ℕ) (xs : List X) (x : X) → enumerate_from n (xs ++ x ∷ []) ≡ enumerate_from n xs ++ (n + length xs, x) ∷ []
enumerate-last n [] x = ap (λ k. (k, x) ∷ []) (omega arith)
enumerate-last {X} n (y ∷ xs) x = ap (λ ys. (n, y) ∷ ys) (enumerate-last (n + 1) xs x ∙ ap (λ k. enumerate_from (n + 1) xs ++ (k, x) ∷ []) (omega arith))

-- the member at an index is at the place after it
pub place_more : (set : ℕ) (members : List Member) (i : ℕ) (m : Member) (rows : List MemberRow) → i < length members → m ≡ get_or members i m
    → add_row member_no (record { set = set; place = i + 1; member = m }) (add_rows member_no (places_of set (take i members)) rows) ≡ add_rows member_no (places_of set (take (i + 1) members)) rows
place_more set members i m rows below at =
    ap (λ x. add_row member_no x (add_rows member_no (places_of set (take i members)) rows)) same
    ∙ sym (ap (λ xs. add_rows member_no (places_of set xs) rows) (take_more members i m below)
    ∙ ap (λ xs. add_rows member_no (map (member_row set) xs) rows) (enumerate-last 1 (take i members) (get_or members i m))
    ∙ ap (λ xs. add_rows member_no xs rows) (map-append (member_row set) (enumerate_from 1 (take i members)) ((1 + length (take i members), get_or members i m) ∷ []))
    ∙ add_rows-last member_no (places_of set (take i members)) (member_row set (1 + length (take i members), get_or members i m)) rows)
  where
    number : i + 1 ≡ 1 + length (take i members)
    number = omega (arith, length-take-le i members (omega (arith, below)))

    same : ◌≡◌ {A = MemberRow} (record { set = set; place = i + 1; member = m }) (record { set = set; place = 1 + length (take i members); member = get_or members i m })
    same = λ k. record { set = set; place = number k; member = at k }

-- one member more
pub member_done : (first mid last : State) (set there place i : ℕ) (members these : List Member) (m : Member) → there ≡ set → these ≡ members → place ≡ i → i < length these → m ≡ get_or these i m
    → SteppedBy first mid (λ s. record s { members = add_rows member_no (places_of set (take i members)) s.members }) → LeavesNone mid last
    → SteppedBy mid last (λ s. record s { members = add_row member_no (record { set = there; place = place + 1; member = m }) s.members })
    → SteppedBy first last (λ s. record s { members = add_rows member_no (places_of set (take (i + 1) members)) s.members })
member_done first mid last set there place i members these m set_is members_is place_is below at done over step =
    stepped_then first mid last (λ s. record s { members = add_rows member_no (places_of set (take i members)) s.members })
    (λ s. record s { members = add_row member_no (record { set = there; place = place + 1; member = m }) s.members })
    (λ s. record s { members = add_rows member_no (places_of set (take (i + 1) members)) s.members }) done over step
    (λ s. ap (λ (ms : List MemberRow). record s { members = ms })
    (ap (λ (x : MemberRow). add_row member_no x (add_rows member_no (places_of set (take i members)) s.members)) row
    ∙ place_more set members i m s.members (subst (λ ms. i < length ms) members_is below) (subst (λ ms. m ≡ get_or ms i m) members_is at)))
  where
    row : ◌≡◌ {A = MemberRow} (record { set = there; place = place + 1; member = m }) (record { set = set; place = i + 1; member = m })
    row = λ k. record { set = set_is k; place = place_is k + 1; member = m }

-- the number of a set, and then its members
pub set_moves : {X E : Type 0} (old mid new : State) (row : SetRow) (there : ℕ) (result : Result X E) → there ≡ row.set → SteppedBy old mid (λ s. record s { sets = add_row set_no there s.sets })
    → (HasCleanDisk mid → IsTrue old.in_transaction → (s : Sheets) → HoldsTables old.now s → IsFree set_no s.sets there) → LeavesNone mid new
    → Steps mid new (λ s. record s { members = add_rows member_no (member_rows row) s.members }) result → OnOk result (length row.members < 2 ^ 32) → Moves old new (written (write.Policy (policy.Set row))) result
set_moves {X} {E} old mid new row there result is added free over steps few =
    policy_moves old new (policy.Set row) result
    (steps_then old mid new (λ s. record s { sets = add_row set_no there s.sets }) (λ s. record s { members = add_rows member_no (member_rows row) s.members }) (policy_sheets (policy.Set row)) (λ s. ⊤) result added
    (λ clean inside s holds. tt) over steps (λ s holds stated. ap (λ n. record s { sets = add_row set_no n s.sets; members = add_rows member_no (member_rows row) s.members }) is))
    new_set
  where
    new_set : Tells old new (IsNew (policy.Set row)) result
    new_set clean inside s holds = ok_weaker result _ _ (λ small. (subst (IsFree set_no s.sets) is (free (early mid new _ over clean) inside s holds), small)) few
