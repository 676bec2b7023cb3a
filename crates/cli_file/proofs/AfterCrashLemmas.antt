-- What a crash leaves of a bank in a file, as an image, from what it leaves as trees.
use Rattle.std.proofs.Common.{◌≡◌, ℕ, zero, suc, inl, inr, List, [], ◌∷◌, Some, None, length, take, refl, sym, ap, subst}
use Rattle.std.specs.Prelude.{slice_get}
use Rattle.std.proofs.Math.Logic.{∥∥₁_map}
use Rattle.std.proofs.lemmas.List.Elements.{All-cons, All-head, All-nil, All-tail}
use Rattle.sqlite_disk.specs.declared.Disk.{Ghosts}
use Rattle.sqlite_store.specs.FileStore.{recovers}
use Rattle.sqlite.specs.declared.FileStore.{FileStore}
use Rattle.sqlite.specs.Held.{AreDatabases, Held}
use Rattle.sqlite.specs.Tree.{Trees}
use Rattle.sqlite.proofs.Theorems.{opens_again}
use Rattle.bank_books.specs.WorldLists.{WorldLists}
use Rattle.bank_meaning.specs.Run.{Marked, step, world_after}
use Rattle.bank_meaning.specs.Sums.{IsProper, PassesChecks}
use Rattle.bank_meaning.specs.declared.request.Request.{Request}
use Rattle.bank_meaning.proofs.RunSums.{sums_always_agree}
use Rattle.store_rows.specs.Status.{Status}
use Rattle.counter_api.specs.Run.{AreInRange, requests_of}
use Rattle.counter_api.proofs.RunLemmas.{proper_of}
use Rattle.sql_schema.specs.Held.{AreOfWorld}
use Rattle.sql_schema.specs.Schema.{newest, schema_of}
use Rattle.cli_file.specs.AfterCrash.{BeginsWith, IsNumbered, LeavesImages, OpensAfterCrash, PassesOverCrash}
use Rattle.cli_file.specs.Crash.{IsLeftByCrash}
use Rattle.cli_file.specs.Moments.{IsLeftWithin}
use Rattle.cli_file.specs.Opened.{IsBankImage}
use Rattle.cli_file.proofs.OpenedLemmas.{opens_as_its_bank}

-- ---- images

module _ {C D : Type 0} {f : Ghosts C} {g : Ghosts D} (next : Held (FileStore D g)) where
  -- whatever trees a crash leaves are of a World of which this is said
  leaves_images : (left : FileStore C f) (P : WorldLists → Type 0) → IsNumbered left → ((trees : Trees) → recovers left trees → (w : WorldLists) × AreOfWorld w trees × P w) → LeavesImages left next P
  leaves_images left P numbered leaves image may =
      let sound : AreDatabases (recovers left) = λ trees is. (schema_of newest, (leaves trees is).1.listed) in
      ∥∥₁_map (opens_again left numbered sound image may) (λ found.
      let is = leaves found.0 found.1 in
      let bank : IsBankImage image is.0 = record { trees = found.0; held = ∣ found.2 ∣₁; of_world = is.1 } in
      let begins : BeginsWith image next P = record { world = is.0; said = is.2; bank = bank; opens = λ from clean. opens_as_its_bank next image is.0 bank from clean } in
      begins)

pub opens_after_crash : {C D : Type 0} (f : Ghosts C) {g : Ghosts D} (next : Held (FileStore D g)) → OpensAfterCrash f next
opens_after_crash f next = record {
  worlds = λ store numbered whole. leaves_images next store.conn.store _ numbered (λ trees may.
      let is = whole trees may in
      (is.0, is.1, (trees, may, is.1)));
  day = λ users w ms ended numbered day. leaves_images next ended.conn.store _ numbered (λ trees may.
      let is = day.whole trees may in
      (is.0, is.1, (day.leaves is.0 (trees, may, is.1), day.sent_again is.0 (trees, may, is.1))));
  under_way = λ users w over more store numbered way. leaves_images next store.conn.store _ numbered (λ trees may.
      let is = way.whole trees may in
      (is.0, is.1, (way.leaves is.0 (trees, may, is.1), way.sent_again is.0 (trees, may, is.1))));
  unclosed = λ w requests rest numbered clean leaves. leaves_images next rest (IsLeftByCrash w requests) numbered (λ trees may. leaves clean trees may);
}

-- ---- both checks

at_place : (requests : List Marked) (place : ℕ) (m : Marked) → AreInRange requests → slice_get requests place ≡ Some m → IsProper m.request
at_place [] place m proper is = absurd cc
at_place (x ∷ []) zero m proper is = let same : x ≡ m = cc in subst (λ (z : Marked). IsProper z.request) same (All-head (λ m. IsProper m.request) x [] proper)
at_place (x ∷ (y ∷ ms)) zero m proper is = let same : x ≡ m = cc in subst (λ (z : Marked). IsProper z.request) same (All-head (λ m. IsProper m.request) x (y ∷ ms) proper)
at_place (x ∷ ms) (suc place) m proper is = at_place ms place m (All-tail (λ m. IsProper m.request) x ms proper) is

all_taken : (requests : List Marked) → take (length requests) requests ≡ requests
all_taken [] = refl
all_taken (m ∷ ms) = ap (λ rest. m ∷ rest) (all_taken ms)

-- after all of them
passes_after : (w : WorldLists) (requests : List Marked) → PassesChecks w → AreInRange requests → PassesChecks (world_after w requests)
passes_after w requests checks proper =
    subst (λ ms. PassesChecks (world_after w ms)) (all_taken requests) ((sums_always_agree w requests checks (proper_of requests proper)).checks (length requests))

passes_with : (w : WorldLists) (q : Request) → PassesChecks w → IsProper q → PassesChecks (step w q)
passes_with w q checks proper =
    (sums_always_agree w (record { request = q; mark = None } ∷ []) checks (All-cons (λ m. m.mark ≡ None → IsProper m.request) (record { request = q; mark = None }) [] (λ made. proper)
    (All-nil (λ m. m.mark ≡ None → IsProper m.request)))).checks 1

passes_left : (w : WorldLists) (requests : List Marked) (left : WorldLists) → PassesChecks w → AreInRange requests → IsLeftByCrash w requests left → PassesChecks left
passes_left w requests left checks proper (inl is) = subst PassesChecks (sym is) (passes_after w requests checks proper)
passes_left w requests left checks proper (inr (q, one, is)) =
    subst PassesChecks (sym is) (passes_with (world_after w requests) q (passes_after w requests checks proper)
    (at_place requests one.place (record { request = q; mark = Some one.fault }) proper one.there))

passes_within : (w : WorldLists) (over more : List Marked) (left : WorldLists) → PassesChecks w → AreInRange over → AreInRange more → IsLeftWithin w over more left → PassesChecks left
passes_within w over more left checks proper also (inl is) = passes_left w over left checks proper is
passes_within w over more left checks proper also (inr (m, one, is)) =
    subst PassesChecks (sym is) (passes_with (world_after w over) m.request (passes_after w over checks proper)
    (All-head (λ m. IsProper m.request) m [] (subst AreInRange one also)))

pub passes_over_crash : {S : Type 0} (status : S → Status) → PassesOverCrash status
passes_over_crash status = record {
  after = λ users w ms ended day left is. passes_left w (requests_of users ms) left day.checked day.in_range is;
  within = λ users w over more now next day way left is. passes_within w (requests_of users over) (requests_of users more) left day.checked day.in_range way.in_range is;
}
