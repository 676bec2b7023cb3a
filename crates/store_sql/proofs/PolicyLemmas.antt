-- What the tables of the policy say of a World.
use Rattle.std.proofs.Common.{◌≡◌, ◌<◌, ◌^◌, ℕ, List, [], ◌∷◌, map, Bool, cond, Option, Some, None, refl, ap, sym, ◌∙◌, ◌==◌, ◌||◌, Contains}
use Rattle.std.specs.Prelude.{option_map}
use Rattle.std.specs.List.{find, list_any}
use Rattle.keyed_rows.proofs.Rows.{Contains-head, Contains-tail}
use Rattle.bank_policy.specs.HeldRows.{user_row}
use Rattle.bank_policy.specs.declared.rows.User.{User}
use Rattle.bank_books.specs.Keys.{release_key, release_number}
use Rattle.bank_books.specs.WorldLists.{WorldLists}
use Rattle.world_reads.specs.BookReads.{is_release, release}
use Rattle.world_reads.specs.PolicyReads.{user_record, user_record_of}
use Rattle.world_reads.specs.declared.records.UserRecord.{UserRecord}
use Rattle.book_kept.specs.Keepable.{IsKeepable}
use Rattle.book_kept.specs.Records.{kept_user_of}
use Rattle.book_kept.specs.Sheets.{sheets_of, user_no}
use Rattle.book_kept.specs.declared.records.KeptUser.{KeptUser}
use Rattle.book_kept.proofs.PlainKept.{rows_determine_answers}
use Rattle.sql_schema.proofs.KeyTests.{two_parts}
use Rattle.store_sql.specs.Shown.{user_read}

pub user_is : (w : WorldLists) (user : ℕ) → IsKeepable w → (found : Option KeptUser) (stated : Option UserRecord) → stated ≡ option_map user_read found → found ≡ find (λ u. user_no u == user) (sheets_of w).users → stated ≡ user_record w user
user_is w user can found stated is at = is ∙ ap (option_map user_read) (at ∙ (rows_determine_answers w user can).user) ∙ twice (user_row w.policy user)
  where
    twice : (o : Option User) → option_map user_read (option_map (kept_user_of w) o) ≡ option_map (user_record_of w) o
    twice None = refl
    twice (Some u) = refl

pub any-mapped : {X Y : Type 0} (f : X → Y) (p : Y → Bool) (xs : List X) → list_any p (map f xs) ≡ list_any (λ x. p (f x)) xs
any-mapped f p [] = refl
any-mapped f p (x ∷ xs) = ap (λ b. p (f x) || b) (any-mapped f p xs)

pub find_alike : {X : Type 0} (p q : X → Bool) (xs : List X) → ((x : X) → Contains xs x → p x ≡ q x) → find p xs ≡ find q xs
find_alike p q [] same = refl
find_alike p q (x ∷ xs) same =
    ap (λ b. cond b (Some x) (find p xs)) (same x (Contains-head x xs)) ∙ ap (λ o. cond (q x) (Some x) o) (find_alike p q xs (λ y there. same y (Contains-tail x xs y there)))

pub release_is : (w : WorldLists) (user number : ℕ) → number < 2 ^ 32 → IsKeepable w → find (λ r. release_key r == release_number user number) w.releases ≡ release w user number
release_is w user number small can =
    find_alike (λ r. release_key r == release_number user number) (is_release user number) w.releases (λ r there. sym (two_parts r.user r.number user number (can.releases.small r there) small))
