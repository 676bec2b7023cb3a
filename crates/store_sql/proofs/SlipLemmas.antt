-- What the tables of slips say of a World.
use Rattle.std.proofs.Common.{◌≡◌, ◌<◌, ◌^◌, ℕ, Option, Some, None, refl, ap, sym, ◌∙◌, ◌==◌}
use Rattle.std.specs.Option.{option_map_or}
use Rattle.std.specs.Prelude.{option_map}
use Rattle.std.specs.List.{find}
use Rattle.std.proofs.lemmas.Bool.{eq-eqb, false≢true, ne_eqb}
use Rattle.keyed_rows.proofs.Rows.{count_none, found_row, none_passes}
use Rattle.bank_policy.specs.PolicyKeys.{user_key}
use Rattle.bank_policy.specs.declared.rows.User.{User}
use Rattle.bank_books.specs.Keys.{slip_key, slip_number}
use Rattle.bank_books.specs.Records.{slip_count}
use Rattle.bank_books.specs.WorldLists.{WorldLists}
use Rattle.world_reads.specs.BookReads.{is_slip, slip}
use Rattle.book_kept.specs.Keepable.{IsKeepable}
use Rattle.book_kept.specs.Records.{slip_count_of}
use Rattle.book_kept.specs.Sheets.{sheets_of, slip_no}
use Rattle.book_kept.specs.declared.records.SlipCount.{SlipCount}
use Rattle.book_kept.proofs.RowLemmas.{find-map}
use Rattle.sql_schema.proofs.KeyTests.{two_parts}
use Rattle.store_sql.proofs.PolicyLemmas.{find_alike}

pub slip_is : (w : WorldLists) (user number : ℕ) → number < 2 ^ 32 → IsKeepable w → find (λ r. slip_key r == slip_number user number) w.slips ≡ slip w user number
slip_is w user number small can =
    find_alike (λ r. slip_key r == slip_number user number) (is_slip user number) w.slips (λ r there. sym (two_parts r.user r.number user number (can.slips.small r there) small))

-- who is no user has none
pub slips_are : (w : WorldLists) (user : ℕ) → IsKeepable w → (found : Option SlipCount) (n : ℕ) → n ≡ option_map_or (λ c. c.slips) found 0 → found ≡ find (λ c. slip_no c == user) (sheets_of w).slip_counts
    → n ≡ slip_count user w.slips
slips_are w user can found n is at =
    is ∙ ap (λ (o : Option SlipCount). option_map_or (λ c. c.slips) o 0) (at ∙ find-map (λ c. slip_no c == user) (slip_count_of w) w.policy.users) ∙ by (find (λ u. u.user == user) w.policy.users) refl
  where
    by : (o : Option User) → find (λ u. u.user == user) w.policy.users ≡ o → option_map_or (λ c. c.slips) (option_map (slip_count_of w) o) 0 ≡ slip_count user w.slips
    by None none = sym (count_none (λ s. s.user == user) w.slips (λ s there.
        let (u, (among, named)) = can.slips.named s there in
        ne_eqb s.user user (λ same. absurd (false≢true (sym (none_passes (λ u. u.user == user) w.policy.users u none among) ∙ eq-eqb u.user user (named ∙ same))))))
    by (Some u) is_user = ap (λ k. slip_count k w.slips) (found_row user_key user w.policy.users u is_user).1
