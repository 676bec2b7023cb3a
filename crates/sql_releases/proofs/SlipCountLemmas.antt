-- What the question for a count of slips shows.
use Rattle.std.proofs.Common.{◌≡◌, ◌≤◌, ℕ, pos, List, [], ◌∷◌, map, filter, length, codes, false, refl, ap, sym, ◌∙◌, subst, ◌==◌}
use Rattle.sqlite.specs.Listing.{understood}
use Rattle.sqlite_tied.specs.Compute.{everything}
use Rattle.book_kept.specs.Sheets.{slip_no}
use Rattle.sql_schema.specs.Cells.{AnyRow, slip_count_cells}
use Rattle.sql_schema.specs.Held.Sheet.{slip_counts as in_slip_counts}
use Rattle.sql_schema.specs.HeldRows.{all_of_it}
use Rattle.sql_schema.proofs.ReadLemmas.{by_key, one_equals}
use Rattle.sql_schema.specs.Shown.{shown_slip_count}
use Rattle.sql_schema.proofs.TableNames.{find, cons_option, Int, Select, reads_listing, Row, Shown, State, Term, col, IsPlain, command_of, Sheets, HoldsTables, bank_schema, one_of_key, alone, answered, no_limit, no_offset, scan, at_most_one, few_mapped}
use Rattle.sql_releases.specs.Texts.{slip_count_text}

-- ---- SELECT

abbrev count_columns : List Term
count_columns = col 1 0 ∷ col 1 2 ∷ []

pub slip_count_is : (command_of (understood bank_schema slip_count_text) ≡ Select (record { lets = []; body = scan 27 by_key count_columns [] no_limit no_offset })
    (codes "user_no" ∷ codes "slips" ∷ []))
    × (reads_listing bank_schema slip_count_text ≡ false) × IsPlain (understood bank_schema slip_count_text)
unfolding understood everything
slip_count_is = (refl, refl, (refl, refl))

pub selects_slip_count : (old new : State) (s : Sheets) (user : ℕ) (rows : List Row) → HoldsTables old.now s → Shown slip_count_text (Int (pos user) ∷ []) old new rows
    → rows ≡ map shown_slip_count (cons_option (find (λ u. slip_no u == user) s.slip_counts) [])
selects_slip_count old new s user rows holds h =
    let params = Int (pos user) ∷ [] in
    let one = one_of_key slip_no user s.slip_counts (holds.rows in_slip_counts).ordered.distinct in
    alone all_of_it (λ c. c) slip_count_cells slip_no AnyRow 27 (λ db. refl) by_key count_columns [] no_limit no_offset params (λ u. slip_no u == user)
    (λ r. (refl, refl)) (λ u. one_equals (slip_no u) user) old.now.trees s.slip_counts rows (holds.rows in_slip_counts)
    (answered slip_count_text _ (scan 27 by_key count_columns [] no_limit no_offset) params slip_count_is.0 slip_count_is.1 slip_count_is.2 old new rows holds.schema h)
    (few_mapped _ (filter (λ u. slip_no u == user) s.slip_counts) (subst (λ l. length l ≤ 1) (sym one) (at_most_one (find (λ u. slip_no u == user) s.slip_counts))))
    ∙ ap (map shown_slip_count) one
