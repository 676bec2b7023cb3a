-- The policy's lines, of the rows that the tables of a World hold, are those of the World.
use Rattle.std.proofs.Common.{◌≡◌, ◌++◌, ℕ, List, [], ◌∷◌, map, flat_map, refl, sym, ap, ◌∙◌}
use Rattle.std.specs.List.{enumerate_from}
use Rattle.std.proofs.lemmas.List.{map-append}
use Rattle.bank_policy.specs.SetRow.{SetRow}
use Rattle.bank_policy.specs.declared.rows.Member.{Member}
use Rattle.bank_books.specs.WorldLists.{WorldLists}
use Rattle.keyed_rows.proofs.Rows.{map-map}
use Rattle.book_kept.specs.Records.{kept_user_of, member_row, member_rows}
use Rattle.book_kept.specs.Sheets.{sheets_of}
use Rattle.sql_listing.specs.Lines.{line_of, lines_of}
use Rattle.sql_listing.specs.declared.kinds.LineKind.TheVariants as kind
use Rattle.world_reads.specs.PolicyListing.{placed_member, policy_rows, set_members}
use Rattle.world_reads.specs.declared.policy_row.PolicyRow.TheVariants as row

of_set : (set : ℕ) (placed : List (ℕ × Member)) → map (line_of kind.Member) (map (member_row set) placed) ≡ map row.Member (map (placed_member set) placed)
of_set set [] = refl
of_set set (p ∷ placed) = ap (λ lines. line_of kind.Member (member_row set p) ∷ lines) (of_set set placed)

of_sets : (sets : List SetRow) → map (line_of kind.Member) (flat_map member_rows sets) ≡ map row.Member (flat_map set_members sets)
of_sets [] = refl
of_sets (s ∷ sets) =
    map-append (line_of kind.Member) (member_rows s) (flat_map member_rows sets)
    ∙ (λ i. of_set s.set (enumerate_from 1 s.members) i ++ of_sets sets i)
    ∙ sym (map-append row.Member (set_members s) (flat_map set_members sets))

pub lines_of_world : (w : WorldLists) → lines_of (sheets_of w) ≡ policy_rows w
lines_of_world w =
    λ i. map-map (kept_user_of w) (line_of kind.User) w.policy.users i ++ (map row.Certifier w.policy.certifiers ++ (of_sets w.policy.sets i ++ (map row.Relation w.policy.relations ++ map row.Triple w.policy.triples)))
