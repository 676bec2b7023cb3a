use Rattle.std.proofs.Common.{◌≡◌, ◌<◌, ◌^◌, List, map, subst}
use Rattle.std.specs.List.{All}
use Rattle.std.specs.List.Sorted.{IsPermutation}
use Rattle.book_sums.specs.Sums.{teller_part, turn_part, place_part, home_part, user_part, slip_part}
use Rattle.book_sums.specs.declared.shares.Part.{Part}
use Rattle.book_sums.proofs.sums.Sums.of.Goals as goal

-- the rows read are those of the World
moved : {T : Type 0} (part : T → Part) (seen rows : List T) (shares : List Part) → seen ≡ rows → IsPermutation (map part seen) shares → IsPermutation (map part rows) shares
moved part seen rows shares same all = subst (λ xs. IsPermutation (map part xs) shares) same all

pub returns : goal.returns
returns c =
    let w = c.args.world.now in
    record {
      by_teller = moved teller_part c.entries-2.result.now w.entries c.in_ok-of.field-0 c.entries-2.ensures.value c.in_ok-of.ensures;
      by_turn = moved turn_part c.entries-3.result.now w.entries c.in_ok-of-2.field-0 c.entries-3.ensures.value c.in_ok-of-2.ensures;
      by_place = moved place_part c.lines-2.result.now w.lines c.in_ok-of-3.field-0 c.lines-2.ensures.value c.in_ok-of-3.ensures;
      by_home = moved home_part c.accounts.result.now w.accounts c.in_ok-of-4.field-0 c.accounts.ensures.value c.in_ok-of-4.ensures;
      by_user = moved user_part c.releases.result.now w.releases c.in_ok-of-5.field-0 c.releases.ensures.value c.in_ok-of-5.ensures;
      slips_by_user = moved slip_part c.slips.result.now w.slips c.in_ok-of-6.field-0 c.slips.ensures.value c.in_ok-of-6.ensures;
      entry_numbers = subst (λ es. All (λ e. e.number < 2 ^ 32) es) c.entries.ensures.value c.see_entry_numbers.ensures;
      line_numbers = subst (λ ls. All (λ l. l.number < 2 ^ 32) ls) c.lines.ensures.value c.see_line_numbers.ensures;
    }
