use Rattle.std.proofs.Common.{◌≡◌, List, to_z, of_z, w64, map, refl, rules, subst, sym, ◌∙◌}
use Rattle.std.specs.List.Sorted.{IsNonDecreasingBy}
use Rattle.keyed_rows.specs.Ordered.{AreDistinct}
use Rattle.book_sums.specs.declared.shares.Part.{Part}
use Rattle.book_sums.specs.Shares.{part_key}
use Rattle.book_range.proofs.GroupKeys.{distinct_from_once, once_from_distinct}
use Rattle.book_range.proofs.Judged.{not_passed}
use Rattle.book_range.proofs.NumberedRows.{from_numbered, numbered}
use Rattle.book_check.proofs.TurnWalk.{by_walk, of_group, same_walk, walk_by}
use Rattle.book_check.proofs.turns.is_in_turns.Goals as goal

abbrev AreInOrder : List Part → Type 0
AreInOrder parts = IsNonDecreasingBy part_key parts

abbrev AreApart : List Part → Type 0
AreApart parts = AreDistinct (map part_key parts)

pub returns-then-are_numbered : goal.returns-then-are_numbered
returns-then-are_numbered c =
    let deltas = c.args.deltas.now in
    let balances = c.args.balances.now in
    let a = c.args.account.now in
    let opening : to_z w64 (of_z w64 c.get.result) ≡ c.get.result = search rules in
    let first = c.parts_of-parts.ensures.value in
    let second = c.parts_of.ensures.value in
    let deltas_order : AreInOrder (of_group a.account deltas) = subst AreInOrder first c.parts_of-parts.ensures.in_order in
    let balances_order : AreInOrder (of_group a.account balances) = subst AreInOrder second c.parts_of.ensures.in_order in
    let bear = c.are_numbered.ensures.0 c.if-are_numbered.true in
    let turns = numbered (λ p. p.group) (λ p. p.number) deltas c.parts_of-parts.result.now a.account first
    (λ n. once_from_distinct part_key (λ p. p.group) (λ p. p.number) (λ _. refl) deltas a.account n (subst AreApart first bear.0)) bear.1 in
    let same = opening ∙ c.get.ensures.value in (
      λ is.
          by_walk deltas balances a (record { in_order = deltas_order; numbered = turns }) balances_order c.requires
          (same_walk _ a.opening _ (of_group a.account deltas) _ (of_group a.account balances) same first second (c.are_balances_after.ensures.0 is)),
      λ is.
          c.are_balances_after.ensures.1
          (same_walk a.opening _ (of_group a.account deltas) _ (of_group a.account balances) _ (sym same) (sym first) (sym second)
          (walk_by deltas balances a deltas_order balances_order c.requires is)),
    )

pub returns-else-are_numbered : goal.returns-else-are_numbered
returns-else-are_numbered c =
    let deltas = c.args.deltas.now in
    let account = c.args.account.now.account in
    not_passed c.if-are_numbered.false c.are_numbered.ensures
    (λ is. (
      subst AreApart (sym c.parts_of-parts.ensures.value) (distinct_from_once part_key (λ p. p.group) (λ p. p.number) (λ _. refl) deltas account is.turns.once),
      from_numbered (λ p. p.group) (λ p. p.number) deltas c.parts_of-parts.result.now account c.parts_of-parts.ensures.value is.turns,
    ))
