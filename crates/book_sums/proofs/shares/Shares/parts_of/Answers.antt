use Rattle.std.proofs.Common.{◌==◌, List, refl, subst, sym, ◌∙◌}
use Rattle.std.specs.List.{All}
use Rattle.std.specs.List.Sorted.{IsNonDecreasingBy}
use Rattle.std.proofs.lemmas.List.Elements.{All-contains}
use Rattle.std.proofs.lemmas.List.Kept.{IsNonDecreasingBy-filter}
use Rattle.book_sums.specs.declared.shares.Part.{Part}
use Rattle.book_sums.specs.Shares.{IsPart, part_key}
use Rattle.book_sums.proofs.GroupRows.{group_found}
use Rattle.book_sums.proofs.shares.Shares.parts_of.Goals as goal

abbrev AreInOrder : List Part → Type 0
AreInOrder parts = IsNonDecreasingBy part_key parts

pub returns-clause-value : goal.returns-clause-value
returns-clause-value c =
    let parts = c.args.self.now in
    let fits : All IsPart parts = subst (λ ps. All IsPart ps) c.self.view_is c.self.invariant.in_range in
    group_found part_key (λ p. p.group) (λ p. p.number) (λ _. refl) c.deref.result.now parts c.args.group c.rows_of_group.result.now
    (c.deref.ensures.value ∙ c.self.view_is) c.rows_of_group.ensures (subst AreInOrder c.self.view_is c.self.invariant.in_order)
    (λ p there. (All-contains IsPart parts p fits there).number)

pub returns-clause-in_order : goal.returns-clause-in_order
returns-clause-in_order c =
    subst AreInOrder (sym (returns-clause-value c))
    (IsNonDecreasingBy-filter part_key (λ p. p.group == c.args.group) c.args.self.now (subst AreInOrder c.self.view_is c.self.invariant.in_order))
