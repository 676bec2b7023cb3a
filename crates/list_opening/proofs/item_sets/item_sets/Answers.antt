use Rattle.std.proofs.Common.{◌∙◌, ◌∷◌, [], ◌++◌, get_or, ap}
use Rattle.std.proofs.lemmas.List.{get_or_default}
use Rattle.bank_terms.specs.declared.item.Kind.TheVariants.{Account}
use Rattle.bank_policy.specs.SetRow.{SetRow}
use Rattle.list_opening.specs.declared.set_member.SetMember.{SetMember}
use Rattle.list_opening.proofs.SetLemmas.{AreTaken, taken-more, taken-set}
use Rattle.list_opening.proofs.item_sets.item_sets.Goals as goal
use Rattle.list_opening.proofs.item_sets.item_sets.Goals.{then-ends_set+in_ok-push-2, else-ends_set}

abbrev no_member : SetMember
no_member = record { set = 0; member = record { kind = Account; low = 0; high = 0 } }

pub loop-i-preserved : goal.loop-i-preserved
loop-i-preserved c =
    let row : SetMember = get_or c.args.rows.now c.loop-i.i no_member in
    let at = get_or_default c.args.rows.now c.loop-i.i no_member row c.loop-i-test.true in
    elim c.if-ends_set.branch [
      | then-ends_set+in_ok-push-2 w ↦
          taken-set c.args.rows.now c.loop-i.i row c.loop-i.sets.items c.if-ends_set.sets.items c.loop-i.members.items w.replace-own.result.items c.if-ends_set.members.items c.loop-i-test.true at w.if-ends_set.ensures
          (ap (λ v. v.items) w.replace-own.ensures.value ∙ c.in_ok-push.ensures.items)
          (ap (λ v. v.items) w.sets-is ∙ w.in_ok-push-2.ensures.items ∙ ap (λ (s : SetRow). c.loop-i.sets.items ++ s ∷ []) w.new-then-ends_set.ensures)
          (ap (λ v. v.items) w.members-is ∙ ap (λ v. v.items) w.replace-own.ensures.after ∙ w.new.ensures.items) c.loop-i.invariant
      | else-ends_set w ↦
          let before : AreTaken c.args.rows.now c.loop-i.i c.if-ends_set.sets.items c.loop-i.members.items = rw (w.sets-is) c.loop-i.invariant in
          taken-more c.args.rows.now c.loop-i.i row c.if-ends_set.sets.items c.loop-i.members.items c.if-ends_set.members.items c.loop-i-test.true at w.if-ends_set.ensures
          (ap (λ v. v.items) w.members-is ∙ c.in_ok-push.ensures.items) before
    ]
