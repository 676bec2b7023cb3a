use Rattle.std.proofs.Common.{◌≡◌, ◌≤◌, ◌+◌, ◌++◌, ◌∷◌, [], ◌∙◌, ap, arith, get_or, length, map, subst, sym, take}
use Rattle.std.specs.Prelude.{IfSome}
use Rattle.std.specs.List.{enumerate_from}
use Rattle.book_kept.specs.Records.{member_row}
use Rattle.sql_adopt.specs.ReadBack.{AreInFront}
use Rattle.sql_adopt.proofs.FoundLemmas.{next_in_front, no_more, no_set, not_none, same_all, same_more, there_is}
use Rattle.sql_adopt.proofs.SetLemmas.{set_more}
use Rattle.sql_adopt.proofs.item_sets.item_sets.Goals as goal

pub loop-set-preserved : goal.loop-set-preserved
loop-set-preserved c =
    let rest = c.following-rest.result.now in
    let mine = c.in-Some.own.items in
    let count : c.len-at.result ≡ length mine = omega (arith, c.len-at.ensures, c.in-Some.own.ok) in
    let front = subst (λ found. IfSome found (λ o. take (length o.items) rest ≡ map (member_row (get_or c.args.sets.now c.loop-set.set-index 0)) (enumerate_from 1 o.items))) c.in-Some.is c.in_ok-own.ensures.front in
    let within = subst (λ found. IfSome found (λ o. length o.items ≤ length rest)) c.in-Some.is c.in_ok-own.ensures.within in
    let made = c.in_ok-push-in-Some.ensures.items ∙ ap (λ s. c.loop-set.list.items ++ s ∷ []) c.new.ensures in
    record {
      so_far =
          set_more c.args.sets.now c.args.members.now c.loop-set.set-index c.loop-set.at (c.loop-set.at + c.len-at.result) mine c.loop-set.list.items c.push.new.self.items c.loop-set-test.true
          (subst (λ r. take (length mine) r ≡ map (member_row (get_or c.args.sets.now c.loop-set.set-index 0)) (enumerate_from 1 mine)) c.following-rest.ensures front)
          (subst (λ r. length mine ≤ length r) c.following-rest.ensures within)
          c.loop-set.invariant.so_far (ap (λ n. c.loop-set.at + n) count) made;
      same = λ own are distinct.
          let before = c.loop-set.invariant.same own are distinct in
          let next = next_in_front c.args.sets.now c.args.members.now c.loop-set.set-index c.loop-set.at c.loop-set.list.items own are distinct c.loop-set.invariant.so_far before c.loop-set-test.true in
          let found = c.in_ok-own.ensures.found _ (subst (λ r. AreInFront (get_or c.args.sets.now c.loop-set.set-index 0) r (get_or own c.loop-set.set-index no_set).members) (sym c.following-rest.ensures) next) in
          same_more c.args.sets.now c.args.members.now c.loop-set.set-index c.loop-set.at c.loop-set.list.items own are distinct c.loop-set.invariant.so_far before mine c.push.new.self.items c.loop-set-test.true
          (there_is c.in_ok-own.field-0 c.in-Some.own (λ o. o.items ≡ (get_or own c.loop-set.set-index no_set).members) found c.in-Some.is) made;
    }

pub returns-in-None-clause-found : goal.returns-in-None-clause-found
returns-in-None-clause-found c own are distinct =
    let before = c.loop-set.invariant.same own are distinct in
    let next = next_in_front c.args.sets.now c.args.members.now c.loop-set.set-index c.loop-set.at c.loop-set.list.items own are distinct c.loop-set.invariant.so_far before c.loop-set-test.true in
    let found = c.in_ok-own.ensures.found _ (subst (λ r. AreInFront (get_or c.args.sets.now c.loop-set.set-index 0) r (get_or own c.loop-set.set-index no_set).members) (sym c.following-rest.ensures) next) in
    not_none c.in_ok-own.field-0 (λ o. o.items ≡ (get_or own c.loop-set.set-index no_set).members) found c.in-None.is

pub returns-then-at-members-clause-found : goal.returns-then-at-members-clause-found
returns-then-at-members-clause-found c own are distinct =
    same_all c.args.sets.now c.args.members.now c.loop-set.set-index c.loop-set.at c.loop-set.list.items own are distinct c.loop-set.invariant.so_far (c.loop-set.invariant.same own are distinct) c.loop-set-test.false

pub returns-else-at-members-clause-found : goal.returns-else-at-members-clause-found
returns-else-at-members-clause-found c own are distinct =
    c.if-at-members.false (no_more c.args.sets.now c.args.members.now c.loop-set.set-index c.loop-set.at c.loop-set.list.items own are distinct c.loop-set.invariant.so_far (c.loop-set.invariant.same own are distinct) c.loop-set-test.false)
