use Rattle.std.proofs.Common.{◌≡◌, ◌+◌, ◌∙◌, ap, arith, length, sym}
use Rattle.std.proofs.lemmas.List.{get_or_default}
use Rattle.book_kept.specs.Records.{member_row}
use Rattle.sql_adopt.proofs.FoundLemmas.{own_next, own_to_end, own_to_other}
use Rattle.sql_adopt.proofs.SetLemmas.{own_more, some_is}
use Rattle.sql_adopt.proofs.item_sets.own_members.Goals as goal

pub loop-row-preserved : goal.loop-row-preserved
loop-row-preserved c =
    let count : c.len.result ≡ length c.loop-row.own.items = omega (arith, c.len.ensures, c.loop-row.own.ok) in
    own_more c.args.set c.args.rows.now c.loop-row.row-index _ c.in-Some.member c.loop-row.own.items c.push.new.self.items c.loop-row-test.true
    (get_or_default c.args.rows.now c.loop-row.row-index _ _ c.loop-row-test.true)
    (some_is c.placed.result c.in-Some.member _ c.placed.ensures.stated c.in-Some.is ∙ ap (λ n. member_row c.args.set (n + 1, c.in-Some.member)) count)
    c.loop-row.invariant c.in_ok-push-in-Some.ensures.items

pub returns-then-not-is_of-clause-found : goal.returns-then-not-is_of-clause-found
returns-then-not-is_of-clause-found c members front =
    own_to_other c.args.set c.args.rows.now c.loop-row.row-index c.loop-row.own.items members c.loop-row.invariant front _ c.loop-row-test.true (get_or_default c.args.rows.now c.loop-row.row-index _ _ c.loop-row-test.true) (sym c.is_of.ensures ∙ c.if-not-is_of.true)

pub returns-in-None-clause-found : goal.returns-in-None-clause-found
returns-in-None-clause-found c members front =
    let count : c.len.result ≡ length c.loop-row.own.items = omega (arith, c.len.ensures, c.loop-row.own.ok) in
    let next = own_next c.args.set c.args.rows.now c.loop-row.row-index c.loop-row.own.items members c.loop-row.invariant front _ c.loop-row-test.true (get_or_default c.args.rows.now c.loop-row.row-index _ _ c.loop-row-test.true) (sym c.is_of.ensures ∙ c.if-not-is_of.false) in
    let found = c.placed.ensures.found next.0 (next.1 ∙ ap (λ n. member_row c.args.set (n + 1, next.0)) (sym count)) in
    let none = c.in-None.is in
    absurd cc

pub returns-clause-found : goal.returns-clause-found
returns-clause-found c members front = own_to_end c.args.set c.args.rows.now c.loop-row.row-index c.loop-row.own.items members c.loop-row.invariant front c.loop-row-test.false
