-- Each turn is one more of this connection.
use Rattle.std.proofs.Common.{◌≡◌, false, true, refl, rules, arith}
use Rattle.counter_loop.proofs.BoxLemmas.{drains_same}
use Rattle.counter_loop.proofs.EndLemmas.{keeps_turned}
use Rattle.counter_loop.proofs.ServedLemmas.{open_after, so_far_more, so_far_none, takes_all, takes_more, used_by}
use Rattle.counter_loop.proofs.client.Client.take_turns.Goals as goal

pub loop-turn-init : goal.loop-turn-init
loop-turn-init g c = so_far_none g.T.TwoWay.begins g.T.TwoWay.ways g.T.TwoWay.used_up g.T.TwoWay.full g.T.TwoWay.failed c.args.now g.E.Service.status g.E.Service.users g.E.Service.may_give c.args.self.now _ c.requires

pub loop-turn-preserved : goal.loop-turn-preserved
loop-turn-preserved g c =
    so_far_more g.T.TwoWay.begins g.T.TwoWay.ways g.T.TwoWay.used_up g.T.TwoWay.full g.T.TwoWay.failed c.args.now g.E.Service.status g.E.Service.users g.E.Service.may_give c.loop-turn.turn c.args.self.now c.loop-turn.self c.take_turn-after.new.self _ _ _ _ c.loop-turn.invariant c.take_turn-after.ensures.visited c.take_turn-after.ensures.same
    (drains_same g.T.TwoWay.ways c.take_turn-after.new.self _ refl refl refl refl refl) (open_after g.T.TwoWay.used_up g.T.TwoWay.full c.take_turn-after.result c.take_turn-after.new.self c.take_turn-after.ensures.after (search rules))
    (keeps_turned c.args.now c.loop-turn.self c.take_turn-after.new.self _ c.ne-has_moved.result _ c.loop-turn.invariant.open_still c.take_turn-after.ensures.times refl c.note_turns.ensures.batch c.holds_part-holds.ensures
    (λ still. c.take_turn-after.ensures.more (search rules)) c.note_turns.ensures.message)

pub returns-then-ne : goal.returns-then-ne
returns-then-ne g c =
    takes_more g.T.TwoWay.begins g.T.TwoWay.ways g.T.TwoWay.used_up g.T.TwoWay.full g.T.TwoWay.failed c.args.now g.E.Service.status g.E.Service.users g.E.Service.may_give c.loop-turn.turn c.args.self.now c.loop-turn.self c.take_turn-after.new.self _ _ _ _ false (omega arith) c.loop-turn.invariant c.take_turn-after.ensures.visited c.take_turn-after.ensures.same
    (drains_same g.T.TwoWay.ways c.take_turn-after.new.self _ refl refl refl refl refl) (λ open_still none. used_by g.T.TwoWay.used_up g.T.TwoWay.full c.take_turn-after.result c.take_turn-after.new.self c.take_turn-after.ensures.after (search rules) open_still) refl
    (keeps_turned c.args.now c.loop-turn.self c.take_turn-after.new.self _ c.ne-has_moved.result _ c.loop-turn.invariant.open_still c.take_turn-after.ensures.times refl c.note_turns.ensures.batch c.holds_part-holds.ensures
    (λ still. c.take_turn-after.ensures.more (search rules)) c.note_turns.ensures.message)

pub returns-then-not-has_room : goal.returns-then-not-has_room
returns-then-not-has_room g c =
    takes_more g.T.TwoWay.begins g.T.TwoWay.ways g.T.TwoWay.used_up g.T.TwoWay.full g.T.TwoWay.failed c.args.now g.E.Service.status g.E.Service.users g.E.Service.may_give c.loop-turn.turn c.args.self.now c.loop-turn.self c.take_turn-after.new.self _ _ _ _ true (omega arith) c.loop-turn.invariant c.take_turn-after.ensures.visited c.take_turn-after.ensures.same
    (drains_same g.T.TwoWay.ways c.take_turn-after.new.self _ refl refl refl refl refl) (λ open_still none. let e : true ≡ false = none in absurd cc) refl
    (keeps_turned c.args.now c.loop-turn.self c.take_turn-after.new.self _ c.ne-has_moved.result _ c.loop-turn.invariant.open_still c.take_turn-after.ensures.times refl c.note_turns.ensures.batch c.holds_part-holds.ensures
    (λ still. c.take_turn-after.ensures.more (search rules)) c.note_turns.ensures.message)

pub returns : goal.returns
returns g c = takes_all g.T.TwoWay.begins g.T.TwoWay.ways g.T.TwoWay.used_up g.T.TwoWay.full g.T.TwoWay.failed c.args.now g.E.Service.status g.E.Service.users g.E.Service.may_give c.loop-turn.turn c.args.self.now c.loop-turn.self _ _ (omega arith) c.loop-turn.invariant
