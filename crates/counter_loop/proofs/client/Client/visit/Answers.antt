-- By what was sent before its turns, and whether it had any.
use Rattle.std.proofs.Common.{◌≡◌, false, inl, inr, refl, rules, sym, subst, true, ◌∙◌}
use Rattle.std.specs.Prelude.{IsSome}
use Rattle.counter_loop.proofs.BoxLemmas.{drains_same}
use Rattle.counter_loop.proofs.EndLemmas.{keeps_sent, keeps_then, keeps_turned}
use Rattle.counter_loop.proofs.ServedLemmas.{served_closing, served_full, served_over, served_turned}
use Rattle.counter_loop.proofs.client.Client.visit.Goals as goal

pub returns-then-is_lingering : goal.returns-then-is_lingering
returns-then-is_lingering g c = served_closing g.T.TwoWay.begins g.T.TwoWay.ways g.T.TwoWay.used_up g.T.TwoWay.full g.T.TwoWay.failed c.args.now g.E.Service.status g.E.Service.users g.E.Service.may_give c.args.self.now _ _ c.drain.ensures (search rules)

pub returns-then-eq : goal.returns-then-eq
returns-then-eq g c = served_over g.T.TwoWay.begins g.T.TwoWay.ways g.T.TwoWay.used_up g.T.TwoWay.full g.T.TwoWay.failed c.args.now g.E.Service.status g.E.Service.users g.E.Service.may_give c.args.self.now c.send-sent.new.self _ _ c.send-sent.result c.send-sent.ensures.drains c.settle.ensures.drains (search rules)
    (record { all = c.send-sent.ensures.all; part = c.send-sent.ensures.part; broken = c.send-sent.ensures.failed }) c.send-sent.ensures.asked
    (record { same = c.settle.ensures.same; times = c.settle.ensures.times; client = c.settle.ensures.client; visit = c.settle.ensures.visit; over = c.settle.ensures.over })

pub returns-then-not-has_room : goal.returns-then-not-has_room
returns-then-not-has_room g c =
    served_full g.T.TwoWay.begins g.T.TwoWay.ways g.T.TwoWay.used_up g.T.TwoWay.full g.T.TwoWay.failed c.args.now g.E.Service.status g.E.Service.users g.E.Service.may_give c.args.self.now c.send-sent.new.self (record c.send-sent.new.self { times = c.note_turns.new.self }) _ _ c.send-sent.result c.send-sent.ensures.drains
    (drains_same g.T.TwoWay.ways c.send-sent.new.self _ refl refl refl refl refl) refl refl c.settle-then-not-has_room.ensures.drains
    (record { all = c.send-sent.ensures.all; part = c.send-sent.ensures.part; broken = c.send-sent.ensures.failed }) c.send-sent.ensures.asked (c.has_room.ensures (search rules)) (search rules) (record { same = c.settle-then-not-has_room.ensures.same; times = c.settle-then-not-has_room.ensures.times; client = c.settle-then-not-has_room.ensures.client; visit = c.settle-then-not-has_room.ensures.visit; over = c.settle-then-not-has_room.ensures.over })
    (λ open_still. keeps_then c.args.now c.args.self.now c.send-sent.new.self (record c.send-sent.new.self { times = c.note_turns.new.self })
    (keeps_sent c.args.now c.args.self.now c.send-sent.new.self (sym c.send-sent.ensures.drains.closing ∙ open_still) c.send-sent.ensures.drains.held
    (record { message = c.send-sent.ensures.message; batch = c.send-sent.ensures.batch; timed = c.send-sent.ensures.timed }))
    (keeps_turned c.args.now c.send-sent.new.self c.send-sent.new.self (record c.send-sent.new.self { times = c.note_turns.new.self }) true _ open_still refl refl c.note_turns.ensures.batch c.holds_part-holds.ensures
    (λ moved. let e : true ≡ false = moved in absurd cc) c.note_turns.ensures.message))
    (elim c.send-sent.ensures.timed [ inl none ↦ inl (none.0, c.note_turns.ensures.batch ∙ none.1) | inr some ↦ inr (some.0, subst IsSome (sym c.note_turns.ensures.batch) some.1) ])

pub returns : goal.returns
returns g c =
    served_turned g.T.TwoWay.begins g.T.TwoWay.ways g.T.TwoWay.used_up g.T.TwoWay.full g.T.TwoWay.failed c.args.now g.E.Service.status g.E.Service.users g.E.Service.may_give c.args.self.now c.send-sent.new.self c.take_turns-has_more.new.self c.send-sent-2.new.self _ _ _ c.send-sent-2.result c.take_turns-has_more.result c.send-sent.ensures.drains
    c.take_turns-has_more.ensures c.send-sent-2.ensures.drains c.send-sent-2.ensures.used_up (record { all = c.send-sent-2.ensures.all; part = c.send-sent-2.ensures.part; broken = c.send-sent-2.ensures.failed }) c.settle-2.ensures.drains (record { same = c.settle-2.ensures.same; times = c.settle-2.ensures.times; client = c.settle-2.ensures.client; visit = c.settle-2.ensures.visit; over = c.settle-2.ensures.over })
    (record { message = c.send-sent.ensures.message; batch = c.send-sent.ensures.batch; timed = c.send-sent.ensures.timed })
    (record { message = c.send-sent-2.ensures.message; batch = c.send-sent-2.ensures.batch; timed = c.send-sent-2.ensures.timed })
