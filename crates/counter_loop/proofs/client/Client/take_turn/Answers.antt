-- By the step, and what the read after it gave.
use Rattle.std.proofs.Common.{◌≡◌, refl, rules, sym, ap, subst, ◌∙◌, arith, length, length-append}
use Rattle.http_messages.specs.Next.{IsPartial}
use Rattle.http_connection.specs.Connection.{closes_by}
use Rattle.http_connection.specs.declared.progress.Progress.TheVariants.{Answered, Closes}
use Rattle.counter_loop.proofs.BoxLemmas.{reads_none, reads_then}
use Rattle.counter_loop.proofs.TurnLemmas.{stepped, turn_ended, turn_stepped, turn_used_up, wait_less, wait_part, wait_reads, wait_same, with_parts}
use Rattle.counter_loop.proofs.client.Client.take_turn.Goals as goal

pub loop-self-init : goal.loop-self-init
loop-self-init g c = record { reads = reads_none g.T.TwoWay.ways c.args.self.now; same = refl; times = refl }

pub returns-in-Answered-clause-visited : goal.returns-in-Answered-clause-visited
returns-in-Answered-clause-visited g c =
    turn_stepped g.T.TwoWay.begins g.T.TwoWay.ways g.E.Service.status g.E.Service.users g.E.Service.may_give g.E.Engine.answers g.E.Engine.stops g.E.Engine.breaks g.met.E.Service.by_bank c.args.self.now c.loop-self.self c.answer.new.self _ _ c.answer.result c.requires c.loop-self.invariant.reads
    (stepped g.T.TwoWay.begins g.T.TwoWay.ways g.E.Service.status g.E.Service.users g.E.Service.may_give g.E.Engine.answers g.E.Engine.stops g.E.Engine.breaks g.met.E.Service.by_bank c.loop-self.self c.answer.new.self _ _ _ c.answer.result c.loop-self.invariant.same c.answer.ensures.answered c.answer.ensures.bounded)

pub returns-in-Answered-clause-after : goal.returns-in-Answered-clause-after
returns-in-Answered-clause-after g c = let is : c.answer.result ≡ Answered = search rules in c.answer.ensures.answered.closing ∙ ap closes_by is

pub returns-in-Answered-clause-same : goal.returns-in-Answered-clause-same
returns-in-Answered-clause-same g c =
    c.loop-self.invariant.reads.serial

pub returns-in-Answered-clause-times : goal.returns-in-Answered-clause-times
returns-in-Answered-clause-times g c =
    c.loop-self.invariant.times

pub returns-in-Closes-clause-visited : goal.returns-in-Closes-clause-visited
returns-in-Closes-clause-visited g c =
    turn_stepped g.T.TwoWay.begins g.T.TwoWay.ways g.E.Service.status g.E.Service.users g.E.Service.may_give g.E.Engine.answers g.E.Engine.stops g.E.Engine.breaks g.met.E.Service.by_bank c.args.self.now c.loop-self.self c.answer.new.self _ _ c.answer.result c.requires c.loop-self.invariant.reads
    (stepped g.T.TwoWay.begins g.T.TwoWay.ways g.E.Service.status g.E.Service.users g.E.Service.may_give g.E.Engine.answers g.E.Engine.stops g.E.Engine.breaks g.met.E.Service.by_bank c.loop-self.self c.answer.new.self _ _ _ c.answer.result c.loop-self.invariant.same c.answer.ensures.answered c.answer.ensures.bounded)

pub returns-in-Closes-clause-after : goal.returns-in-Closes-clause-after
returns-in-Closes-clause-after g c = let is : c.answer.result ≡ Closes = search rules in c.answer.ensures.answered.closing ∙ ap closes_by is

pub returns-in-Closes-clause-same : goal.returns-in-Closes-clause-same
returns-in-Closes-clause-same g c =
    c.loop-self.invariant.reads.serial

pub returns-in-Closes-clause-times : goal.returns-in-Closes-clause-times
returns-in-Closes-clause-times g c =
    c.loop-self.invariant.times

pub answer-requires : goal.answer-requires
answer-requires g c = c.loop-self.invariant.reads.closing ∙ c.requires

pub read-requires : goal.read-requires
read-requires g c =
    wait_less g.T.TwoWay.begins g.T.TwoWay.ways g.E.Service.status g.E.Service.users g.E.Service.may_give g.E.Engine.answers g.E.Engine.stops g.E.Engine.breaks g.met.E.Service.by_bank c.loop-self.self c.answer.new.self _ _ c.answer.result (search rules) (stepped g.T.TwoWay.begins g.T.TwoWay.ways g.E.Service.status g.E.Service.users g.E.Service.may_give g.E.Engine.answers g.E.Engine.stops g.E.Engine.breaks g.met.E.Service.by_bank c.loop-self.self c.answer.new.self _ _ _ c.answer.result c.loop-self.invariant.same c.answer.ensures.answered c.answer.ensures.bounded)

pub returns-in-UsedUp-clause-visited : goal.returns-in-UsedUp-clause-visited
returns-in-UsedUp-clause-visited g c =
    turn_used_up g.T.TwoWay.begins g.T.TwoWay.ways g.E.Service.status g.E.Service.users g.E.Service.may_give g.E.Engine.answers g.E.Engine.stops g.E.Engine.breaks g.met.E.Service.by_bank c.args.self.now c.loop-self.self _ c.answer.new.self _ _ c.answer.result c.requires c.loop-self.invariant.reads
    (stepped g.T.TwoWay.begins g.T.TwoWay.ways g.E.Service.status g.E.Service.users g.E.Service.may_give g.E.Engine.answers g.E.Engine.stops g.E.Engine.breaks g.met.E.Service.by_bank c.loop-self.self c.answer.new.self _ _ _ c.answer.result c.loop-self.invariant.same c.answer.ensures.answered c.answer.ensures.bounded) (c.in-UsedUp.ensures.none refl)

pub returns-in-UsedUp-clause-after : goal.returns-in-UsedUp-clause-after
returns-in-UsedUp-clause-after g c = (
  (c.in-UsedUp.ensures.none refl).closing ∙ (wait_reads g.T.TwoWay.begins g.T.TwoWay.ways g.E.Service.status g.E.Service.users g.E.Service.may_give g.E.Engine.answers g.E.Engine.stops g.E.Engine.breaks g.met.E.Service.by_bank c.args.self.now c.loop-self.self c.answer.new.self _ _ c.answer.result (search rules) c.requires c.loop-self.invariant.reads (stepped g.T.TwoWay.begins g.T.TwoWay.ways g.E.Service.status g.E.Service.users g.E.Service.may_give g.E.Engine.answers g.E.Engine.stops g.E.Engine.breaks g.met.E.Service.by_bank c.loop-self.self c.answer.new.self _ _ _ c.answer.result c.loop-self.invariant.same c.answer.ensures.answered c.answer.ensures.bounded)).closing ∙ c.requires,
  record {
    part = subst IsPartial (sym (c.in-UsedUp.ensures.none refl).held) (wait_part g.T.TwoWay.begins g.T.TwoWay.ways g.E.Service.status g.E.Service.users g.E.Service.may_give g.E.Engine.answers g.E.Engine.stops g.E.Engine.breaks g.met.E.Service.by_bank c.loop-self.self c.answer.new.self _ _ c.answer.result (search rules) (stepped g.T.TwoWay.begins g.T.TwoWay.ways g.E.Service.status g.E.Service.users g.E.Service.may_give g.E.Engine.answers g.E.Engine.stops g.E.Engine.breaks g.met.E.Service.by_bank c.loop-self.self c.answer.new.self _ _ _ c.answer.result c.loop-self.invariant.same c.answer.ensures.answered c.answer.ensures.bounded));
    none = c.in-UsedUp.ensures.used_up refl;
  },
)

pub returns-in-UsedUp-clause-same : goal.returns-in-UsedUp-clause-same
returns-in-UsedUp-clause-same g c =
    (c.in-UsedUp.ensures.none refl).serial ∙ c.loop-self.invariant.reads.serial

pub returns-in-UsedUp-clause-more : goal.returns-in-UsedUp-clause-more
returns-in-UsedUp-clause-more g c = λ is.
    let reads = (wait_reads g.T.TwoWay.begins g.T.TwoWay.ways g.E.Service.status g.E.Service.users g.E.Service.may_give g.E.Engine.answers g.E.Engine.stops g.E.Engine.breaks g.met.E.Service.by_bank c.args.self.now c.loop-self.self c.answer.new.self _ _ c.answer.result (search rules) c.requires c.loop-self.invariant.reads (stepped g.T.TwoWay.begins g.T.TwoWay.ways g.E.Service.status g.E.Service.users g.E.Service.may_give g.E.Engine.answers g.E.Engine.stops g.E.Engine.breaks g.met.E.Service.by_bank c.loop-self.self c.answer.new.self _ _ _ c.answer.result c.loop-self.invariant.same c.answer.ensures.answered c.answer.ensures.bounded)) in (reads.came, (c.in-UsedUp.ensures.none refl).held ∙ reads.held)

pub returns-in-UsedUp-clause-times : goal.returns-in-UsedUp-clause-times
returns-in-UsedUp-clause-times g c =
    c.in-UsedUp.ensures.times ∙ c.loop-self.invariant.times

pub returns-in-Ended-clause-visited : goal.returns-in-Ended-clause-visited
returns-in-Ended-clause-visited g c =
    turn_ended g.T.TwoWay.begins g.T.TwoWay.ways g.E.Service.status g.E.Service.users g.E.Service.may_give g.E.Engine.answers g.E.Engine.stops g.E.Engine.breaks g.met.E.Service.by_bank c.args.self.now c.loop-self.self _ c.answer.new.self c.close.new.self _ _ c.answer.result (search rules) c.requires c.loop-self.invariant.reads
    (stepped g.T.TwoWay.begins g.T.TwoWay.ways g.E.Service.status g.E.Service.users g.E.Service.may_give g.E.Engine.answers g.E.Engine.stops g.E.Engine.breaks g.met.E.Service.by_bank c.loop-self.self c.answer.new.self _ _ _ c.answer.result c.loop-self.invariant.same c.answer.ensures.answered c.answer.ensures.bounded) c.in-Ended.ensures.read (c.in-Ended.ensures.same refl) (c.in-Ended.ensures.ended refl) c.close.ensures

pub returns-in-Ended-clause-same : goal.returns-in-Ended-clause-same
returns-in-Ended-clause-same g c =
    c.in-Ended.ensures.read.serial ∙ c.loop-self.invariant.reads.serial

pub returns-in-Ended-clause-times : goal.returns-in-Ended-clause-times
returns-in-Ended-clause-times g c =
    c.in-Ended.ensures.times ∙ c.loop-self.invariant.times

pub loop-self-preserved : goal.loop-self-preserved
loop-self-preserved g c =
    record {
      reads = reads_then g.T.TwoWay.ways c.args.self.now (with_parts c.loop-self.self c.answer.new.self) _ (wait_reads g.T.TwoWay.begins g.T.TwoWay.ways g.E.Service.status g.E.Service.users g.E.Service.may_give g.E.Engine.answers g.E.Engine.stops g.E.Engine.breaks g.met.E.Service.by_bank c.args.self.now c.loop-self.self c.answer.new.self _ _ c.answer.result (search rules) c.requires c.loop-self.invariant.reads (stepped g.T.TwoWay.begins g.T.TwoWay.ways g.E.Service.status g.E.Service.users g.E.Service.may_give g.E.Engine.answers g.E.Engine.stops g.E.Engine.breaks g.met.E.Service.by_bank c.loop-self.self c.answer.new.self _ _ _ c.answer.result c.loop-self.invariant.same c.answer.ensures.answered c.answer.ensures.bounded)) c.in-Came.ensures.read;
      same = wait_same g.T.TwoWay.begins g.T.TwoWay.ways g.E.Service.status g.E.Service.users g.E.Service.may_give g.E.Engine.answers g.E.Engine.stops g.E.Engine.breaks g.met.E.Service.by_bank c.loop-self.self c.answer.new.self _ _ c.answer.result (search rules) (stepped g.T.TwoWay.begins g.T.TwoWay.ways g.E.Service.status g.E.Service.users g.E.Service.may_give g.E.Engine.answers g.E.Engine.stops g.E.Engine.breaks g.met.E.Service.by_bank c.loop-self.self c.answer.new.self _ _ _ c.answer.result c.loop-self.invariant.same c.answer.ensures.answered c.answer.ensures.bounded);
      times = c.in-Came.ensures.times ∙ c.loop-self.invariant.times;
    }

pub loop-self-smaller : goal.loop-self-smaller
loop-self-smaller g c =
    let w = wait_reads g.T.TwoWay.begins g.T.TwoWay.ways g.E.Service.status g.E.Service.users g.E.Service.may_give g.E.Engine.answers g.E.Engine.stops g.E.Engine.breaks g.met.E.Service.by_bank c.loop-self.self c.loop-self.self c.answer.new.self _ _ c.answer.result (search rules) (c.loop-self.invariant.reads.closing ∙ c.requires) (reads_none g.T.TwoWay.ways c.loop-self.self) (stepped g.T.TwoWay.begins g.T.TwoWay.ways g.E.Service.status g.E.Service.users g.E.Service.may_give g.E.Engine.answers g.E.Engine.stops g.E.Engine.breaks g.met.E.Service.by_bank c.loop-self.self c.answer.new.self _ _ _ c.answer.result c.loop-self.invariant.same c.answer.ensures.answered c.answer.ensures.bounded) in
    let less = c.in-Came.ensures.some refl in
    let most = c.in-Came.ensures.bounded in
    let longer = ap length w.held in
    omega (arith, length-append c.loop-self.self.connection.held w.came)
