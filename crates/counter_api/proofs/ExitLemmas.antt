-- From the exits of the loop over an engine to those of `serve` over a bank.
use Rattle.std.proofs.Common.{◌≡◌, ℕ, inl, inr, List, [], ◌∷◌, ◌++◌, drop, map, take, take-append-drop, Option, Result, Ok, Err, refl, sym, ap, subst, ◌∙◌, append-nil, append_assoc}
use Rattle.std.specs.Prelude.{⊤}
use Rattle.http_messages.specs.Exit.{AnswersAll, IsExit, Point, Reads, StopsInReply}
use Rattle.http_messages.specs.Parts.{MessageParts}
use Rattle.http_messages.specs.Whole.{WholeMessage, message_parts}
use Rattle.http_messages.specs.declared.serving.ServeFault.{ServeFault}
use Rattle.http_messages.specs.declared.serving.ServeFault.TheVariants.{Cut, Memory, Read, Report, Write}
use Rattle.http_messages.specs.declared.serving.Served.{Served}
use Rattle.reports.specs.Report.{BeginsWith}
use Rattle.store_rows.specs.Status.{Status, Tells}
use Rattle.counter_api.specs.Answers.{IsBroken}
use Rattle.counter_api.specs.Exit.{Gives, IsServed, Passes, Place, Serves}
use Rattle.counter_api.specs.Response.{ResponseParts}
use Rattle.counter_api.specs.Run.{IsAnswered, IsHandled, IsRun, IsWhole, MarkedMessage, after_message, framed, replies_to, reply_to}
use Rattle.counter_api.proofs.RunLemmas.{none_ran, one_more}

-- a beginning of a beginning is one
pub shorter : (n : ℕ) (whole sent : List ℕ) → BeginsWith whole sent → BeginsWith whole (take n sent)
shorter n whole sent (rest, is) =
    (drop n sent ++ rest, is ∙ ap (λ l. l ++ rest) (sym (take-append-drop n sent)) ∙ append_assoc (take n sent) (drop n sent) rest)

-- all of it is one
whole_begins : (whole out : List ℕ) → IsWhole whole out → BeginsWith whole out
whole_begins whole out is = ([], sym is ∙ sym (append-nil out))

-- a reply in front of others
front_whole : (front out rest later all : List ℕ) → IsWhole front out → IsWhole rest later → all ≡ out ++ later → IsWhole (front ++ rest) all
front_whole front out rest later all here following is = is ∙ ap (λ o. o ++ later) here ∙ ap (λ l. front ++ l) following

front_begins : (front out rest later all : List ℕ) → IsWhole front out → BeginsWith rest later → all ≡ out ++ later → BeginsWith (front ++ rest) all
front_begins front out rest later all here (more, following) is =
    (more, ap (λ o. o ++ rest) (sym here) ∙ ap (λ l. out ++ l) following ∙ sym (append_assoc out later more) ∙ ap (λ l. l ++ more) (sym is))

-- whatever is said of its answer
unsaid : (users : List ℕ → Option ℕ) (old new : Status) (m : MarkedMessage) (says : ResponseParts → Type 0) → IsHandled users old new m says → IsHandled users old new m (λ response. ⊤)
unsaid users old new m says h = record {
  bears = h.bears;
  timely = h.timely;
  answers = h.answers;
  refused = h.refused;
  moved = h.moved;
  replied = λ clean w held. tt;
  room = h.room;
  leaves = h.leaves;
  whole = h.whole;
}

-- A server of whatever kind that has a store, a clock, and users who stay the same.
module _ {E S C : Type 0} (store : E → S) (clock : E → C) (status : S → Status) (users : List ℕ → Option ℕ) (may_give : C → ℕ → C → Type 0) (IsOne : E → Type 0)
    (answers : E → MessageParts → List ℕ → E → Type 0)
    (tells : (old new : E) (m : MessageParts) (out : List ℕ) → IsOne old → answers old m out new
    → IsOne new × IsAnswered IsWhole users may_give (status (store old)) (status (store new)) (clock old) (clock new) m out)
    (stops : E → MessageParts → List ℕ → E → Type 0)
    (tells_begun : (old new : E) (m : MessageParts) (sent : List ℕ) → IsOne old → stops old m sent new
    → IsOne new × IsAnswered BeginsWith users may_give (status (store old)) (status (store new)) (clock old) (clock new) m sent)
    (breaks : E → MessageParts → List ℕ → E → Type 0)
    (tells_broken : (old new : E) (m : MessageParts) (sent : List ℕ) → IsOne old → breaks old m sent new
    → IsOne new × IsBroken users may_give (status (store old)) (status (store new)) (clock old) (clock new) m sent) where
  -- messages that were answered, as a run of the bank
  record HasRun (old new : E) (ms : List WholeMessage) (out : List ℕ) : Type 0 where
    run : List MarkedMessage
    marked : map (λ m. m.message) run ≡ map message_parts ms
    given : Gives status users may_give (clock old) run (clock new)
    ran : IsRun IsWhole users (status (store old)) (status (store new)) run out
    passed : Passes status users may_give (store old) run (store new)
    one : IsOne new

  none_answered : (s : E) → IsOne s → HasRun s s [] []
  none_answered s one = record { run = []; marked = refl; given = refl; ran = none_ran IsWhole refl users (status (store s)); passed = refl; one = one }

  -- one message in front
  in_front : (old mid new : E) (m : WholeMessage) (ms : List WholeMessage) (reply later out : List ℕ) → IsAnswered IsWhole users may_give (status (store old)) (status (store mid)) (clock old) (clock mid) (message_parts m) reply
      → HasRun mid new ms later → out ≡ reply ++ later → HasRun old new (m ∷ ms) out
  in_front old mid new m ms reply later out here rest is =
      let first : MarkedMessage = record { message = message_parts m; moment = here.moment; mark = here.mark } in
      record {
        run = first ∷ rest.run;
        marked = ap (λ xs. message_parts m ∷ xs) rest.marked;
        given = (clock mid, here.given, rest.given);
        ran = one_more IsWhole users (status (store old)) (status (store mid)) (status (store new)) first rest.run (λ response. IsWhole (framed (message_parts m) response) reply) later out
            (λ response replies h b. front_whole (framed (message_parts m) response) reply replies later out h b is) here.handled rest.ran;
        passed = (store mid, unsaid users (status (store old)) (status (store mid)) first _ here.handled, rest.passed);
        one = rest.one;
      }

  all_ran : (old new : E) (ms : List WholeMessage) (out : List ℕ) → IsOne old → AnswersAll answers old ms out new → HasRun old new ms out
  all_ran old new [] out one (nothing, same) =
      subst (λ n. HasRun old n [] out) (sym same) (subst (λ o. HasRun old old [] o) (sym nothing) (none_answered old one))
  all_ran old new (m ∷ ms) out one (mid, reply, later, here, is, following) =
      let stated = tells old mid (message_parts m) reply one here in
      in_front old mid new m ms reply later out stated.1 (all_ran mid new ms later stated.0 following) is

  -- messages, and one more that was answered last, of whose reply a beginning went out
  record HasRunLast (old new : E) (before : List WholeMessage) (last : WholeMessage) (replies sent : List ℕ) : Type 0 where
    run : List MarkedMessage
    at : MarkedMessage
    marked : map (λ m. m.message) (run ++ at ∷ []) ≡ map message_parts (before ++ last ∷ [])
    given : Gives status users may_give (clock old) (run ++ at ∷ []) (clock new)
    ran : IsRun BeginsWith users (status (store old)) (status (store new)) (run ++ at ∷ []) (replies ++ sent)
    passed : Passes status users may_give (store old) (run ++ at ∷ []) (store new)
    replied : Tells (status (store old)) (status (store new)) (λ w. replies ≡ replies_to users w run)
    one : IsOne new

  -- the last one alone
  alone : (old new : E) (last : WholeMessage) (sent : List ℕ) → IsOne new → IsAnswered BeginsWith users may_give (status (store old)) (status (store new)) (clock old) (clock new) (message_parts last) sent
      → HasRunLast old new [] last [] sent
  alone old new last sent one here =
      let first : MarkedMessage = record { message = message_parts last; moment = here.moment; mark = here.mark } in
      record {
        run = [];
        at = first;
        marked = refl;
        given = (clock new, here.given, refl);
        ran = one_more BeginsWith users (status (store old)) (status (store new)) (status (store new)) first [] (λ response. BeginsWith (framed (message_parts last) response) sent) [] sent
            (λ response replies h b. joined_last (framed (message_parts last) response) replies sent h b) here.handled (none_ran BeginsWith ([], refl) users (status (store new)));
        passed = (store new, unsaid users (status (store old)) (status (store new)) first _ here.handled, refl);
        replied = λ clean w held. refl;
        one = one;
      }
    where
      joined_last : (whole replies out : List ℕ) → BeginsWith whole out → BeginsWith replies [] → BeginsWith (whole ++ replies) out
      joined_last whole replies out (rest, is) none = (rest ++ replies, ap (λ l. l ++ replies) is ∙ append_assoc out rest replies)

  last_ran : (old mid new : E) (before : List WholeMessage) (last : WholeMessage) (replies sent : List ℕ) → IsOne old → AnswersAll answers old before replies mid
      → ((start : E) → IsOne start → mid ≡ start → IsOne new × IsAnswered BeginsWith users may_give (status (store start)) (status (store new)) (clock start) (clock new) (message_parts last) sent)
      → HasRunLast old new before last replies sent
  last_ran old mid new [] last replies sent one (nothing, same) here =
      let stated = here old one same in
      subst (λ o. HasRunLast old new [] last o sent) (sym nothing) (alone old new last sent stated.0 stated.1)
  last_ran old mid new (m ∷ ms) last replies sent one (next, first, later, there, is, following) here =
      let stated = tells old next (message_parts m) first one there in
      let rest = last_ran next mid new ms last later sent stated.0 following here in
      let lead : MarkedMessage = record { message = message_parts m; moment = stated.1.moment; mark = stated.1.mark } in
      record {
        run = lead ∷ rest.run;
        at = rest.at;
        marked = ap (λ xs. message_parts m ∷ xs) rest.marked;
        given = (clock next, stated.1.given, rest.given);
        ran = one_more BeginsWith users (status (store old)) (status (store next)) (status (store new)) lead (rest.run ++ rest.at ∷ []) (λ response. IsWhole (framed (message_parts m) response) first) (later ++ sent) (replies ++ sent)
            (λ response after h b. front_begins (framed (message_parts m) response) first after (later ++ sent) (replies ++ sent) h b (ap (λ r. r ++ sent) is ∙ append_assoc first later sent)) stated.1.handled rest.ran;
        passed = (store next, unsaid users (status (store old)) (status (store next)) lead _ stated.1.handled, rest.passed);
        replied = λ clean w held.
            let honest = rest.ran.honest clean in
            is ∙ ap (λ r. r ++ later) (stated.1.handled.replied honest w held)
            ∙ ap (λ o. reply_to users w lead ++ o) (rest.replied clean (after_message users w lead) (stated.1.handled.moved honest w held));
        one = rest.one;
      }

  -- ---- the exits

  abbrev pub place : Point E → Place S C
  place p = record { left = p.left; written = p.written; store = store p.engine; clock = clock p.engine }

  reads : (old new : Point E) (ms : List WholeMessage) (rest out : List ℕ) → IsOne old.engine → Reads answers old new ms rest out
      → ((run : List MarkedMessage) × Serves status users may_give IsWhole (place old) (place new) ms rest run out) × IsOne new.engine
  reads old new ms rest out one r =
      let run = all_ran old.engine new.engine ms out one r.answered in
      ((run.run, record { bytes = r.bytes; taken = r.taken; splits = r.splits; marked = run.marked; given = run.given; ran = run.ran; passed = run.passed; bounded = r.bounded }), run.one)

  -- what was answered whole was answered by a beginning, too
  begun : (old new : E) (m : MessageParts) (out : List ℕ) (n : ℕ) → IsAnswered IsWhole users may_give (status (store old)) (status (store new)) (clock old) (clock new) m out
      → IsAnswered BeginsWith users may_give (status (store old)) (status (store new)) (clock old) (clock new) m (take n out)
  begun old new m out n a = record {
    moment = a.moment;
    mark = a.mark;
    given = a.given;
    handled = record {
      bears = a.handled.bears;
      timely = a.handled.timely;
      answers = a.handled.answers;
      refused = a.handled.refused;
      moved = a.handled.moved;
      replied = λ clean w held. shorter n _ out (whole_begins _ out (a.handled.replied clean w held));
      room = a.handled.room;
      leaves = a.handled.leaves;
      whole = a.handled.whole;
    };
  }

  -- and by a beginning of a beginning
  begun_shorter : (old new : E) (m : MessageParts) (sent : List ℕ) (n : ℕ) → IsAnswered BeginsWith users may_give (status (store old)) (status (store new)) (clock old) (clock new) m sent
      → IsAnswered BeginsWith users may_give (status (store old)) (status (store new)) (clock old) (clock new) m (take n sent)
  begun_shorter old new m sent n a = record {
    moment = a.moment;
    mark = a.mark;
    given = a.given;
    handled = record {
      bears = a.handled.bears;
      timely = a.handled.timely;
      answers = a.handled.answers;
      refused = a.handled.refused;
      moved = a.handled.moved;
      replied = λ clean w held. shorter n _ sent (a.handled.replied clean w held);
      room = a.handled.room;
      leaves = a.handled.leaves;
      whole = a.handled.whole;
    };
  }

  stopped : (way : E → MessageParts → List ℕ → E → Type 0)
      → ((start new : E) (m : MessageParts) (reply : List ℕ) (n : ℕ) → IsOne start → way start m reply new
      → IsOne new × IsAnswered BeginsWith users may_give (status (store start)) (status (store new)) (clock start) (clock new) m (take n reply))
      → (most : ℕ) (old new : Point E) → IsOne old.engine → StopsInReply answers way most old new
      → IsServed status users may_give most (place old) (place new) (Err Write) × IsOne new.engine
  stopped way begins most old new one (before, last, rest, replies, reply, r, on, (n, fits, wrote)) =
      let run = last_ran old.engine r.mid new.engine before last replies (take n reply) one r.answered
      (λ start first same. begins start new.engine (message_parts last) reply n first (subst (λ s. way s (message_parts last) reply new.engine) same r.reached)) in
      (inl (before, last, rest, run.run, run.at, replies, take n reply, record { bytes = r.bytes; taken = r.taken; splits = r.splits; marked = run.marked; given = run.given; ran = run.ran; passed = run.passed; bounded = r.bounded }, on, run.replied, wrote), run.one)

  pub exits : (most : ℕ) (old new : Point E) (r : Result Served ServeFault) → IsOne old.engine → IsExit answers stops breaks most old new r
      → IsServed status users may_give most (place old) (place new) r × IsOne new.engine
  exits most old new (Ok s) one (ms, rest, out, r, how) =
      let stated = reads old new ms rest out one r in
      ((ms, rest, stated.0.0, out, stated.0.1, how), stated.1)
  exits most old new (Err Read) one (ms, rest, out, r, on, part, wrote) =
      let stated = reads old new ms rest out one r in
      ((ms, rest, stated.0.0, out, stated.0.1, on, part, wrote), stated.1)
  exits most old new (Err Cut) one (ms, rest, out, r, on, part, some, ended, wrote) =
      let stated = reads old new ms rest out one r in
      ((ms, rest, stated.0.0, out, stated.0.1, on, part, some, ended, wrote), stated.1)
  exits most old new (Err Write) one (inl in_reply) =
      stopped answers (λ start next m reply n first answered. let stated = tells start next m reply first answered in (stated.0, begun start next m reply n stated.1)) most old new one in_reply
  exits most old new (Err Write) one (inr (inl in_reply)) =
      stopped stops (λ start next m reply n first begins. let stated = tells_begun start next m reply first begins in (stated.0, begun_shorter start next m reply n stated.1)) most old new one in_reply
  exits most old new (Err Write) one (inr (inr (ms, rest, out, reply, r, on, refused, stops))) =
      let stated = reads old new ms rest out one r in
      (inr (ms, rest, stated.0.0, out, reply, stated.0.1, on, refused, stops), stated.1)
  exits most old new (Err Report) one (before, last, rest, replies, sent, r, on, wrote) =
      let run = all_ran old.engine r.mid before replies one r.answered in
      let stated = tells_broken r.mid new.engine (message_parts last) sent run.one r.reached in (
        (
          before,
          last,
          rest,
          run.run,
          replies,
          sent,
          record {
            bytes = r.bytes;
            taken = r.taken;
            splits = r.splits;
            marked = run.marked;
            store = store r.mid;
            clock = clock r.mid;
            given = run.given;
            ran = run.ran;
            passed = run.passed;
            broken = stated.1;
            bounded = r.bounded;
          },
          on,
          wrote,
        ),
        stated.0,
      )
  exits most old new (Err Memory) one same = (ap place same, subst (λ p. IsOne p.engine) (sym same) one)
