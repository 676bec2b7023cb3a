-- How a call of the loop ends, from how its run ended.
use Rattle.std.proofs.Common.{◌≡◌, ℕ, ◌<◌, ◌≤◌, List, [], ◌∷◌, ◌++◌, length, length-append, take, All, Option, Result, Ok, Err, IfOk, IfErr, true, refl, sym, ap, ◌∙◌, subst, arith, append_assoc, append-nil, inl, inr}
use Rattle.std.proofs.lemmas.List.Elements.{All-cons, All-head, All-tail, All-nil}
use Rattle.std.proofs.Math.Seq.{take-length}
use Rattle.std.proofs.KnownBytes.{Consumes-trans, Appends-trans, Appends-kept}
use Rattle.std.specs.Io.KnownBytes.{Appends, Keeps}
use Rattle.money.specs.Counted.{AppendsBeginning}
use Rattle.http_heads.proofs.LineLemmas.{nil_of_length}
use Rattle.http_messages.specs.declared.serving.Served.{Served}
use Rattle.http_messages.specs.declared.serving.ServeFault.{ServeFault}
use Rattle.http_messages.specs.declared.serving.ServeFault.TheVariants.{Read, Write, Cut, Memory, Report}
use Rattle.http_messages.specs.Exit.{Point, StaysOpen, StopsWithin, AnswersAll, Reads, ReadsLast, StopsInReply, IsExit}
use Rattle.http_messages.specs.Parts.{MessageParts}
use Rattle.http_messages.specs.Run.{Runs, EndsSo, IsServed}
use Rattle.http_messages.specs.Turn.{StoreAndClock, OnlyReads, Handles}
use Rattle.http_messages.specs.Whole.{WholeMessage, message_parts, Splits}
use Rattle.http_messages.proofs.RunLemmas.{splits_on, splits_more, answers_more}

-- what a caller sees of a server, once its writer has this
abbrev pub seen : {S : Type 0} → StoreAndClock S → Option (List ℕ) → Point S
seen a written = record { left = a.left; written = written; engine = a.engine }

-- where no byte was read there is no rest
rest_none : (bytes front rest : List ℕ) → bytes ≡ front ++ rest → bytes ≡ [] → rest ≡ []
rest_none bytes front rest whole none = nil_of_length rest (omega (arith, ap length whole, ap length none, length-append front rest))

-- a whole reply is a beginning of it
stops_whole : (old new : Option (List ℕ)) (replies reply : List ℕ) → Appends old new (replies ++ reply) → StopsWithin old new replies reply
stops_whole old new replies reply all =
    (length reply, omega arith, subst (λ l. Appends old new (replies ++ l)) (sym (take-length reply)) all)

stops_within : (old mid new last : Option (List ℕ)) (replies reply : List ℕ) → Appends old mid replies → AppendsBeginning mid new reply → Keeps new last
    → StopsWithin old last replies reply
stops_within old mid new last replies reply before (n, fits, some) keeps =
    (n, fits, Appends-kept old new last (replies ++ take n reply) (Appends-trans old mid new replies (take n reply) before some) keeps)

wrote_all : (old mid new last : Option (List ℕ)) (replies reply : List ℕ) → Appends old mid replies → Appends mid new reply → Keeps new last → Appends old last (replies ++ reply)
wrote_all old mid new last replies reply before reply_too keeps =
    Appends-kept old new last (replies ++ reply) (Appends-trans old mid new replies reply before reply_too) keeps

kept_all : (old mid new last : Option (List ℕ)) (out : List ℕ) → Appends old mid out → Keeps mid new → Keeps new last → Appends old last out
kept_all old mid new last out before keeps later = Appends-kept old new last out (Appends-kept old mid new out before keeps) later

module _ {S : Type 0} (answers : S → MessageParts → List ℕ → S → Type 0) where
  -- the last of the messages, and its reply
  record LastAnswered (old : S) (ms : List WholeMessage) (out : List ℕ) (new : S) : Type 0 where
    before : List WholeMessage
    last : WholeMessage
    replies : List ℕ
    reply : List ℕ
    mid : S
    messages : ms ≡ before ++ last ∷ []
    bytes : out ≡ replies ++ reply
    lasting : All StaysOpen before
    earlier : AnswersAll answers old before replies mid
    reached : answers mid (message_parts last) reply new

  last_answered : (old : S) (ms : List WholeMessage) (out : List ℕ) (new : S) → 0 < length ms → All StaysOpen ms → AnswersAll answers old ms out new → LastAnswered old ms out new
  last_answered old [] out new some stays all = absurd (omega (arith, some))
  last_answered old (m ∷ []) out new some stays (mid, reply, later, is, whole, (none, same)) = record {
    before = [];
    last = m;
    replies = [];
    reply = reply;
    mid = old;
    messages = refl;
    bytes = whole ∙ ap (λ l. reply ++ l) none ∙ append-nil reply;
    lasting = All-nil StaysOpen;
    earlier = (refl, refl);
    reached = subst (λ s. answers old (message_parts m) reply s) (sym same) is;
  }
  last_answered old (m ∷ x ∷ ms) out new some stays (mid, first, later, is, whole, rest) =
      let l = last_answered mid (x ∷ ms) later new (omega arith) (All-tail StaysOpen m (x ∷ ms) stays) rest in record {
        before = m ∷ l.before;
        last = l.last;
        replies = first ++ l.replies;
        reply = l.reply;
        mid = l.mid;
        messages = ap (λ ns. m ∷ ns) l.messages;
        bytes = whole ∙ ap (λ ns. first ++ ns) l.bytes ∙ sym (append_assoc first l.replies l.reply);
        lasting = All-cons StaysOpen m l.before (All-head StaysOpen m (x ∷ ms) stays) l.lasting;
        earlier = (mid, first, l.replies, is, refl, l.earlier);
        reached = l.reached;
      }

  -- a flush failed after these replies: the last of them stopped
  flush_failed : (most : ℕ) (old new : Point S) (ms : List WholeMessage) (rest out : List ℕ) → length ms ≤ most → 0 < length ms → All StaysOpen ms
      → Reads answers old new ms rest out → Appends old.written new.written out → StopsInReply answers answers most old new
  flush_failed most old new ms rest out fits some stays reads wrote =
      let l = last_answered old.engine ms out new.engine some stays reads.answered in
      let fewer : length l.before < most = omega (arith, ap length l.messages, length-append l.before (l.last ∷ []), fits) in
      let whole = subst (λ o. Appends old.written new.written o) l.bytes wrote in (
        l.before,
        l.last,
        rest,
        l.replies,
        l.reply,
        record {
          bytes = reads.bytes;
          mid = l.mid;
          taken = reads.taken;
          splits = subst (λ ns. Splits reads.bytes ns rest) l.messages reads.splits;
          answered = l.earlier;
          reached = l.reached;
          bounded = reads.bounded;
        },
        (fewer, l.lasting),
        stops_whole old.written new.written l.replies l.reply whole,
      )

module _ {S : Type 0} (answers stops breaks : S → MessageParts → List ℕ → S → Type 0) where
  -- the bytes of a run whose server held nothing at its start
  run_splits : (old mid : StoreAndClock S) (ms : List WholeMessage) (out : List ℕ) → old.held ≡ [] → (run : Runs answers stops breaks old mid ms out) → Splits run.more ms mid.held
  run_splits old mid ms out none run = subst (λ l. Splits (l ++ run.more) ms mid.held) none run.splits

  reads_run : (old mid : StoreAndClock S) (w : Option (List ℕ)) (ms : List WholeMessage) (out : List ℕ) → old.held ≡ [] → Runs answers stops breaks old mid ms out
      → Reads answers (seen old old.written) (seen mid w) ms mid.held out
  reads_run old mid w ms out none run = record {
    bytes = run.more;
    taken = run.taken;
    splits = run_splits old mid ms out none run;
    answered = run.answered;
    bounded = run.bounded;
  }

  -- more bytes were read after it
  reads_on : (old mid new : StoreAndClock S) (w : Option (List ℕ)) (ms : List WholeMessage) (out : List ℕ) → old.held ≡ [] → Runs answers stops breaks old mid ms out → OnlyReads mid new
      → Reads answers (seen old old.written) (seen new w) ms new.held out
  reads_on old mid new w ms out none run x = record {
    bytes = run.more ++ x.more;
    taken = Consumes-trans old.left mid.left new.left run.more x.more run.taken x.taken;
    splits = splits_on run.more x.more ms mid.held new.held (run_splits old mid ms out none run) x.held;
    answered = subst (λ s. AnswersAll answers old.engine ms out s) (sym x.engine) run.answered;
    bounded = x.bounded;
  }

  -- one message more was answered
  reads_last : (way : S → MessageParts → List ℕ → S → Type 0) (old mid new : StoreAndClock S) (w : Option (List ℕ)) (ms : List WholeMessage) (out rest reply : List ℕ) → old.held ≡ []
      → Runs answers stops breaks old mid ms out → (a : Handles way mid new rest reply) → ReadsLast answers way (seen old old.written) (seen new w) ms a.message rest out reply
  reads_last way old mid new w ms out rest reply none run a = record {
    bytes = run.more ++ a.more;
    mid = mid.engine;
    taken = Consumes-trans old.left mid.left new.left run.more a.more run.taken a.taken;
    splits = splits_more run.more a.more ms a.message mid.held rest (run_splits old mid ms out none run) a.split a.is;
    answered = run.answered;
    reached = a.answered;
    bounded = a.bounded;
  }

  -- that message is one of those that were answered
  reads_more : (old new : Point S) (ms : List WholeMessage) (m : WholeMessage) (rest out reply : List ℕ) → ReadsLast answers answers old new ms m rest out reply
      → Reads answers old new (ms ++ m ∷ []) rest (out ++ reply)
  reads_more old new ms m rest out reply x = record {
    bytes = x.bytes;
    taken = x.taken;
    splits = x.splits;
    answered = answers_more answers old.engine x.mid new.engine ms m out reply x.answered x.reached;
    bounded = x.bounded;
  }

  ended_ok : (most : ℕ) (old mid new : StoreAndClock S) (w : Option (List ℕ)) (ms : List WholeMessage) (out : List ℕ) (s : Served) → old.held ≡ [] → Runs answers stops breaks old mid ms out
      → EndsSo answers stops breaks most (length ms) mid new (Ok s) → Keeps new.written w → IsExit answers stops breaks most (seen old old.written) (seen new w) (Ok s)
  ended_ok most old mid new w ms out s none run (inl (full, count, same)) keeps =
      let nothing : most ≡ 0 → mid.held ≡ [] = λ zero. rest_none _ _ _ (run_splits old mid ms out none run).whole (run.idle (full ∙ zero)) in
      let wrote = Appends-kept old.written mid.written w out run.written (subst (λ n. Keeps n.written w) same keeps) in (
        ms,
        mid.held,
        out,
        subst (λ n. Reads answers (seen old old.written) (seen n w) ms mid.held out) (sym same) (reads_run old mid w ms out none run),
        inl (count, inl (full, run.lasting, nothing), wrote),
      )
  ended_ok most old mid new w ms out s none run (inr (fewer, inl (count, inl (reply, a, closing, wrote)))) keeps =
      let one = length-append ms (a.message ∷ []) in (
        ms ++ a.message ∷ [],
        new.held,
        out ++ reply,
        reads_more _ _ ms a.message new.held out reply (reads_last answers old mid new w ms out new.held reply none run a),
        inl (
          omega (arith, count, one),
          inr (inr (omega (arith, fewer, one), (ms, a.message, refl, run.lasting, closing))),
          wrote_all old.written mid.written new.written w out reply run.written wrote keeps,
        ),
      )
  ended_ok most old mid new w ms out s none run (inr (fewer, inl (count, inr (x, reply, refusal, wrote)))) keeps = (
    ms,
    new.held,
    out,
    reads_on old mid new w ms out none run x,
    inr (count, (fewer, run.lasting), reply, refusal, wrote_all old.written mid.written new.written w out reply run.written wrote keeps),
  )
  ended_ok most old mid new w ms out s none run (inr (fewer, inr (count, (x, part, blank, end, kept, clean)))) keeps = (
    ms,
    new.held,
    out,
    reads_on old mid new w ms out none run x,
    inl (count, inr (inl (fewer, run.lasting, part, blank, end)), kept_all old.written mid.written new.written w out run.written kept keeps),
  )

  ended_err : (most : ℕ) (old mid new : StoreAndClock S) (w : Option (List ℕ)) (ms : List WholeMessage) (out : List ℕ) (f : ServeFault) → old.held ≡ [] → Runs answers stops breaks old mid ms out
      → EndsSo answers stops breaks most (length ms) mid new (Err f) → Keeps new.written w → IsExit answers stops breaks most (seen old old.written) (seen new w) (Err f)
  ended_err most old mid new w ms out Read none run (fewer, (x, part, kept, clean)) keeps = (
    ms,
    new.held,
    out,
    reads_on old mid new w ms out none run x,
    (fewer, run.lasting),
    part,
    kept_all old.written mid.written new.written w out run.written kept keeps,
  )
  ended_err most old mid new w ms out Cut none run (fewer, (x, part, inside, end, kept, clean)) keeps = (
    ms,
    new.held,
    out,
    reads_on old mid new w ms out none run x,
    (fewer, run.lasting),
    part,
    inside,
    end,
    kept_all old.written mid.written new.written w out run.written kept keeps,
  )
  ended_err most old mid new w ms out Write none run (fewer, inl (dirty, x, kept)) keeps =
      inl (flush_failed answers most (seen old old.written) (seen new w) ms new.held out (omega (arith, fewer)) (run.unflushed dirty) run.lasting
      (reads_on old mid new w ms out none run x) (kept_all old.written mid.written new.written w out run.written kept keeps))
  ended_err most old mid new w ms out Write none run (fewer, inr (reply, some, inl (rest, a))) keeps =
      inr (inl (
        ms,
        a.message,
        rest,
        out,
        reply,
        reads_last stops old mid new w ms out rest reply none run a,
        (fewer, run.lasting),
        stops_within old.written mid.written new.written w out reply run.written some keeps,
      ))
  ended_err most old mid new w ms out Write none run (fewer, inr (reply, some, inr (x, refusal))) keeps =
      inr (inr (
        ms,
        new.held,
        out,
        reply,
        reads_on old mid new w ms out none run x,
        (fewer, run.lasting),
        refusal,
        stops_within old.written mid.written new.written w out reply run.written some keeps,
      ))
  ended_err most old mid new w ms out Report none run (fewer, (reply, some, rest, a)) keeps = (
    ms,
    a.message,
    rest,
    out,
    reply,
    reads_last breaks old mid new w ms out rest reply none run a,
    (fewer, run.lasting),
    wrote_all old.written mid.written new.written w out reply run.written some keeps,
  )
  ended_err most old mid new w ms out Memory none run (fewer, never) keeps = absurd never

  ended_unflushed : (most : ℕ) (old mid new : StoreAndClock S) (w : Option (List ℕ)) (ms : List WholeMessage) (out : List ℕ) (s : Served) → old.held ≡ [] → Runs answers stops breaks old mid ms out
      → EndsSo answers stops breaks most (length ms) mid new (Ok s) → new.unflushed ≡ true → Keeps new.written w
      → IsExit answers stops breaks most (seen old old.written) (seen new w) (Err Write)
  ended_unflushed most old mid new w ms out s none run (inl (full, count, same)) dirty keeps =
      inl (flush_failed answers most (seen old old.written) (seen new w) ms mid.held out (omega (arith, full))
      (run.unflushed (subst (λ n. n.unflushed ≡ true) same dirty)) run.lasting
      (subst (λ n. Reads answers (seen old old.written) (seen n w) ms mid.held out) (sym same) (reads_run old mid w ms out none run))
      (Appends-kept old.written mid.written w out run.written (subst (λ n. Keeps n.written w) same keeps)))
  ended_unflushed most old mid new w ms out s none run (inr (fewer, inl (count, inl (reply, a, closing, wrote)))) dirty keeps =
      inl (
        ms,
        a.message,
        new.held,
        out,
        reply,
        reads_last answers old mid new w ms out new.held reply none run a,
        (fewer, run.lasting),
        stops_whole old.written w out reply (wrote_all old.written mid.written new.written w out reply run.written wrote keeps),
      )
  ended_unflushed most old mid new w ms out s none run (inr (fewer, inl (count, inr (x, reply, refusal, wrote)))) dirty keeps =
      inr (inr (
        ms,
        new.held,
        out,
        reply,
        reads_on old mid new w ms out none run x,
        (fewer, run.lasting),
        refusal,
        stops_whole old.written w out reply (wrote_all old.written mid.written new.written w out reply run.written wrote keeps),
      ))
  ended_unflushed most old mid new w ms out s none run (inr (fewer, inr (count, (x, part, blank, end, kept, clean)))) dirty keeps =
      let e = sym clean ∙ dirty in absurd cc

  -- the run ended, and its writer kept what it had
  pub exit_ended : (most : ℕ) (old new : StoreAndClock S) (w : Option (List ℕ)) (r : Result Served ServeFault) → old.held ≡ [] → IsServed answers stops breaks most old new r → Keeps new.written w
      → IsExit answers stops breaks most (seen old old.written) (seen new w) r
  exit_ended most old new w (Ok s) none (mid, ms, out, run, ends) keeps = ended_ok most old mid new w ms out s none run ends keeps
  exit_ended most old new w (Err f) none (mid, ms, out, run, ends) keeps = ended_err most old mid new w ms out f none run ends keeps

  -- the run ended well, and what was written was flushed, or that failed
  pub exit_flushed : (most : ℕ) (old new : StoreAndClock S) (w : Option (List ℕ)) (s : Served) (r : Result Served ServeFault) → old.held ≡ []
      → IsServed answers stops breaks most old new (Ok s)
      → IfOk r (λ t. t ≡ s) → IfErr r (λ f. (f ≡ Write) × (new.unflushed ≡ true)) → Keeps new.written w
      → IsExit answers stops breaks most (seen old old.written) (seen new w) r
  exit_flushed most old new w s (Ok t) none (mid, ms, out, run, ends) ok err keeps =
      subst (λ x. IsExit answers stops breaks most (seen old old.written) (seen new w) (Ok x)) (sym ok) (ended_ok most old mid new w ms out s none run ends keeps)
  exit_flushed most old new w s (Err f) none (mid, ms, out, run, ends) ok err keeps =
      subst (λ e. IsExit answers stops breaks most (seen old old.written) (seen new w) (Err e)) (sym err.0) (ended_unflushed most old mid new w ms out s none run ends err.1 keeps)
