-- A run goes on by one message.
use Rattle.std.proofs.Common.{◌≡◌, ℕ, ◌≤◌, length, List, [], ◌∷◌, ◌++◌, length-append, false, refl, sym, ap, ◌∙◌, subst, arith, append_assoc, append-nil, flat_map}
use Rattle.std.proofs.lemmas.List.Elements.{All-push, All-nil}
use Rattle.std.proofs.lemmas.List.Concat.{flat_map-append}
use Rattle.std.proofs.KnownBytes.{Consumes-nil, Appends-nil, Consumes-trans, Appends-trans}
use Rattle.http_messages.specs.Exit.{StaysOpen, AnswersAll}
use Rattle.http_messages.specs.Parts.{MessageParts}
use Rattle.http_messages.specs.Inbox.{max_message_len}
use Rattle.http_messages.specs.Whole.{WholeMessage, print_message, message_parts, IsMessage, Splits}
use Rattle.http_messages.specs.Turn.{StoreAndClock, Answers}
use Rattle.http_messages.specs.Run.{Runs}

-- more bytes were read
pub splits_on : (bytes more : List ℕ) (ms : List WholeMessage) (held rest : List ℕ) → Splits bytes ms held → rest ≡ held ++ more → Splits (bytes ++ more) ms rest
splits_on bytes more ms held rest splits is = record {
  whole =
      ap (λ l. l ++ more) splits.whole ∙ append_assoc (flat_map print_message ms) held more ∙ ap (λ l. flat_map print_message ms ++ l) (sym is);
  each = splits.each;
}

-- more bytes were read, and one message more was taken
pub splits_more : (bytes more : List ℕ) (ms : List WholeMessage) (m : WholeMessage) (held rest : List ℕ) → Splits bytes ms held
    → held ++ more ≡ print_message m ++ rest → IsMessage m → Splits (bytes ++ more) (ms ++ m ∷ []) rest
splits_more bytes more ms m held rest splits is whole =
    let front = flat_map print_message ms in
    let joined : flat_map print_message (ms ++ m ∷ []) ≡ front ++ print_message m =
    flat_map-append print_message ms (m ∷ []) ∙ ap (λ l. front ++ l) (append-nil (print_message m)) in
    record {
      whole =
          ap (λ l. l ++ more) splits.whole ∙ append_assoc front held more ∙ ap (λ l. front ++ l) is
          ∙ sym (append_assoc front (print_message m) rest) ∙ ap (λ l. l ++ rest) (sym joined);
      each = All-push IsMessage ms m splits.each whole;
    }

module _ {S : Type 0} (answers : S → MessageParts → List ℕ → S → Type 0) where
  pub answers_more : (old mid new : S) (ms : List WholeMessage) (m : WholeMessage) (out reply : List ℕ)
      → AnswersAll answers old ms out mid → answers mid (message_parts m) reply new → AnswersAll answers old (ms ++ m ∷ []) (out ++ reply) new
  answers_more old mid new [] m out reply (none, same) one =
      (new, reply, [], subst (λ s. answers s (message_parts m) reply new) same one, ap (λ l. l ++ reply) none ∙ sym (append-nil reply), (refl, refl))
  answers_more old mid new (x ∷ ms) m out reply (next, first, later, is, whole, rest) one =
      (next, first, later ++ reply, is, ap (λ l. l ++ reply) whole ∙ append_assoc first later reply, answers_more next mid new ms m later reply rest one)

module _ {S : Type 0} (answers stops breaks : S → MessageParts → List ℕ → S → Type 0) where
  pub run_none : (old : StoreAndClock S) → length old.held ≤ max_message_len → old.unflushed ≡ false → Runs answers stops breaks old old [] []
  run_none old within clean = record {
    more = [];
    taken = Consumes-nil old.left;
    splits = record { whole = append-nil old.held; each = All-nil IsMessage };
    lasting = All-nil StaysOpen;
    answered = (refl, refl);
    written = Appends-nil old.written;
    unflushed = λ dirty. let e = sym clean ∙ dirty in absurd cc;
    bounded = within;
    idle = λ _. refl;
  }

  pub run_more : (old mid new : StoreAndClock S) (ms : List WholeMessage) (out : List ℕ) → Runs answers stops breaks old mid ms out → (x : Answers answers stops breaks false mid new)
      → Runs answers stops breaks old new (ms ++ x.1.message ∷ []) (out ++ x.0)
  run_more old mid new ms out run (reply, a, stays, wrote) =
      let m = a.message in record {
        more = run.more ++ a.more;
        taken = Consumes-trans old.left mid.left new.left run.more a.more run.taken a.taken;
        splits =
            subst (λ l. Splits l (ms ++ m ∷ []) new.held) (append_assoc old.held run.more a.more)
            (splits_more (old.held ++ run.more) a.more ms m mid.held new.held run.splits a.split a.is);
        lasting = All-push StaysOpen ms m run.lasting stays;
        answered = answers_more answers old.engine mid.engine new.engine ms m out reply run.answered a.answered;
        written = Appends-trans old.written mid.written new.written out reply run.written wrote;
        unflushed = λ _. omega (arith, length-append ms (m ∷ []));
        bounded = a.bounded;
        idle = λ none. absurd (omega (arith, none, length-append ms (m ∷ [])));
      }
