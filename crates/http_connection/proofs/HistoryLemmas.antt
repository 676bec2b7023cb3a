-- Histories, one after another.
use Rattle.std.proofs.Common.{◌≡◌, ◌+◌, ℕ, arith, false, List, [], ◌∷◌, ◌++◌, Option, refl, sym, ap, subst, ◌∙◌, append-nil, append_assoc, take, drop, take-append-drop}
use Rattle.std.proofs.KnownBytes.{Appends-nil, Appends-trans, Consumes-nil, Consumes-trans}
use Rattle.std.specs.Io.KnownBytes.{Appends, Consumes}
use Rattle.http_messages.specs.Parts.{MessageParts}
use Rattle.http_connection.specs.Connection.{IsAnswered}
use Rattle.http_connection.specs.History.{Event, IsHistory, Moves, answered_by, answered_of, came, came_of, ended, stepped, went, went_of, with_unsent}
use Rattle.http_connection.specs.Parts.{ConnectionParts, after_received, after_sent, closed}
use Rattle.http_connection.specs.declared.progress.Progress.{Progress}

came_both : (xs ys : List Event) → came_of (xs ++ ys) ≡ came_of xs ++ came_of ys
came_both [] ys = refl
came_both (came bytes ∷ xs) ys = ap (λ l. bytes ++ l) (came_both xs ys) ∙ sym (append_assoc bytes (came_of xs) (came_of ys))
came_both (stepped p ∷ xs) ys = came_both xs ys
came_both (went bytes ∷ xs) ys = came_both xs ys
came_both (ended ∷ xs) ys = came_both xs ys

went_both : (xs ys : List Event) → went_of (xs ++ ys) ≡ went_of xs ++ went_of ys
went_both [] ys = refl
went_both (came bytes ∷ xs) ys = went_both xs ys
went_both (stepped p ∷ xs) ys = went_both xs ys
went_both (went bytes ∷ xs) ys = ap (λ l. bytes ++ l) (went_both xs ys) ∙ sym (append_assoc bytes (went_of xs) (went_of ys))
went_both (ended ∷ xs) ys = went_both xs ys

answered_both : (xs ys : List Event) → answered_of (xs ++ ys) ≡ answered_of xs + answered_of ys
answered_both [] ys = omega arith
answered_both (came bytes ∷ xs) ys = answered_both xs ys
answered_both (stepped p ∷ xs) ys = let following = answered_both xs ys in omega (arith, following)
answered_both (went bytes ∷ xs) ys = answered_both xs ys
answered_both (ended ∷ xs) ys = answered_both xs ys

plus_none : (n : ℕ) → n + 0 ≡ n
plus_none n = omega arith

-- nothing came
pub received_none : (c : ConnectionParts) → c ≡ after_received [] c
received_none c = ap (λ l. record c { held = l }) (sym (append-nil c.held))

-- n more of the bytes that were to go out went out
pub sent_more : (first c d : ConnectionParts) (u v w : Option (List ℕ)) (out : List ℕ) (n : ℕ) → first.unsent ≡ out ++ c.unsent → c ≡ with_unsent c.unsent first → d ≡ after_sent n c → Appends u v out
    → Appends v w (take n c.unsent) → (x : List ℕ) × (first.unsent ≡ x ++ d.unsent) × (d ≡ with_unsent d.unsent first) × Appends u w x
sent_more first c d u v w out n split same is wrote more = (
  out ++ take n c.unsent,
  split ∙ ap (λ l. out ++ l) (sym (take-append-drop n c.unsent)) ∙ sym (append_assoc out (take n c.unsent) (drop n c.unsent))
      ∙ ap (λ l. (out ++ take n c.unsent) ++ l) (sym (ap (λ (x : ConnectionParts). x.unsent) is)),
  is ∙ ap (λ (x : ConnectionParts). with_unsent (drop n c.unsent) x) same ∙ ap (λ l. with_unsent l first) (sym (ap (λ (x : ConnectionParts). x.unsent) is)),
  Appends-trans u v w out (take n c.unsent) wrote more,
)

module _ {S : Type 0} (answers stops breaks : S → MessageParts → List ℕ → S → Type 0) where
  history_then : (c d e : ConnectionParts) (a b f : S) (xs ys : List Event) → IsHistory answers stops breaks c a xs d b → IsHistory answers stops breaks d b ys e f
      → IsHistory answers stops breaks c a (xs ++ ys) e f
  history_then c d e a b f [] ys (is, same) later =
      subst (λ (x : ConnectionParts). IsHistory answers stops breaks x a ys e f) is (subst (λ (s : S). IsHistory answers stops breaks d s ys e f) same later)
  history_then c d e a b f (came bytes ∷ xs) ys here later = history_then (after_received bytes c) d e a b f xs ys here later
  history_then c d e a b f (stepped p ∷ xs) ys (mid, at, open_still, step, rest) later = (mid, at, open_still, step, history_then mid d e at b f xs ys rest later)
  history_then c d e a b f (went bytes ∷ xs) ys (rest, is, after) later = (rest, is, history_then (with_unsent rest c) d e a b f xs ys after later)
  history_then c d e a b f (ended ∷ xs) ys here later = history_then (closed c) d e a b f xs ys here later

  abbrev M : Option (List ℕ) → Option (List ℕ) → Option (List ℕ) → Option (List ℕ) → ℕ → ConnectionParts → S → ConnectionParts → S → Type 0
  M = Moves answers stops breaks

  pub moves_none : (l w : Option (List ℕ)) (c : ConnectionParts) (e : S) → M l l w w 0 c e c e
  moves_none l w c e = record { events = []; history = (refl, refl); came = Consumes-nil l; went = Appends-nil w; count = refl }

  pub moves_then : (l m n u v w : Option (List ℕ)) (i j : ℕ) (c d e : ConnectionParts) (a b f : S) → M l m u v i c a d b → M m n v w j d b e f → M l n u w (i + j) c a e f
  moves_then l m n u v w i j c d e a b f here later = record {
    events = here.events ++ later.events;
    history = history_then c d e a b f here.events later.events here.history later.history;
    came = subst (Consumes l n) (sym (came_both here.events later.events)) (Consumes-trans l m n (came_of here.events) (came_of later.events) here.came later.came);
    went = subst (Appends u w) (sym (went_both here.events later.events)) (Appends-trans u v w (went_of here.events) (went_of later.events) here.went later.went);
    count = answered_both here.events later.events ∙ ap (λ n. n + answered_of later.events) here.count ∙ ap (λ n. i + n) later.count;
  }

  -- i and then j are k in all
  pub moves_on : (l m n u v w : Option (List ℕ)) (i j k : ℕ) (c d e : ConnectionParts) (a b f : S) → M l m u v i c a d b → M m n v w j d b e f → k ≡ i + j → M l n u w k c a e f
  moves_on l m n u v w i j k c d e a b f here later is = subst (λ x. M l n u w x c a e f) (sym is) (moves_then l m n u v w i j c d e a b f here later)

  -- a step was taken
  pub moves_step : (l m u v : Option (List ℕ)) (i j : ℕ) (c d e : ConnectionParts) (a b f : S) (p : Progress) → M l m u v i c a d b → d.is_closing ≡ false → IsAnswered answers stops breaks d b e f p → j ≡ i + answered_by p
      → M l m u v j c a e f
  moves_step l m u v i j c d e a b f p here open_still step is =
      subst (λ n. M l m u v n c a e f) (sym is) (moves_then l m m u v v i (answered_by p) c d e a b f here
      (record { events = stepped p ∷ []; history = (e, f, open_still, step, (refl, refl)); came = Consumes-nil m; went = Appends-nil v; count = plus_none (answered_by p) }))

  -- some went out
  pub moves_out : (l m u v w : Option (List ℕ)) (i : ℕ) (c d e : ConnectionParts) (a b : S) → M l m u v i c a d b → (out : List ℕ) × (d.unsent ≡ out ++ e.unsent) × (e ≡ with_unsent e.unsent d) × Appends v w out → M l m u w i c a e b
  moves_out l m u v w i c d e a b here (out, is, same, wrote) =
      subst (λ n. M l m u w n c a e b) (plus_none i) (moves_then l m m u v w i 0 c d e a b b here
      (record { events = went out ∷ []; history = (e.unsent, is, (same, refl)); came = Consumes-nil m; went = subst (Appends v w) (sym (append-nil out)) wrote; count = refl }))

  -- some came
  pub moves_in : (l m n u v : Option (List ℕ)) (i : ℕ) (c d e : ConnectionParts) (a b : S) → M l m u v i c a d b → (bytes : List ℕ) × (e ≡ after_received bytes d) × Consumes m n bytes → M l n u v i c a e b
  moves_in l m n u v i c d e a b here (bytes, is, read) =
      subst (λ k. M l n u v k c a e b) (plus_none i) (moves_then l m n u v v i 0 c d e a b b here
      (record { events = came bytes ∷ []; history = (is, refl); came = subst (Consumes m n) (sym (append-nil bytes)) read; went = Appends-nil v; count = refl }))
