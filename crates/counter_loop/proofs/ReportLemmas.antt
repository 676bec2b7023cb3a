-- Reports, wait after wait.
use Rattle.std.proofs.Common.{◌≡◌, Bool, true, List, [], ◌∷◌, ◌++◌, Option, Some, None, Result, Ok, Err, IfOk, sym, ap, subst, ◌∙◌, refl, arith, append-nil, append_assoc, Contains}
use Rattle.std.specs.declared.time.Instant.{Instant}
use Rattle.std.proofs.lemmas.List.Elements.{Contains-append_left, Contains-append_right}
use Rattle.counter_door.specs.Readiness.{HasEnded, IsReadAt, Reports, with_reports}
use Rattle.counter_loop.specs.Round.{AreRead, Round, reports_of}
use Rattle.counter_door.specs.declared.readiness.Ready.{Ready}
use Rattle.counter_door.specs.declared.readiness.Ready.TheVariants.{End}

pub reports_none : (o : Option (List (List Ready))) → Reports o o []
reports_none None = tt
reports_none (Some all) = sym (append-nil all)

pub reports_then : (a b c : Option (List (List Ready))) (m n : List (List Ready)) → Reports a b m → Reports b c n → Reports a c (m ++ n)
reports_then None b c m n here later = tt
reports_then (Some p) None c m n here later = absurd here
reports_then (Some p) (Some q) None m n here later = absurd later
reports_then (Some p) (Some q) (Some r) m n here later = later ∙ ap (λ l. l ++ n) here ∙ append_assoc p m n

-- of some waits, one more, and those after it
pub reports_after : (a b c d : Option (List (List Ready))) (l : List (List Ready)) (ready : List Ready) (m n : List (List Ready)) → Reports a b l → Reports b c (ready ∷ []) → Reports c d (m ++ n)
    → Reports a d ((l ++ ready ∷ m) ++ n)
reports_after a b c d l ready m n before here later =
    subst (Reports a d) (sym (append_assoc l (ready ∷ m) n)) (reports_then a b d l ((ready ∷ []) ++ (m ++ n)) before (reports_then b c d (ready ∷ []) (m ++ n) here later))

-- the end was among the reports of a wait, from some before to some later
pub ended : (a b c d : Option (List (List Ready))) (l n : List (List Ready)) (ready : List Ready) → Reports a b l → Reports b c (ready ∷ []) → Reports c d n → Contains ready End → HasEnded a d
ended a b c d l n ready before here later is = record {
  since = l ++ ((ready ∷ []) ++ n);
  reported = reports_then a b d l ((ready ∷ []) ++ n) before (reports_then b c d (ready ∷ []) n here later);
  ready = ready;
  among = Contains-append_right l ((ready ∷ []) ++ n) ready (Contains-append_left (ready ∷ []) n ready (0, omega arith, refl));
  is = is;
}

-- what holds however it ended
pub however : {A E : Type 0} (P : Type 0) (r : Result A E) → P → IfOk r (λ _. P)
however P (Ok x) so = so
however P (Err e) so = tt

-- ---- what is kept of them

pub with_none : (kept : Option (List (List Ready))) → with_reports kept [] ≡ kept
with_none None = refl
with_none (Some all) = ap Some (append-nil all)

pub with_then : (kept : Option (List (List Ready))) (m n : List (List Ready)) → with_reports (with_reports kept m) n ≡ with_reports kept (m ++ n)
with_then None m n = refl
with_then (Some all) m n = ap Some (append_assoc all m n)

reports_with : (kept : Option (List (List Ready))) (since : List (List Ready)) → Reports kept (with_reports kept since) since
reports_with None since = tt
reports_with (Some all) since = refl

pub reports_by : (a b : Option (List (List Ready))) (since : List (List Ready)) → b ≡ with_reports a since → Reports a b since
reports_by a b since is = subst (λ o. Reports a o since) (sym is) (reports_with a since)

-- one wait more
pub with_more : (a b c : Option (List (List Ready))) (since : List (List Ready)) (ready : List Ready) → b ≡ with_reports a since → c ≡ with_reports b (ready ∷ []) → c ≡ with_reports a (since ++ ready ∷ [])
with_more a b c since ready here later = later ∙ ap (λ o. with_reports o (ready ∷ [])) here ∙ with_then a since (ready ∷ [])

-- ---- what the clock showed

abbrev pub Shows : Type 0
Shows = Option (List (List Ready)) → Instant → Bool

-- as it did before, of what was reported by then
pub shown_before : (before now : Shows) (a b : Option (List (List Ready))) (t : Instant) → now ≡ before → b ≡ a → now b t ≡ true → before a t ≡ true
shown_before before now a b t same kept is = sym (ap (λ (f : Shows). f a t) same) ∙ ap (λ o. now o t) (sym kept) ∙ is

pub read_more : (shows : Shows) (kept : Option (List (List Ready))) (rounds : List Round) (r : Round) → AreRead shows kept rounds → IsReadAt shows (with_reports kept (reports_of rounds)) r.ready r.now → AreRead shows kept (rounds ++ r ∷ [])
read_more shows kept [] r read now = (subst (λ o. IsReadAt shows o r.ready r.now) (with_none kept) now, tt)
read_more shows kept (q ∷ rounds) r (first, read) now =
    (first, read_more shows (with_reports kept (q.ready ∷ [])) rounds r read (subst (λ o. IsReadAt shows o r.ready r.now) (sym (with_then kept (q.ready ∷ []) (reports_of rounds))) now))
