-- What a beginning of some bytes is, after others were written whole.
use Rattle.std.proofs.Common.{◌≡◌, ℕ, ◌+◌, List, [], ◌++◌, length, length-append, append-nil, take, Option, Result, Ok, Err, OnOk, ◌-◌, ◌≤◌, replicate, sym, ap, ◌∙◌, subst, arith}
use Rattle.std.proofs.Math.Seq.{take-append-add}
use Rattle.std.proofs.lemmas.List.{take-append-le, replicate-append-replicate}
use Rattle.std.specs.Io.KnownBytes.{Appends}
use Rattle.std.proofs.KnownBytes.{Appends-trans}
use Rattle.money.specs.Counted.{AppendsBeginning, CountsFailure, Sends, counted_once_more}
use Rattle.money.specs.declared.tallied.Tallied.{Tallied}

-- all of some bytes, and then a beginning of more, is a beginning of the whole
pub beginning_after : (old mid new : Option (List ℕ)) (a b c whole : List ℕ) → whole ≡ a ++ (b ++ c)
    → Appends old mid a → AppendsBeginning mid new b → AppendsBeginning old new whole
beginning_after old mid new a b c whole is first (n, fits, more) =
    let cut : take (length a + n) whole ≡ a ++ take n b =
    ap (take (length a + n)) is ∙ take-append-add a (b ++ c) n ∙ ap (λ l. a ++ l) (take-append-le n b c fits) in (
      length a + n,
      omega (arith, ap length is, length-append a (b ++ c), length-append b c),
      subst (Appends old new) (sym cut) (Appends-trans old mid new a (take n b) first more),
    )

-- What a sending says of the whole where b is what it sent: a went out before it with no failure counted, and c would have followed.
pub Sends-after : {W E : Type 0} (contents : W → Option (List ℕ)) (old mid new : Tallied W) (a b c whole : List ℕ) (r : Result Unit E)
    → whole ≡ a ++ (b ++ c) → OnOk r (c ≡ []) → Appends (contents old.stream) (contents mid.stream) a → mid.failures ≡ old.failures
    → Sends contents mid new b r → Sends contents old new whole r
Sends-after contents old mid new a b c whole (Ok _) is last first kept sent = record {
  whole = subst (Appends _ _) (ap (λ l. a ++ l) (sym (append-nil b) ∙ ap (λ l. b ++ l) (sym last)) ∙ sym is) (Appends-trans _ _ _ a b first sent.whole);
  beginning = tt;
  kept = sent.kept ∙ kept;
  counted = tt;
  cause = tt;
  counts = omega (arith, sent.counts);
}
Sends-after contents old mid new a b c whole (Err _) is last first kept sent = record {
  whole = tt;
  beginning = beginning_after _ _ _ a b c whole is first sent.beginning;
  kept = tt;
  counted = sent.counted ∙ ap counted_once_more kept;
  cause = subst (λ n. CountsFailure n new.failures) kept sent.cause;
  counts = omega (arith, sent.counts);
}

-- what holds in any case holds where it ends well
pub on_ok : {A E : Type 0} {P : Type 0} (r : Result A E) → P → OnOk r P
on_ok (Ok _) p = p
on_ok (Err _) p = tt

-- what is left over once k more went out
shares : (n left k : ℕ) → left ≤ n → k ≤ left → (n - left) + k ≡ n - (left - k)
shares n left k some fits = omega arith

-- what went out and what is left are the whole
rejoined : (n left : ℕ) → left ≤ n → (n - left) + left ≡ n
rejoined n left some = omega arith

-- of n spaces as many as left have yet to go out, and k of these went out
pub spaces_more : (old mid new : Option (List ℕ)) (n left k : ℕ) (bs : List ℕ) → left ≤ n → k ≤ left → bs ≡ replicate k 32
    → Appends old mid (replicate (n - left) 32) → Appends mid new bs → Appends old new (replicate (n - (left - k)) 32)
spaces_more old mid new n left k bs some fits is first more =
    let whole : replicate (n - left) 32 ++ bs ≡ replicate (n - (left - k)) 32 =
    ap (λ s. replicate (n - left) 32 ++ s) is ∙ replicate-append-replicate (n - left) k 32 ∙ ap (λ m. replicate m 32) (shares n left k some fits) in
    subst (Appends old new) whole (Appends-trans old mid new (replicate (n - left) 32) bs first more)

-- the whole of n spaces, around k of those that had yet to go out
pub spaces_around : (n left k : ℕ) (bs : List ℕ) → left ≤ n → k ≤ left → bs ≡ replicate k 32
    → replicate n 32 ≡ replicate (n - left) 32 ++ (bs ++ replicate (left - k) 32)
spaces_around n left k bs some fits is =
    let tail : k + (left - k) ≡ left = omega arith in
    sym (ap (λ s. replicate (n - left) 32 ++ s) (ap (λ s. s ++ replicate (left - k) 32) is ∙ replicate-append-replicate k (left - k) 32 ∙ ap (λ m. replicate m 32) tail)
    ∙ replicate-append-replicate (n - left) left 32 ∙ ap (λ m. replicate m 32) (rejoined n left some))
