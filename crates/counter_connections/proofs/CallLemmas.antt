-- Failed calls, counted from one connection to the next.
use Rattle.std.proofs.Common.{◌≡◌, ◌∙◌, ◌++◌, ◌∷◌, [], ℕ, List, Result, Ok, Err, arith, inl, inr, refl, subst}
use Rattle.http_messages.specs.Failures.{CountsByExit, CountsNone, CountsOne}
use Rattle.http_messages.specs.declared.serving.ServeFault.{ServeFault}
use Rattle.http_messages.specs.declared.serving.ServeFault.TheVariants.{Cut, Memory, Read, Report, Write}
use Rattle.http_messages.specs.declared.serving.Served.{Served}
use Rattle.money.specs.Counted.{counted_once_more, failure_count}
use Rattle.money.specs.declared.tallied.Tallied.{Tallied}
use Rattle.counter_connections.specs.Failed.{CountEnds, CountsEnd}
use Rattle.counter_connections.specs.declared.calls.CallFailures.{CallFailures}

-- one connection more
pub ends_more : (old mid new : CallFailures) (exits : List (Result Served ServeFault)) (exit : Result Served ServeFault) → CountEnds old mid exits → CountsEnd mid new exit → CountEnds old new (exits ++ exit ∷ [])
ends_more old mid new [] exit same one = (new, subst (λ (x : CallFailures). CountsEnd x new exit) same one, refl)
ends_more old mid new (first ∷ exits) exit (next, here, rest) one = (next, here, ends_more next mid new exits exit rest one)

-- those of a stream that counted none before
none_added : {T : Type 0} (n m : ℕ) (from to : Tallied T) → failure_count from ≡ 0 → CountsNone from to → (failure_count to ≡ 0 → m ≡ n) → m ≡ n
none_added n m from to began none is = is (none ∙ began)

one_added : {T : Type 0} (n m : ℕ) (from to : Tallied T) → failure_count from ≡ 0 → CountsOne from to → (failure_count to ≡ 1 → m ≡ counted_once_more n) → m ≡ counted_once_more n
one_added n m from to began one is = is (omega (arith, began, one))

pub ends_counted : {R W : Type 0} (old new : CallFailures) (r s : Tallied R) (u w : Tallied W) (exit : Result Served ServeFault) → failure_count r ≡ 0 → failure_count u ≡ 0 → CountsByExit r s u w exit
    → (failure_count s ≡ 0 → new.reads ≡ old.reads) → (failure_count s ≡ 1 → new.reads ≡ counted_once_more old.reads)
    → (failure_count w ≡ 0 → new.writes ≡ old.writes) → (failure_count w ≡ 1 → new.writes ≡ counted_once_more old.writes) → CountsEnd old new exit
ends_counted old new r s u w (Ok served) p q counts no_read one_read no_write one_write = (none_added old.reads new.reads r s p counts.0 no_read, none_added old.writes new.writes u w q counts.1 no_write)
ends_counted old new r s u w (Err Read) p q counts no_read one_read no_write one_write = (one_added old.reads new.reads r s p counts.0 one_read, none_added old.writes new.writes u w q counts.1 no_write)
ends_counted old new r s u w (Err Write) p q counts no_read one_read no_write one_write = (none_added old.reads new.reads r s p counts.0 no_read, one_added old.writes new.writes u w q counts.1 one_write)
ends_counted old new r s u w (Err Cut) p q counts no_read one_read no_write one_write = (none_added old.reads new.reads r s p counts.0 no_read, none_added old.writes new.writes u w q counts.1 no_write)
ends_counted old new r s u w (Err Memory) p q counts no_read one_read no_write one_write = (none_added old.reads new.reads r s p counts.0 no_read, none_added old.writes new.writes u w q counts.1 no_write)
ends_counted old new r s u w (Err Report) p q (read, inl none) no_read one_read no_write one_write = inl (none_added old.reads new.reads r s p read no_read, none_added old.writes new.writes u w q none no_write)
ends_counted old new r s u w (Err Report) p q (read, inr one) no_read one_read no_write one_write = inr (none_added old.reads new.reads r s p read no_read, one_added old.writes new.writes u w q one one_write)
