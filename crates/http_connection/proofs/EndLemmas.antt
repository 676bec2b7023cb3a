-- How a call ends, from how its run ended.
use Rattle.std.proofs.Common.{◌≡◌, ◌∙◌, ◌++◌, ℕ, List, [], true, Option, None, Some, Result, Ok, Err, refl, sym, ap, subst, inl, inr, append-nil}
use Rattle.std.proofs.KnownBytes.{Keeps-refl}
use Rattle.std.specs.Io.KnownBytes.{Appends, Keeps, append_known}
use Rattle.http_messages.specs.Exit.{IsExit}
use Rattle.http_messages.specs.Parts.{MessageParts}
use Rattle.http_messages.specs.Run.{IsServed}
use Rattle.http_messages.specs.declared.serving.ServeFault.{ServeFault}
use Rattle.http_messages.specs.declared.serving.ServeFault.TheVariants.{Cut, Memory, Read, Write}
use Rattle.http_messages.specs.declared.serving.Served.{Served}
use Rattle.http_messages.proofs.ExitLemmas.{exit_ended, exit_flushed}
use Rattle.http_connection.specs.History.{with_unsent}
use Rattle.http_connection.specs.Parts.{ConnectionParts, opened}
use Rattle.http_connection.specs.Serving.{HasGoneOut, IsServedSo, at, is_some_left, row_of}
use Rattle.http_connection.proofs.GatheredLemmas.{none_left, still_there}

none_more : (w : Option (List ℕ)) → append_known w [] ≡ w
none_more None = refl
none_more (Some bytes) = ap Some (append-nil bytes)

begun : (w : Option (List ℕ)) (c : ConnectionParts) → c ≡ opened → append_known w c.unsent ≡ w
begun w c is = ap (λ (x : ConnectionParts). append_known w x.unsent) is ∙ none_more w

module _ {S : Type 0} (answers stops breaks : S → MessageParts → List ℕ → S → Type 0) (most : ℕ) where
  -- nothing was read, answered or written
  pub none_served : (l w : Option (List ℕ)) (e : S) → IsServedSo answers stops breaks most l l w w e e (Err Memory)
  none_served l w e = record { unsent = []; how = Err Memory; ends = inr (refl, refl); exit = ap (λ o. record { left = l; written = o; engine = e }) (none_more w); gone = refl }

  module _ (l m u v : Option (List ℕ)) (c d : ConnectionParts) (e f : S) (is : c ≡ opened) where
    -- by the row of its end, with what is gathered kept
    pub kept_so : (w : Option (List ℕ)) (unsent : List ℕ) (end result : Result Served ServeFault) → IsServed answers stops breaks most (at l c u e) (at m d v f) (row_of end)
        → Keeps (append_known v d.unsent) (append_known w unsent) → row_of result ≡ row_of end → HasGoneOut result unsent → IsServedSo answers stops breaks most l m u w e f result
    kept_so w unsent end result served keeps same gone = record {
      unsent = unsent;
      how = row_of end;
      ends = inl (sym same);
      exit = subst (λ o. IsExit answers stops breaks most (record { left = l; written = o; engine = e }) (record { left = m; written = append_known w unsent; engine = f }) (row_of end)) (begun u c is)
          (exit_ended answers stops breaks most (at l c u e) (at m d v f) (append_known w unsent) (row_of end) (ap (λ (x : ConnectionParts). x.held) is) served keeps);
      gone = gone;
    }

    -- something was sent after it, and that failed or not
    pub sent_so : (w : Option (List ℕ)) (x : ConnectionParts) (end result : Result Served ServeFault) → IsServed answers stops breaks most (at l c u e) (at m d v f) (row_of end)
        → (out : List ℕ) × (d.unsent ≡ out ++ x.unsent) × (x ≡ with_unsent x.unsent d) × Appends v w out → row_of result ≡ row_of end → HasGoneOut result x.unsent → IsServedSo answers stops breaks most l m u w e f result
    sent_so w x end result served went same gone = kept_so w x.unsent end result served (still_there d x v w went) same gone

    -- nothing was sent after it
    pub ended_so : (end : Result Served ServeFault) → IsServed answers stops breaks most (at l c u e) (at m d v f) (row_of end) → HasGoneOut end d.unsent → IsServedSo answers stops breaks most l m u v e f end
    ended_so end served gone = kept_so v d.unsent end end served (Keeps-refl (append_known v d.unsent)) refl gone

    -- it ended well, and then a write failed
    pub failed_so : (w : Option (List ℕ)) (x : ConnectionParts) (s : Served) → IsServed answers stops breaks most (at l c u e) (at m d v f) (Ok s)
        → (out : List ℕ) × (d.unsent ≡ out ++ x.unsent) × (x ≡ with_unsent x.unsent d) × Appends v w out → is_some_left d.unsent ≡ true → IsServedSo answers stops breaks most l m u w e f (Err Write)
    failed_so w x s served went some = record {
      unsent = x.unsent;
      how = Err Write;
      ends = inl refl;
      exit = subst (λ o. IsExit answers stops breaks most (record { left = l; written = o; engine = e }) (record { left = m; written = append_known w x.unsent; engine = f }) (Err Write)) (begun u c is)
          (exit_flushed answers stops breaks most (at l c u e) (at m d v f) (append_known w x.unsent) s (Err Write) (ap (λ (y : ConnectionParts). y.held) is) served tt (refl, some) (still_there d x v w went));
      gone = tt;
    }

    -- before a read all had gone out
    pub read_so : IsServed answers stops breaks most (at l c u e) (at m d v f) (Err Read) → IsServedSo answers stops breaks most l m u v e f (Err Read)
    read_so (mid, ms, out, run, (fewer, (x, part, kept, clean))) = ended_so (Err Read) (mid, ms, out, run, (fewer, (x, part, kept, clean))) (none_left d.unsent clean)

    pub cut_so : IsServed answers stops breaks most (at l c u e) (at m d v f) (Err Cut) → IsServedSo answers stops breaks most l m u v e f (Err Cut)
    cut_so (mid, ms, out, run, (fewer, (x, part, inside, end, kept, clean))) = ended_so (Err Cut) (mid, ms, out, run, (fewer, (x, part, inside, end, kept, clean))) (none_left d.unsent clean)
