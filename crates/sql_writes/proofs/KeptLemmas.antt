-- Changes of the tables as changes of a World.
use Rattle.std.specs.Bool.{⊤}
use Rattle.std.proofs.Common.{List, Result, Ok, Err, IsTrue, OnOk, true, sym, subst}
use Rattle.sqlite.specs.State.{State}
use Rattle.bank_policy.specs.declared.policy_write.PolicyWrite.{PolicyWrite}
use Rattle.bank_policy.specs.declared.policy_write.Session.{Session}
use Rattle.bank_books.specs.Effects.{all_written, written}
use Rattle.bank_books.specs.WorldLists.{WorldLists}
use Rattle.bank_books.specs.Version.{with_version}
use Rattle.bank_books.specs.declared.row_write.RowWrite.{RowWrite}
use Rattle.bank_books.specs.declared.row_write.RowWrite.TheVariants as write
use Rattle.book_kept.specs.Changes.{IsNew, policy_sheets, session_sheets, version_sheets}
use Rattle.book_kept.specs.Keepable.{IsKeepable}
use Rattle.book_kept.specs.Kept.{AreKept, IsKept}
use Rattle.book_kept.specs.Sheets.{Sheets, sheets_of}
use Rattle.book_kept.proofs.PlainKept.{session_is_kept, version_is_kept}
use Rattle.book_kept.proofs.PolicyKept.{policy_is_kept}
use Rattle.sql_schema.specs.Held.{HoldsTables, HoldsWorld}
use Rattle.sql_schema.specs.Steps.{Moves, Steps, Tells}
use Rattle.sql_schema.proofs.StepLemmas.{ok_weaker}
use Rattle.sql_schema.proofs.WorldLemmas.{tables_of, world_of}

-- What makes of the tables what a change makes of the rows with their numbers writes the change, where the rows that it was made by are of the World.
pub moves_kept : {X E : Type 0} (old new : State) (change : RowWrite) (after : Sheets → Sheets) (says : Sheets → Type 0) (result : Result X E)
    → ((w : WorldLists) → IsKeepable w → says (sheets_of w) → IsKept w change after)
    → Steps old new after result → Tells old new says result → Moves old new (written change) result
moves_kept {X} {E} old new change after says result kept steps tells clean inside w holds =
    let it = steps clean inside (sheets_of w) (tables_of old.now w holds) in
    (go result it.0 (tells clean inside (sheets_of w) (tables_of old.now w holds)), it.1)
  where
    go : (r : Result X E) → OnOk r (IsTrue new.in_transaction × HoldsTables new.now (after (sheets_of w))) → OnOk r (says (sheets_of w)) → OnOk r (IsTrue new.in_transaction × HoldsWorld new.now (written change w))
    go (Ok x) h stated =
        let it = kept w holds.world.keepable stated in
        (h.0, world_of new.now (written change w) it.keepable (subst (HoldsTables new.now) (sym it.sheets) h.1))
    go (Err e) h stated = tt

-- nothing is asked of the rows before it
pub says_nothing : {X E : Type 0} (old new : State) (result : Result X E) → Tells old new (λ s. ⊤) result
says_nothing {X} {E} old new result clean inside s holds = go result
  where
    go : (r : Result X E) → OnOk r ⊤
    go (Ok x) = tt
    go (Err e) = tt

-- a change of the policy, where what it adds is new
pub policy_moves : {X E : Type 0} (old new : State) (change : PolicyWrite) (result : Result X E) → Steps old new (policy_sheets change) result → Tells old new (IsNew change) result → Moves old new (written (write.Policy change)) result
policy_moves old new change result steps tells = moves_kept old new (write.Policy change) (policy_sheets change) (IsNew change) result (λ w can new. policy_is_kept w change can new) steps tells

-- a user's session
pub session_moves : {X E : Type 0} (old new : State) (c : Session) (result : Result X E) → Steps old new (session_sheets c) result → Moves old new (written (write.Session c)) result
session_moves old new c result steps = moves_kept old new (write.Session c) (session_sheets c) (λ s. ⊤) result (λ w can none. session_is_kept w c can) steps (says_nothing old new result)

-- the next version of the policy
pub version_moves : {X E : Type 0} (old new : State) (result : Result X E) → Steps old new (version_sheets true) result → Moves old new (with_version true) result
version_moves old new result steps clean inside w holds =
    let law = version_is_kept w true holds.world.keepable in
    let it = steps clean inside (sheets_of w) (tables_of old.now w holds) in
    (ok_weaker result _ _ (λ h. (h.0, world_of new.now (with_version true w) law.keepable (subst (HoldsTables new.now) (sym law.sheets) h.1))) it.0, it.1)

-- the same where the change is known beforehand
pub kept_held : {X E : Type 0} (new : State) (change : RowWrite) (after : Sheets → Sheets) (w : WorldLists) (r : Result X E) → IsKept w change after
    → OnOk r (IsTrue new.in_transaction × HoldsTables new.now (after (sheets_of w))) → OnOk r (IsTrue new.in_transaction × HoldsWorld new.now (written change w))
kept_held new change after w (Ok x) it h = (h.0, world_of new.now (written change w) it.keepable (subst (HoldsTables new.now) (sym it.sheets) h.1))
kept_held new change after w (Err e) it h = tt

-- the same where it is known from the step that it was made by
pub kept_read_back : {X E : Type 0} (new : State) (change : RowWrite) (after : Sheets → Sheets) (w : WorldLists) (r : Result X E) (P : Type 0) → OnOk r P → (P → IsKept w change after)
    → OnOk r (IsTrue new.in_transaction × HoldsTables new.now (after (sheets_of w))) → OnOk r (IsTrue new.in_transaction × HoldsWorld new.now (written change w))
kept_read_back {X} {E} new change after w (Ok x) P stated kept h = kept_held {X = X} {E = E} new change after w (Ok x) (kept stated) h
kept_read_back new change after w (Err e) P stated kept h = tt

-- the same of several changes that are written as one
pub all_held : {X E : Type 0} (new : State) (changes : List RowWrite) (after : Sheets → Sheets) (w : WorldLists) (r : Result X E) → AreKept w changes after
    → OnOk r (IsTrue new.in_transaction × HoldsTables new.now (after (sheets_of w))) → OnOk r (IsTrue new.in_transaction × HoldsWorld new.now (all_written changes w))
all_held new changes after w (Ok x) it h = (h.0, world_of new.now (all_written changes w) it.keepable (subst (HoldsTables new.now) (sym it.sheets) h.1))
all_held new changes after w (Err e) it h = tt
