use Rattle.std.proofs.Common.{rules, ◌≡◌, Ok, refl}
use Rattle.bank_policy.specs.HeldRows.{relations_of}
use Rattle.store_cached.proofs.Standing.{reads_beside, reads_kept, reads_then}
use Rattle.store_cached.specs.Standing.{Suits, cached_status, with_kept}
use Rattle.store_rows.specs.Status.{ReadsRow}
use Rattle.std.specs.Rc.{rc_slice_items}
use Rattle.store_cached.proofs.policy_reads.CachedPolicyReads.relations_of.Goals as goal

pub returns-in_err-version-clause-reads : goal.returns-in_err-version-clause-reads
returns-in_err-version-clause-reads g c =
    reads_kept _ (g.S.StoreState.status c.present_version.new.self.store) _ _ _ _ _ _ c.in_err-version.ensures.reads (search rules) (λ clean w holds suits. suits) (λ clean w holds suits. search rules)

pub returns-in-Some-Relations-clause-reads : goal.returns-in-Some-Relations-clause-reads
returns-in-Some-Relations-clause-reads g c =
    reads_kept _ (g.S.StoreState.status c.present_version.new.self.store) _ _ _ _ _ _ c.in_ok-version.ensures.reads (search rules)
    (λ clean w holds suits. (c.recall.ensures.fresh w suits.0, suits.1))
    (λ clean w holds suits.
    let stated = c.in-Some-Relations.ensures.stated w suits.0 (c.in_ok-version.ensures.reads.stated clean w holds) in
    (rw c.in-Some-Relations.field-0-is at stated).1)

pub returns-in_err-rows-clause-reads : goal.returns-in_err-rows-clause-reads
returns-in_err-rows-clause-reads g c =
    reads_kept _ (g.S.StoreState.status c.relations_of.new.self) _ _ _ _ _ _
    (reads_then _ _ _ _ _ _ _ c.in_ok-version.ensures.reads (reads_beside _ _ _ _ _ c.in_err-rows.ensures)) (search rules)
    (λ clean w holds suits. (c.recall.ensures.fresh w suits.0, suits.1))
    (λ clean w holds suits. search rules)

pub returns-clause-reads : goal.returns-clause-reads
returns-clause-reads g c =
    let read : ReadsRow (cached_status g.S.StoreState.status c.args.self.now) (with_kept (g.S.StoreState.status c.relations_of.new.self) (Suits c.present_version.new.self.known c.remember_relations-kept.new.self)) (Ok c.in_ok-rows.rows) (λ w rows. rc_slice_items rows ≡ relations_of w.policy c.args.procedure) =
    reads_kept _ (g.S.StoreState.status c.relations_of.new.self) _ _ _ _ _ _
    (reads_then _ _ _ _ _ _ _ c.in_ok-version.ensures.reads (reads_beside _ _ _ _ _ c.in_ok-rows.ensures)) (search rules)
    (λ clean w holds suits. (
      c.remember_relations-kept.ensures.fresh w (c.recall.ensures.fresh w suits.0)
          (c.in_ok-version.ensures.reads.stated (c.in_ok-rows.ensures.kept.answers.honest clean) w holds)
          refl
          (c.in_ok-rows.ensures.stated clean w (c.in_ok-version.ensures.reads.kept.kept w holds).0),
      suits.1,
    ))
    (λ clean w holds suits. c.in_ok-rows.ensures.stated clean w (c.in_ok-version.ensures.reads.kept.kept w holds).0) in
    elim c.if-is_err.branch [ goal.then-is_err w ↦ rw w.self-is read | goal.else-is_err w ↦ rw w.self-is read ]
