use Rattle.std.proofs.Common.{◌≡◌, None, false, take}
use Rattle.std.specs.List.{list_any}
use Rattle.world_reads.specs.PolicyReads.{is_certifier}
use Rattle.store_rows.specs.Status.{Keeps, Tells}
use Rattle.command_reads.proofs.loads.certifies_one_of.Given as goal

-- nothing has changed, no fault was counted, and the user certifies none of the procedures that were asked about
abbrev pub invariant-loop-procedure : goal.invariant-loop-procedure
invariant-loop-procedure g l = record {
  kept : Keeps (g.P.StoreState.status l.fn.store) (g.P.StoreState.status l.store) None;
  counted : (g.P.StoreState.status l.store).fault_count ≡ (g.P.StoreState.status l.fn.store).fault_count;
  none : Tells (g.P.StoreState.status l.fn.store) (g.P.StoreState.status l.store) (λ w. list_any (is_certifier w l.user) (take l.procedure-index l.procedures) ≡ false);
}
