-- What the laws suppose is met by what it is named for.
use Rattle.std.proofs.Common.{◌≡◌, ℕ, ◌&&◌, is_none, Option, Some, None, refl, ap, sym, ◌∙◌, inl, inr}
use Rattle.std.specs.Prelude.{if◌then◌else◌, option_map, take}
use Rattle.std.specs.Option.{option_map_or}
use Rattle.std.specs.List.{find}
use Rattle.bank_terms.specs.Procedure.{takes_slip}
use Rattle.bank_terms.specs.declared.procedure.Procedure.TheVariants as procedure
use Rattle.bank_books.specs.Balances.{branch_row}
use Rattle.bank_books.specs.Records.{branch_record, branch_record_of}
use Rattle.bank_books.specs.WorldLists.{WorldLists}
use Rattle.bank_books.specs.declared.rows.Branch.{Branch}
use Rattle.bank_books.specs.declared.rows.Release.{Release}
use Rattle.bank_policy.specs.HeldRows.{standing, triples_of}
use Rattle.bank_policy.specs.Policy.{PolicyLists}
use Rattle.bank_policy.specs.Tests.{current}
use Rattle.counter_ops.specs.Op.{procedure_of}
use Rattle.counter_ops.specs.Rows.{row_of}
use Rattle.counter_ops.specs.declared.op.Op.TheVariants as op
use Rattle.world_reads.specs.BookReads.{is_release}
use Rattle.bank_meaning.specs.NamedRelease.{ReleaseGrounds, release_grounds, release_grounds_of}
use Rattle.bank_meaning.specs.PolicyRules.{asker}
use Rattle.bank_meaning.specs.Premises.{AreFirstRulesCovered, AreSlipsCovered, DrawersOffAreExcepted, PremisesAreMet}
use Rattle.bank_meaning.specs.Requests.{executes, first}
use Rattle.bank_meaning.specs.Run.{world_after}
use Rattle.bank_meaning.specs.Slips.{is_of_another, slip_grounds}
use Rattle.bank_meaning.specs.declared.execution.Execution.{Execution}

slips_covered : AreSlipsCovered
slips_covered = record {
  accepted = λ w requests n x there slip fresh allowed. record {
    there = there;
    slip = slip;
    accepted = ap (λ kept. is_none kept && is_none (first (world_after w (take n requests)) (executes x))) fresh ∙ ap (λ f. is_none f) allowed;
  };
  sent_again = λ x y user slip operation. record {
    user = ap (λ u. option_map_or (λ number. number) u 0) user;
    number = ap (λ o. if takes_slip (procedure_of o) then y.who.slip else 0) operation ∙ ap (λ s. if takes_slip (procedure_of x.op) then s else 0) slip;
    operation = ap row_of operation;
  };
  before = λ w x. inl refl;
  after = λ w x. inr refl;
}

-- ---- what the first rules judge by

-- of the slips of a World alone, whether that which is named is of another operation
same_slip : (w v : WorldLists) (x : Execution) → v.slips ≡ w.slips → is_of_another (slip_grounds v x) ≡ is_of_another (slip_grounds w x)
same_slip w v x slips = ap (λ s. is_of_another (slip_grounds (record w { slips = s }) x)) slips

-- the present day of a branch, by the rows of the branches
day_of : (w v : WorldLists) → v.branches ≡ w.branches → (key : ℕ) → option_map (λ b. b.row.day) (branch_record v key) ≡ option_map (λ b. b.row.day) (branch_record w key)
day_of w v branches key = by_row v (branch_row key v.branches) ∙ ap (λ bs. option_map (λ b. b.day) (branch_row key bs)) branches ∙ sym (by_row w (branch_row key w.branches))
  where
    by_row : (u : WorldLists) (row : Option Branch) → option_map (λ b. b.row.day) (option_map (branch_record_of u) row) ≡ option_map (λ b. b.day) row
    by_row u None = refl
    by_row u (Some row) = refl

same_release : (w v : WorldLists) (x : Execution) → v.policy ≡ w.policy → v.releases ≡ w.releases → v.branches ≡ w.branches
    → release_grounds v (asker x.who) x.who.release x.moment ≡ release_grounds w (asker x.who) x.who.release x.moment
same_release w v x policy releases branches =
    ap (λ rs. option_map (release_grounds_of v x.moment) (find (is_release (asker x.who) x.who.release) rs)) releases
    ∙ by_row (find (is_release (asker x.who) x.who.release) w.releases)
  where
    grounds_by : PolicyLists → Option ℕ → Release → ReleaseGrounds
    grounds_by p today row = record { row = row; today = today; giver = standing p row.giver; held = current x.moment (triples_of p row.giver procedure.Release) }

    by_row : (row : Option Release) → option_map (release_grounds_of v x.moment) row ≡ option_map (release_grounds_of w x.moment) row
    by_row None = refl
    by_row (Some row) =
        ap (λ p. Some (grounds_by p (option_map (λ b. b.row.day) (branch_record v row.branch)) row)) policy
        ∙ ap (λ today. Some (grounds_by w.policy today row)) (day_of w v branches row.branch)

first_rules_covered : AreFirstRulesCovered
first_rules_covered = record {
  before_books = refl;
  identity = λ w v x policy. record { policy = policy; release = λ is. cc; slip = λ other. absurd (other refl) };
  slips = λ r w v x other policy slips. record { policy = policy; release = λ is. absurd (other is); slip = λ is. same_slip w v x slips };
  releases = λ w v x policy slips releases branches. record {
    policy = policy;
    release = λ is. same_release w v x policy releases branches;
    slip = λ is. same_slip w v x slips;
  };
}

drawers_off_are_excepted : DrawersOffAreExcepted
drawers_off_are_excepted (op.DrawerOff form) is = refl
drawers_off_are_excepted _ is = cc

pub premises_are_met : PremisesAreMet
premises_are_met = (slips_covered, first_rules_covered, drawers_off_are_excepted)
