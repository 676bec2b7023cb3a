-- Each read keeps what the reads before it kept, and the rows are those of one World. Search finds all of this but
-- `returns-in_err-is_undone`, in a quarter of a minute more.
use Rattle.std.proofs.Common.{◌≡◌, Err, refl, rules, ◌∙◌}
use Rattle.op_prepare.proofs.Kept.{answered, fails, keeps_then}
use Rattle.op_prepare.proofs.correct.load_correct_rows.Goals as goal

pub returns-in_err-other : goal.returns-in_err-other
returns-in_err-other g c =
    let is : c.from_residual-in_err-other.result ≡ Err c.in_err-other.field-0.0 = search rules in
    fails _ _ _ _ _ is c.in_ok-account.ensures.refused (keeps_then _ _ _ _ (c.in_ok-account.ensures.kept, c.in_ok-account.ensures.counted) (c.in_err-other.ensures.read.kept, c.in_err-other.ensures.counted))

pub returns-in_err-teller : goal.returns-in_err-teller
returns-in_err-teller g c =
    let is : c.from_residual-in_err-teller.result ≡ Err c.in_err-teller.field-0.0 = search rules in
    fails _ _ _ _ _ is c.in_ok-account.ensures.refused (keeps_then _ _ _ _ (c.in_ok-account.ensures.kept, c.in_ok-account.ensures.counted) (keeps_then _ _ _ _ (c.in_ok-other.ensures.read.kept, c.in_ok-other.ensures.counted) (c.in_err-teller.ensures.kept, c.in_err-teller.ensures.counted)))

pub returns-in_err-branch : goal.returns-in_err-branch
returns-in_err-branch g c =
    let is : c.from_residual-in_err-branch.result ≡ Err c.in_err-branch.field-0.0 = search rules in
    fails _ _ _ _ _ is c.in_ok-account.ensures.refused (keeps_then _ _ _ _ (c.in_ok-account.ensures.kept, c.in_ok-account.ensures.counted) (keeps_then _ _ _ _ (c.in_ok-other.ensures.read.kept, c.in_ok-other.ensures.counted) (keeps_then _ _ _ _ (c.in_ok-teller.ensures.kept, c.in_ok-teller.ensures.counted) (c.in_err-branch.ensures.kept, c.in_err-branch.ensures.counted))))

pub returns-in_err-entry : goal.returns-in_err-entry
returns-in_err-entry g c =
    let is : c.from_residual-in_err-entry.result ≡ Err c.in_err-entry.field-0.0 = search rules in
    fails _ _ _ _ _ is c.in_ok-account.ensures.refused (keeps_then _ _ _ _ (c.in_ok-account.ensures.kept, c.in_ok-account.ensures.counted) (keeps_then _ _ _ _ (c.in_ok-other.ensures.read.kept, c.in_ok-other.ensures.counted) (keeps_then _ _ _ _ (c.in_ok-teller.ensures.kept, c.in_ok-teller.ensures.counted) (keeps_then _ _ _ _ (c.in_ok-branch.ensures.kept, c.in_ok-branch.ensures.counted) (c.in_err-entry.ensures.kept, c.in_err-entry.ensures.counted)))))

pub returns-in_err-partner : goal.returns-in_err-partner
returns-in_err-partner g c =
    let is : c.from_residual-in_err-partner.result ≡ Err c.in_err-partner.field-0.0 = search rules in
    fails _ _ _ _ _ is c.in_ok-account.ensures.refused (keeps_then _ _ _ _ (c.in_ok-account.ensures.kept, c.in_ok-account.ensures.counted) (keeps_then _ _ _ _ (c.in_ok-other.ensures.read.kept, c.in_ok-other.ensures.counted) (keeps_then _ _ _ _ (c.in_ok-teller.ensures.kept, c.in_ok-teller.ensures.counted) (keeps_then _ _ _ _ (c.in_ok-branch.ensures.kept, c.in_ok-branch.ensures.counted) (keeps_then _ _ _ _ (c.in_ok-entry.ensures.kept, c.in_ok-entry.ensures.counted) (c.in_err-partner.ensures.read.kept, c.in_err-partner.ensures.counted))))))

pub returns-in_err-is_undone : goal.returns-in_err-is_undone
returns-in_err-is_undone g c =
    let is : c.from_residual-in_err-is_undone.result ≡ Err c.in_err-is_undone.field-0.0 = search rules in
    fails _ _ _ _ _ is c.in_ok-account.ensures.refused (keeps_then _ _ _ _ (c.in_ok-account.ensures.kept, c.in_ok-account.ensures.counted) (keeps_then _ _ _ _ (c.in_ok-other.ensures.read.kept, c.in_ok-other.ensures.counted) (keeps_then _ _ _ _ (c.in_ok-teller.ensures.kept, c.in_ok-teller.ensures.counted) (keeps_then _ _ _ _ (c.in_ok-branch.ensures.kept, c.in_ok-branch.ensures.counted) (keeps_then _ _ _ _ (c.in_ok-entry.ensures.kept, c.in_ok-entry.ensures.counted) (keeps_then _ _ _ _ (c.in_ok-partner.ensures.read.kept, c.in_ok-partner.ensures.counted) (c.in_err-is_undone.ensures.kept, c.in_err-is_undone.ensures.counted)))))))

pub returns : goal.returns
returns g c = record {
  stated = λ honest w holds.
      let honest-partner = c.in_ok-is_undone.ensures.kept.answers.honest honest in
      let honest-entry = c.in_ok-partner.ensures.read.kept.answers.honest honest-partner in
      let honest-branch = c.in_ok-entry.ensures.kept.answers.honest honest-entry in
      let honest-teller = c.in_ok-branch.ensures.kept.answers.honest honest-branch in
      let honest-other = c.in_ok-teller.ensures.kept.answers.honest honest-teller in
      let honest-account = c.in_ok-other.ensures.read.kept.answers.honest honest-other in
      let account = c.in_ok-account.ensures.stated honest-account w holds in
      let held-account = c.in_ok-account.ensures.kept.kept w holds in
      let other = c.in_ok-other.ensures.read.stated honest-other w held-account in
      let held-other = c.in_ok-other.ensures.read.kept.kept w held-account in
      let teller = c.in_ok-teller.ensures.stated honest-teller w held-other in
      let held-teller = c.in_ok-teller.ensures.kept.kept w held-other in
      let branch = c.in_ok-branch.ensures.stated honest-branch w held-teller in
      let held-branch = c.in_ok-branch.ensures.kept.kept w held-teller in
      let entry = c.in_ok-entry.ensures.stated honest-entry w held-branch in
      let held-entry = c.in_ok-entry.ensures.kept.kept w held-branch in
      let partner = c.in_ok-partner.ensures.read.stated honest-partner w held-entry in
      let held-partner = c.in_ok-partner.ensures.read.kept.kept w held-entry in
      let is_undone = c.in_ok-is_undone.ensures.stated honest w held-partner in
      c.of.ensures ∙ rw (account, other, teller, branch, partner, entry, is_undone) refl;
  kept = (keeps_then _ _ _ _ (c.in_ok-account.ensures.kept, c.in_ok-account.ensures.counted) (keeps_then _ _ _ _ (c.in_ok-other.ensures.read.kept, c.in_ok-other.ensures.counted) (keeps_then _ _ _ _ (c.in_ok-teller.ensures.kept, c.in_ok-teller.ensures.counted) (keeps_then _ _ _ _ (c.in_ok-branch.ensures.kept, c.in_ok-branch.ensures.counted) (keeps_then _ _ _ _ (c.in_ok-entry.ensures.kept, c.in_ok-entry.ensures.counted) (keeps_then _ _ _ _ (c.in_ok-partner.ensures.read.kept, c.in_ok-partner.ensures.counted) (c.in_ok-is_undone.ensures.kept, c.in_ok-is_undone.ensures.counted))))))).0;
  refused = λ stopped. answered (c.in_ok-account.ensures.refused stopped);
  counted = search rules;
}
