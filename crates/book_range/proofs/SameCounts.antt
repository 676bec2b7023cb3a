-- When two counts of releases and slips are equal.
use Rattle.std.proofs.Common.{◌≡◌, ◌==◌, ◌&&◌, true, Decides, ap, rules, ◌∙◌}
use Rattle.std.proofs.lemmas.Bool.{eq-eqb, eqb-true}
use Rattle.bank_books.specs.declared.records.ReleaseCount.{ReleaseCount}
use Rattle.book_sums.proofs.Counting.{both_true}

counts_same : (a b : ReleaseCount) → a.user ≡ b.user → a.releases ≡ b.releases → a.slips ≡ b.slips → a ≡ b
counts_same a b user releases slips = search (rules, user, releases, slips)

pub counts_decide : (a b : ReleaseCount) → Decides (a.user == b.user && (a.releases == b.releases && a.slips == b.slips)) (a ≡ b)
counts_decide a b = (
  λ passes.
      let both = both_true (a.user == b.user) (a.releases == b.releases && a.slips == b.slips) passes in
      let rest = both_true (a.releases == b.releases) (a.slips == b.slips) both.1 in
      counts_same a b (eqb-true _ _ both.0) (eqb-true _ _ rest.0) (eqb-true _ _ rest.1),
  λ same.
      ap (λ t. t && (a.releases == b.releases && a.slips == b.slips)) (eq-eqb a.user b.user (ap (λ x. x.user) same))
      ∙ ap (λ t. true && (t && a.slips == b.slips)) (eq-eqb a.releases b.releases (ap (λ x. x.releases) same))
      ∙ ap (λ t. true && (true && t)) (eq-eqb a.slips b.slips (ap (λ x. x.slips) same)),
)
