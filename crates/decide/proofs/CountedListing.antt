-- The listing of the policy, counted for an officer who is known.
use Rattle.std.proofs.Common.{◌≡◌, ℕ, None, Option, Some, refl, sym, ap, ◌∙◌}
use Rattle.std.specs.Prelude.{option_and_then}
use Rattle.std.specs.List.{find}
use Rattle.bank_policy.specs.HeldRows.{standing}
use Rattle.bank_policy.specs.declared.rows.Standing.{Standing}
use Rattle.bank_terms.specs.declared.rule.Rule.{Rule}
use Rattle.bank_books.specs.WorldLists.{WorldLists}
use Rattle.rule_tests.specs.Denial.{is_denial}
use Rattle.bank_meaning.specs.Listing.{first_against_listing, listing_tests}
use Rattle.bank_meaning.specs.Requests.{first, lists, rules, verdict}
use Rattle.bank_meaning.specs.Sessions.{standing_of_asker}
use Rattle.bank_meaning.specs.declared.who.Who.{Who}
use Rattle.op_prepare.specs.Judged.{IsReported}
use Rattle.op_prepare.proofs.CountedReport.{report_counted}
use Rattle.reports.specs.Listing.{all_lines}
use Rattle.reports.specs.Report.{IsCounted}
use Rattle.reports.specs.declared.contents.Contents.{Contents}
use Rattle.reports.specs.declared.listing.Listing.TheVariants as listing

-- by the row of who asks
pub first_is : (w : WorldLists) (who : Who) (user : ℕ) (row : Option Standing) → who.user ≡ Some user → row ≡ standing w.policy user → first w (lists who) ≡ first_against_listing row who.session
first_is w who user row named is =
    let his : standing_of_asker who w ≡ row = ap (option_and_then (standing w.policy)) named ∙ sym is in
    ap (λ (r : Option Standing). find (λ (k : Rule). is_denial k (listing_tests r who.session)) rules) his ∙ refl

pub listing_denied : (w : WorldLists) (who : Who) (user : ℕ) (row : Option Standing) (rule : Rule) → who.user ≡ Some user → row ≡ standing w.policy user → first_against_listing row who.session ≡ Some rule
    → first w (lists who) ≡ Some rule
listing_denied w who user row rule named is denied = first_is w who user row named is ∙ denied

pub listing_counted : (w : WorldLists) (who : Who) (user : ℕ) (row : Option Standing) (c : Contents) → who.user ≡ Some user → row ≡ standing w.policy user → first_against_listing row who.session ≡ None
    → c.first ≡ listing.Policy None → c.most ≡ all_lines → IsCounted w c → IsReported w (verdict (lists who) w) c
listing_counted w who user row c named is allowed is_first is_most counted =
    report_counted w (verdict (lists who) w) (listing.Policy None) all_lines c (first_is w who user row named is ∙ allowed) refl refl is_first is_most counted
