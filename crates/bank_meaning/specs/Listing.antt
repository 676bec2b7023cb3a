-- The listing of the policy: the rules against it, its reply and its meaning. It changes nothing.
use Rattle.std.specs.Prelude.{ℕ, Bool, false, not, [], ◌∷◌, None, Option, List}
use Rattle.std.specs.Option.{option_map_or}
use Rattle.bank_policy.specs.declared.rows.Standing.{Standing}
use Rattle.bank_terms.specs.declared.rule.Rule.{Rule}
use Rattle.bank_terms.specs.declared.rule.Rule.TheVariants as rule
use Rattle.bank_books.specs.WorldLists.{WorldLists}
use Rattle.rule_tests.specs.Denial.{first_denial, is_denial}
use Rattle.reports.specs.Listing.{all_lines, report_text}
use Rattle.reports.specs.declared.listing.Listing.TheVariants as listing
use Rattle.bank_meaning.specs.Meaning.{Meaning, plain}
use Rattle.bank_meaning.specs.PolicyRules.{is_identified}
use Rattle.bank_meaning.specs.Sessions.{standing_of_asker}
use Rattle.bank_meaning.specs.declared.who.Who.{Who}

abbrev pub is_officer_row : Option Standing → Bool
is_officer_row row = option_map_or (λ s. s.officer) row false

-- the rules that a listing is judged by, in their order, each with whether it denies
abbrev pub listing_tests : Option Standing → ℕ → List (Rule × Bool)
listing_tests row session =
    (rule.Identity, not (is_identified row session))
    ∷ (rule.Officer, not (is_officer_row row))
    ∷ []

-- the first of them that denies
abbrev pub first_against_listing : Option Standing → ℕ → Option Rule
first_against_listing row session = first_denial (listing_tests row session)

abbrev pub listing_meaning : Who → WorldLists → Meaning
listing_meaning who w = record {
  denies = λ r. is_denial r (listing_tests (standing_of_asker who w) who.session);
  effect = w;
  reply = plain (report_text w (listing.Policy None) all_lines);
}
