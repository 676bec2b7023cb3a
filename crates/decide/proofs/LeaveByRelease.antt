-- What follows for the authorization from a release that was looked up.
use Rattle.std.proofs.Common.{◌≡◌, ℕ, Bool, true, false, Option, Some, Ok, Err, ap, sym, ◌∙◌}
use Rattle.std.specs.Prelude.{option_map}
use Rattle.std.specs.Option.{option_map_or}
use Rattle.bank_terms.specs.declared.rule.Rule.{Rule}
use Rattle.bank_terms.specs.declared.rule.Rule.TheVariants as rule
use Rattle.bank_books.specs.WorldLists.{WorldLists}
use Rattle.counter_ops.specs.Rows.{row_of}
use Rattle.counter_ops.specs.Touched.{amount, touched}
use Rattle.bank_meaning.specs.NamedRelease.{ReleaseGrounds, counts, release_grounds}
use Rattle.bank_meaning.specs.PolicyRules.{asker, grounds, is_released, leave_by_policy, leave_sought}
use Rattle.bank_meaning.specs.declared.execution.Execution.{Execution}
use Rattle.bank_meaning.specs.declared.leave.Authorization.TheVariants as leave
use Rattle.decide.specs.NamedRelease.{grounds_of, is_released_by}
use Rattle.decide.specs.declared.named_release.NamedRelease.{NamedRelease}
use Rattle.bank_meaning.proofs.PolicyLemmas.{if_counts, leave_joined, sought_is_named}

-- what is looked up by the user and the number is the release that is named
stated : (w : WorldLists) (x : Execution) (user number : ℕ) (named : Option NamedRelease) → x.who.user ≡ Some user → leave_sought (grounds w x) ≡ Ok (leave.Release number)
    → option_map (grounds_of x.moment) named ≡ release_grounds w user number x.moment → is_released_by named x ≡ is_released (grounds w x)
stated w x user number named asks sought is =
    let test : Option ReleaseGrounds → Bool = λ o. option_map_or (λ g. counts g (asker x.who) (row_of x.op) (touched x.op) (amount x.op)) o false in
    ap test is
    ∙ ap (λ n. test (release_grounds w user n x.moment)) (sought_is_named (grounds w x) number sought)
    ∙ ap (λ o. test (release_grounds w (option_map_or (λ u. u) o 0) x.who.release x.moment)) (sym asks)

pub by_release : (w : WorldLists) (x : Execution) (user number : ℕ) (named : Option NamedRelease) → x.who.user ≡ Some user → Ok (leave.Release number) ≡ leave_sought (grounds w x)
    → option_map (grounds_of x.moment) named ≡ release_grounds w user number x.moment → true ≡ is_released_by named x → Ok (leave.Release number) ≡ leave_by_policy (grounds w x)
by_release w x user number named asks sought is counts =
    sym (leave_joined (grounds w x)
    ∙ ap (λ b. if_counts b (leave_sought (grounds w x))) (sym (counts ∙ stated w x user number named asks (sym sought) is))
    ∙ ap (if_counts true) (sym sought))

pub refused_by_release : (w : WorldLists) (x : Execution) (user number : ℕ) (named : Option NamedRelease) → x.who.user ≡ Some user → Ok (leave.Release number) ≡ leave_sought (grounds w x)
    → option_map (grounds_of x.moment) named ≡ release_grounds w user number x.moment → false ≡ is_released_by named x → Err rule.Release ≡ leave_by_policy (grounds w x)
refused_by_release w x user number named asks sought is counts =
    sym (leave_joined (grounds w x)
    ∙ ap (λ b. if_counts b (leave_sought (grounds w x))) (sym (counts ∙ stated w x user number named asks (sym sought) is))
    ∙ ap (if_counts false) (sym sought))

-- a rule before that on releases is the first against the authorization
pub refused_before : (w : WorldLists) (x : Execution) (r : Rule) → Err r ≡ leave_sought (grounds w x) → Err r ≡ leave_by_policy (grounds w x)
refused_before w x r sought = sym (leave_joined (grounds w x) ∙ ap (if_counts (is_released (grounds w x))) (sym sought))
