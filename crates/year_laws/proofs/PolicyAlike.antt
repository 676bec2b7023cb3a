-- Sessions, commands of the policy and its listing are judged, answered and carried out by the policy alone, and so
-- alike at both banks.
use Rattle.std.proofs.Common.{◌≡◌, ◌+◌, ◌++◌, ◌∙◌, ℕ, zero, suc, [], ◌∷◌, length, Bool, true, false, Option, Some, None, refl, ap, ap₂, subst, sym}
use Rattle.std.specs.Prelude.{nat_lt, option_and_then, option_map, if◌then◌else◌}
use Rattle.std.specs.Option.{option_map_or}
use Rattle.std.specs.List.{concat, find}
use Rattle.bank_terms.specs.Limits.{max_version}
use Rattle.bank_terms.specs.declared.rule.Rule.{Rule}
use Rattle.bank_policy.specs.HeldRows.{standing}
use Rattle.bank_policy.specs.Policy.{PolicyLists}
use Rattle.bank_policy.specs.PolicyWrites.{policy_written, with_session}
use Rattle.bank_policy.specs.declared.policy_write.PolicyWrite.{PolicyWrite}
use Rattle.bank_policy.specs.declared.rows.Standing.{Standing}
use Rattle.bank_books.specs.Effects.{applied, in_full}
use Rattle.bank_books.specs.WorldLists.{WorldLists}
use Rattle.bank_books.specs.declared.row_write.RowWrite.TheVariants as write
use Rattle.policy_commands.specs.declared.policy_op.PolicyOp.{PolicyOp}
use Rattle.report_lines.specs.Texts.{policy_line}
use Rattle.reports.specs.Lines.{NextOf, lines_from}
use Rattle.reports.specs.Listing.{all_lines, heading, listed_lines, listed_row, next_listed, report_text}
use Rattle.reports.specs.declared.listing.Listing.{Listing}
use Rattle.reports.specs.declared.listing.Listing.TheVariants as listing
use Rattle.rule_tests.specs.Denial.{is_denial}
use Rattle.world_reads.specs.PolicyListing.{key_of, next_policy}
use Rattle.world_reads.specs.declared.policy_row.PolicyKey.{PolicyKey}
use Rattle.world_reads.specs.declared.policy_row.PolicyRow.{PolicyRow}
use Rattle.bank_meaning.specs.Commands.{command_meaning}
use Rattle.bank_meaning.specs.Listing.{listing_tests}
use Rattle.bank_meaning.specs.Meaning.{json, plain}
use Rattle.bank_meaning.specs.Requests.{effect, first, reply_text, rules}
use Rattle.bank_meaning.specs.Run.{if_allowed, reply, step, stated}
use Rattle.bank_meaning.specs.Sessions.{ending_tests, ending_text, latest, opening_tests, opening_text, session_of}
use Rattle.bank_meaning.specs.declared.request.Asked.{Asked}
use Rattle.bank_meaning.specs.declared.request.Asked.TheVariants as asked
use Rattle.bank_meaning.specs.declared.request.Request.{Request}
use Rattle.bank_meaning.specs.declared.who.Who.{Who}
use Rattle.year_laws.specs.GoesOn.{Turn}
use Rattle.year_laws.specs.RequestsAlike.{ServeAlike}
use Rattle.year_laws.proofs.UsedAlike.{policy_stays}

-- ---- the listing

listed_same : (old new : WorldLists) → old.policy ≡ new.policy → (most : ℕ) (after : Option PolicyKey) → listed_lines old (listing.Policy after) most ≡ listed_lines new (listing.Policy after) most
listed_same old new same zero after = refl
listed_same old new same (suc n) after =
    ap (λ p. option_map_or (λ (found : NextOf Listing). found.line ∷ lines_from (next_listed old) n found.rest) (option_map listed_row (next_policy (record old { policy = p }) after)) []) same
    ∙ go (next_policy new after) (listed_same old new same n)
  where
    go : (o : Option PolicyRow) → ((next : Option PolicyKey) → listed_lines old (listing.Policy next) n ≡ listed_lines new (listing.Policy next) n)
        → option_map_or (λ (found : NextOf Listing). found.line ∷ lines_from (next_listed old) n found.rest) (option_map listed_row o) []
        ≡ option_map_or (λ (found : NextOf Listing). found.line ∷ lines_from (next_listed new) n found.rest) (option_map listed_row o) []
    go None rest = refl
    go (Some row) rest = ap (λ lines. policy_line row ∷ lines) (rest (Some (key_of row)))

text_same : (old new : WorldLists) → old.policy ≡ new.policy → report_text old (listing.Policy None) all_lines ≡ report_text new (listing.Policy None) all_lines
text_same old new same = ap (λ lines. heading (listing.Policy None) (length lines) ++ concat lines) (listed_same old new same all_lines None)

-- ---- one change of the policy, which is made where the version has room

change_stays : (t : Turn) (old new : WorldLists) → ServeAlike t old new → (change : PolicyWrite) → ServeAlike t (applied (write.Policy change ∷ []) old) (applied (write.Policy change ∷ []) new)
change_stays t old new serve change = go (nat_lt old.version max_version) (nat_lt new.version max_version) (ap (λ n. nat_lt n max_version) serve.version)
  where
    go : (b c : Bool) → b ≡ c → ServeAlike t (if b then in_full (write.Policy change ∷ []) old else old) (if c then in_full (write.Policy change ∷ []) new else new)
    go true true same =
        policy_stays t old new serve (policy_written change old.policy) (policy_written change new.policy) (old.version + 1) (new.version + 1) (ap (policy_written change) serve.policy)
        (ap (λ n. n + 1) serve.version)
    go false false same = serve
    go true false same = absurd cc
    go false true same = absurd cc

-- ---- one request

-- by the same rule against it, or none
pub allowed_alike : (t : Turn) (old new a b : WorldLists) (f g : Option Rule) → f ≡ g → ServeAlike t old new → ServeAlike t a b → ServeAlike t (if_allowed f a old) (if_allowed g b new)
allowed_alike t old new a b None None same serve made = made
allowed_alike t old new a b (Some r) (Some s) same serve made = serve
allowed_alike t old new a b None (Some s) same serve made = absurd cc
allowed_alike t old new a b (Some r) None same serve made = absurd cc

-- answered the same, and the banks are alike after it
pub record IsServed (t : Turn) (old new : WorldLists) (q : Request) : Type 0 where
  pub same : reply old q ≡ reply new q
  pub after : ServeAlike t (step old q) (step new q)

module _ (t : Turn) (old new : WorldLists) (serve : ServeAlike t old new) (who : Who) (moment : ℕ) where
  abbrev asks : Asked → Request
  asks a = record { who = who; moment = moment; asked = a }

  -- what the policy says of who asks
  abbrev asker_in : PolicyLists → Option Standing
  asker_in p = option_and_then (λ user. standing p user) who.user

  -- the policy with the next session of who asks, or with that closed
  abbrev opened : PolicyLists → PolicyLists
  opened p = record p { users = with_session (session_of who (latest (asker_in p) + 1) true) p.users }

  abbrev ended : PolicyLists → PolicyLists
  ended p = record p { users = with_session (session_of who (latest (asker_in p)) false) p.users }

  abbrev against_opening : PolicyLists → Option Rule
  against_opening p = find (λ r. is_denial r (opening_tests (asker_in p))) rules

  abbrev against_ending : PolicyLists → Option Rule
  against_ending p = find (λ r. is_denial r (ending_tests (asker_in p) who.session)) rules

  abbrev against_listing : PolicyLists → Option Rule
  against_listing p = find (λ r. is_denial r (listing_tests (asker_in p) who.session)) rules

  abbrev against_command : PolicyOp → PolicyLists → Option Rule
  against_command command p = find (λ r. (command_meaning command who (record old { policy = p })).denies r) rules

  -- the same rule, or none, is the first against it
  served : (a : Asked) → first old (asks a) ≡ first new (asks a) → reply old (asks a) ≡ reply new (asks a) → ServeAlike t (effect old (asks a)) (effect new (asks a))
      → step old (asks a) ≡ if_allowed (first old (asks a)) (effect old (asks a)) old → step new (asks a) ≡ if_allowed (first new (asks a)) (effect new (asks a)) new → IsServed t old new (asks a)
  served a same text made old_step new_step = record {
    same = text;
    after = subst (λ w. ServeAlike t w (step new (asks a))) (sym old_step) (subst (λ w. ServeAlike t (if_allowed (first old (asks a)) (effect old (asks a)) old) w) (sym new_step)
        (allowed_alike t old new _ _ _ _ same serve made));
  }

  pub opening_served : IsServed t old new (asks asked.Opening)
  opening_served =
      served asked.Opening (ap against_opening serve.policy) (ap (λ p. stated (against_opening p) (json (opening_text (latest (asker_in p) + 1)))) serve.policy)
      (policy_stays t old new serve (opened old.policy) (opened new.policy) old.version new.version (ap opened serve.policy) serve.version) refl refl

  pub ending_served : IsServed t old new (asks asked.Ending)
  ending_served =
      served asked.Ending (ap against_ending serve.policy) (ap (λ p. stated (against_ending p) (json (ending_text (latest (asker_in p))))) serve.policy)
      (policy_stays t old new serve (ended old.policy) (ended new.policy) old.version new.version (ap ended serve.policy) serve.version) refl refl

  pub listing_served : IsServed t old new (asks asked.Listing)
  listing_served =
      served asked.Listing (ap against_listing serve.policy) (ap₂ (λ p text. stated (against_listing p) (plain text)) serve.policy (text_same old new serve.policy)) serve refl refl

  pub command_served : (command : PolicyOp) → IsServed t old new (asks (asked.Command command))
  command_served command =
      served (asked.Command command) (ap (against_command command) serve.policy) (ap (λ p. stated (against_command command p) (reply_text old (asks (asked.Command command)))) serve.policy)
      (change_stays t old new serve _) refl refl
