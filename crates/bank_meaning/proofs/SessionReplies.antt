-- What the opening and the ending of a session are replied is the number of the session that the World after them has.
use Rattle.std.proofs.Common.{◌≡◌, ℕ, ◌+◌, ◌==◌, true, false, Option, Some, None, refl, ap, sym, subst, ◌∙◌}
use Rattle.std.specs.Prelude.{option_map}
use Rattle.std.proofs.lemmas.Bool.{eqb-true}
use Rattle.keyed_rows.proofs.Rows.{find-found}
use Rattle.bank_policy.specs.HeldRows.{standing, standing_of, user_row}
use Rattle.bank_policy.specs.PolicyKeys.{user_key}
use Rattle.bank_policy.specs.PolicyWrites.{in_session}
use Rattle.bank_policy.specs.declared.policy_write.Session.{Session}
use Rattle.bank_policy.specs.declared.rows.Standing.{Standing}
use Rattle.bank_policy.specs.declared.rows.User.{User}
use Rattle.bank_terms.specs.declared.rule.Rule.TheVariants as rule
use Rattle.bank_books.specs.Effects.{written}
use Rattle.bank_books.specs.WorldLists.{WorldLists}
use Rattle.bank_books.specs.declared.row_write.RowWrite.TheVariants as write
use Rattle.bank_meaning.specs.Headline.{IsSessionReplied}
use Rattle.bank_meaning.specs.Laws.{IsIdentified, MayOpen}
use Rattle.bank_meaning.specs.PolicyRules.{asker}
use Rattle.bank_meaning.specs.Requests.{effect, ends_session, first, opens_session, reply_text}
use Rattle.bank_meaning.specs.Run.{if_allowed, reply, step, stated}
use Rattle.bank_meaning.specs.Sessions.{ending_text, latest, opening_text, session_of, standing_of_asker}
use Rattle.bank_meaning.specs.declared.request.Asked.{Asked}
use Rattle.bank_meaning.specs.declared.request.Asked.TheVariants as asked
use Rattle.bank_meaning.specs.declared.request.Request.{Request}
use Rattle.bank_meaning.specs.declared.who.Who.{Who}
use Rattle.bank_meaning.proofs.AddedRows.{found_made}
use Rattle.bank_meaning.proofs.FirstRule.{none_denies}
use Rattle.bank_meaning.proofs.JudgedPolicy.{identity_is_judged, known_passed}

-- ---- the row of a user whose session is set

abbrev with_number : Session → Standing → Standing
with_number s row = record row { session = s.session; on = s.on }

set_for : (w : WorldLists) (s : Session) (row : Standing) → standing w.policy s.user ≡ Some row → standing (written (write.Session s) w).policy s.user ≡ Some (with_number s row)
set_for w s row there = go (user_row w.policy s.user) refl there
  where
    go : (o : Option User) → user_row w.policy s.user ≡ o → option_map standing_of o ≡ Some row → standing (written (write.Session s) w).policy s.user ≡ Some (with_number s row)
    go None at is = absurd cc
    go (Some u) at is =
        let same : standing_of u ≡ row = cc in
        let key = eqb-true (user_key u) s.user (find-found (λ r. user_key r == s.user) w.policy.users u at).1 in
        ap (option_map standing_of) (found_made user_key s.user (in_session s) w.policy.users u key at) ∙ ap (λ r. Some (with_number s r)) same

abbrev at_moment : Asked → Who → ℕ → Request
at_moment a who moment = record { who = who; moment = moment; asked = a }

-- the row that the rules look at is that of the user who asks
asks_as : (w : WorldLists) (who : Who) (user : ℕ) (row : Standing) → who.user ≡ Some user → standing w.policy user ≡ Some row
    → (standing_of_asker who w ≡ Some row) × (standing w.policy (asker who) ≡ Some row)
asks_as w who user row named there = (
  ap (λ o. standing_of_asker (record who { user = o }) w) named ∙ there,
  ap (λ o. standing w.policy (asker (record who { user = o }))) named ∙ there,
)

pub opening_replied : (w : WorldLists) (who : Who) (moment : ℕ) → first w (at_moment asked.Opening who moment) ≡ None
    → IsSessionReplied (step w (at_moment asked.Opening who moment)) who true opening_text (reply w (at_moment asked.Opening who moment))
opening_replied w who moment is =
    let may : MayOpen w who.user = ((identity_is_judged w).opening who.user).0 (none_denies w (opens_session who.user) rule.Identity is) in
    let rows = asks_as w who may.user may.row may.named may.there in
    let number = latest (standing_of_asker who w) + 1 in
    let s : Session = session_of who number true in
    let left : step w (at_moment asked.Opening who moment) ≡ written (write.Session s) w = ap (λ r. if_allowed r (effect w (at_moment asked.Opening who moment)) w) is in
    subst (λ v. IsSessionReplied v who true opening_text (reply w (at_moment asked.Opening who moment))) (sym left) (record {
      row = with_number s may.row;
      there = set_for w s may.row rows.1;
      on = refl;
      says = ap (λ r. stated r (reply_text w (at_moment asked.Opening who moment))) is;
    })

pub ending_replied : (w : WorldLists) (who : Who) (moment : ℕ) → first w (at_moment asked.Ending who moment) ≡ None
    → IsSessionReplied (step w (at_moment asked.Ending who moment)) who false ending_text (reply w (at_moment asked.Ending who moment))
ending_replied w who moment is =
    let known : IsIdentified w who = (known_passed w who).0 (none_denies w (ends_session who) rule.Identity is) in
    let rows = asks_as w who known.user known.row known.named known.there in
    let s : Session = session_of who (latest (standing_of_asker who w)) false in
    let left : step w (at_moment asked.Ending who moment) ≡ written (write.Session s) w = ap (λ r. if_allowed r (effect w (at_moment asked.Ending who moment)) w) is in
    subst (λ v. IsSessionReplied v who false ending_text (reply w (at_moment asked.Ending who moment))) (sym left) (record {
      row = with_number s known.row;
      there = set_for w s known.row rows.1;
      on = refl;
      says = ap (λ r. stated r (reply_text w (at_moment asked.Ending who moment))) is;
    })
