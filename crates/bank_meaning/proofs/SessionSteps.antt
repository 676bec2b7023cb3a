-- What a session that is opened or ended makes of a World that passes its checks.
use Rattle.std.proofs.Common.{◌≡◌, ℕ, ◌+◌, ◌≤◌, ◌==◌, Bool, true, false, List, [], ◌∷◌, Option, Some, None, Contains, refl, ap, arith, sym, subst, ◌∙◌}
use Rattle.std.specs.Prelude.{IsTrue, if◌then◌else◌, nat_le, option_and_then, option_map}
use Rattle.std.specs.List.{AllZip}
use Rattle.std.specs.Option.{option_map_or}
use Rattle.std.proofs.lemmas.Bool.{eqb-true}
use Rattle.std.proofs.lemmas.List.Elements.{All-map, All-weaker}
use Rattle.keyed_rows.specs.Ordered.{AreDistinct}
use Rattle.bank_policy.specs.HeldRows.{standing, standing_of, user_row}
use Rattle.bank_policy.specs.Policy.{PolicyLists}
use Rattle.bank_policy.specs.PolicyKeys.{user_key}
use Rattle.bank_policy.specs.PolicyWrites.{in_session, with_session}
use Rattle.bank_policy.specs.declared.policy_write.Session.{Session}
use Rattle.bank_policy.specs.declared.rows.Standing.{Standing}
use Rattle.bank_policy.specs.declared.rows.User.{User}
use Rattle.bank_terms.specs.Limits.{max_key}
use Rattle.bank_terms.specs.declared.rule.Rule.TheVariants as rule
use Rattle.policy_check.specs.Separation.{IsOfficer, Separated}
use Rattle.policy_check.specs.Soundness.{AreUsersSound, IsPolicySound, IsRelated, IsSet, IsUser, IsUserSound}
use Rattle.bank_books.specs.Balances.{account_balance, branch_balance, entry_count, teller_balance}
use Rattle.bank_books.specs.Cash.{cash_entry_total}
use Rattle.bank_books.specs.Effects.{written}
use Rattle.bank_books.specs.WorldLists.{WorldLists}
use Rattle.bank_books.specs.declared.row_write.RowWrite.TheVariants as write
use Rattle.book_laws.proofs.BooksSplit.{books_parts}
use Rattle.book_laws.proofs.ChangedRows.{HasRow-changed, changed_same, map-changed}
use Rattle.book_laws.proofs.Kept.{kept_same}
use Rattle.keyed_rows.proofs.Rows.{Contains-map_source, find-found}
use Rattle.rule_tests.proofs.RuleTests.{one_fits}
use Rattle.book_laws.proofs.SessionSet.{session_keeps_books}
use Rattle.bank_meaning.specs.Laws.{ChangesSessionAlone, IsSameUser, SessionsChangeNoMore}
use Rattle.bank_meaning.specs.Requests.{effect, first}
use Rattle.bank_meaning.specs.Sessions.{latest, session_of, standing_of_asker}
use Rattle.bank_meaning.specs.Moves.{moves_nothing}
use Rattle.bank_meaning.specs.Sums.{PassesChecks}
use Rattle.bank_meaning.specs.declared.request.Asked.{Asked}
use Rattle.bank_meaning.specs.declared.request.Asked.TheVariants as asked
use Rattle.bank_meaning.specs.declared.request.Request.{Request}
use Rattle.bank_meaning.specs.declared.who.Who.{Who}
use Rattle.bank_meaning.proofs.FirstRule.{none_denies}
use Rattle.bank_meaning.proofs.KeptOrder.{in_order_written}
use Rattle.bank_meaning.proofs.Steps.{IsStep, none_more, plus_zero}

-- ---- the policy, where a user's row has another session

abbrev with_users : Session → PolicyLists → PolicyLists
with_users s p = record p { users = with_session s p.users }

-- a user's row after it
abbrev seen : Session → User → User
seen s u = if user_key u == s.user then in_session s u else u

sound_user : (s : Session) (u : User) → IsUserSound u → IsUserSound (seen s u)
sound_user s u sound = go (user_key u == s.user)
  where
    go : (b : Bool) → IsUserSound (if b then in_session s u else u)
    go true = record { low = sound.low; high = sound.high; named = sound.named }
    go false = sound

sound_users : (s : Session) (users : List User) → AreUsersSound users → AreUsersSound (with_session s users)
sound_users s users sound = record {
  distinct = subst AreDistinct (sym (map-changed user_key s.user (in_session s) user_key (λ u. refl) users)) sound.distinct;
  each = All-map IsUserSound (seen s) users (All-weaker IsUserSound (λ u. IsUserSound (seen s u)) (sound_user s) users sound.each);
}

user_there : (s : Session) (p : PolicyLists) (user : ℕ) → IsUser p user → IsUser (with_users s p) user
unfolding IsUser
user_there s p user there = HasRow-changed user_key s.user (in_session s) (λ u. refl) p.users user there

keeps_sound : (s : Session) (p : PolicyLists) → IsPolicySound p → IsPolicySound (with_users s p)
unfolding IsSet IsRelated
keeps_sound s p was = record {
  users = sound_users s p.users was.users;
  sets = was.sets;
  relations = record {
    distinct = was.relations.distinct;
    numbers = was.relations.numbers;
    few = was.relations.few;
    sets = was.relations.sets;
    by = All-weaker (λ row. IsUser p row.by) (λ row. IsUser (with_users s p) row.by) (λ row there. user_there s p row.by there) p.relations was.relations.by;
  };
  triples = record {
    distinct = was.triples.distinct;
    numbers = was.triples.numbers;
    few = was.triples.few;
    users = All-weaker (λ row. IsUser p row.user) (λ row. IsUser (with_users s p) row.user) (λ row there. user_there s p row.user there) p.triples was.triples.users;
    relations = was.triples.relations;
    limits = was.triples.limits;
    moments = was.triples.moments;
  };
  certifiers = record {
    distinct = was.certifiers.distinct;
    users = All-weaker (λ row. IsUser p row.user) (λ row. IsUser (with_users s p) row.user) (λ row there. user_there s p row.user there) p.certifiers was.certifiers.users;
  };
}

-- who is an officer after it was one before
officer_before : (s : Session) (p : PolicyLists) (user : ℕ) → IsOfficer (with_users s p) user → IsOfficer p user
officer_before s p user (k, row, within, at, is) = go (Contains-map_source (seen s) p.users row (k, within, at))
  where
    go : (u : User) × (Contains p.users u × (seen s u ≡ row)) → IsOfficer p user
    go (u, (there, made)) =
        let number : row.user ≡ u.user = ap (λ r. r.user) (sym made) ∙ changed_same user_key s.user (in_session s) (λ r. r.user) (λ r. refl) u in
        let officer : row.officer ≡ u.officer = ap (λ r. r.officer) (sym made) ∙ changed_same user_key s.user (in_session s) (λ r. r.officer) (λ r. refl) u in
        (there.0, u, there.1, there.2, (sym number ∙ is.0, subst IsTrue officer is.1))

keeps_separated : (s : Session) (p : PolicyLists) → Separated p → Separated (with_users s p)
keeps_separated s p was = record { officers = λ user both. was.officers user (officer_before s p user both.0, both.1); others = was.others }

-- ---- the step

sets_session : (w : WorldLists) (s : Session) → s.session ≤ max_key → PassesChecks w → IsStep w (written (write.Session s) w) moves_nothing
sets_session w s high checks = record {
  checks = record {
    in_order = in_order_written (write.Session s) w checks.in_order;
    books = session_keeps_books w s high checks.books;
    sound = keeps_sound s w.policy checks.sound;
    separated = keeps_separated s w.policy checks.separated;
  };
  branches = λ key. plus_zero (branch_balance w key);
  tellers = λ key. plus_zero (teller_balance w key);
  accounts = λ key. plus_zero (account_balance w key);
  history = λ branch. none_more (entry_count branch w.entries);
  cash_entries = λ branch. plus_zero (cash_entry_total branch w.lines);
  stay = λ branch there. there;
  vaults = λ branch. refl;
  added = record { entries = kept_same w.entries; lines = kept_same w.lines; proofs = kept_same w.proofs };
}

-- ---- the number of the session

abbrev asks : Asked → Who → ℕ → Request
asks a who moment = record { who = who; moment = moment; asked = a }

fits : (row : Option Standing) → option_map_or (λ s. nat_le max_key s.session) row false ≡ false → latest row + 1 ≤ max_key
fits None is = omega arith
fits (Some s) is = one_fits max_key s.session is

pub opens_session : (w : WorldLists) (who : Who) (moment : ℕ) → PassesChecks w → first w (asks asked.Opening who moment) ≡ None
    → IsStep w (effect w (asks asked.Opening who moment)) moves_nothing
opens_session w who moment checks is =
    sets_session w (session_of who (latest (standing_of_asker who w) + 1) true) (fits (standing_of_asker who w) (none_denies w (asks asked.Opening who moment) rule.Full is)) checks

-- the latest session of a user is in range where the books hold
latest_of_row : (w : WorldLists) → PassesChecks w → (user : ℕ) (o : Option User) → user_row w.policy user ≡ o → latest (option_map standing_of o) ≤ max_key
latest_of_row w checks user None at = omega arith
latest_of_row w checks user (Some row) at = ((books_parts w).0 checks.books).0.rows.users row (find-found (λ r. user_key r == user) w.policy.users row at).0

latest_in_range : (w : WorldLists) → PassesChecks w → (user : Option ℕ) → latest (option_and_then (λ u. standing w.policy u) user) ≤ max_key
latest_in_range w checks None = omega arith
latest_in_range w checks (Some user) = latest_of_row w checks user (user_row w.policy user) refl

pub ends_session : (w : WorldLists) (who : Who) (moment : ℕ) → PassesChecks w → IsStep w (effect w (asks asked.Ending who moment)) moves_nothing
ends_session w who moment checks = sets_session w (session_of who (latest (standing_of_asker who w)) false) (latest_in_range w checks who.user) checks

-- ---- nothing else is changed

same_user : (s : Session) (u : User) → IsSameUser s.user u (seen s u)
same_user s u = go (user_key u == s.user) refl
  where
    go : (b : Bool) → (user_key u == s.user) ≡ b → IsSameUser s.user u (if b then in_session s u else u)
    go true is = record { user = refl; name = refl; officer = refl; suspended = refl; session = λ other. absurd (other (eqb-true u.user s.user is)) }
    go false is = record { user = refl; name = refl; officer = refl; suspended = refl; session = λ other. (refl, refl) }

same_users : (s : Session) (users : List User) → AllZip (IsSameUser s.user) users (with_session s users)
same_users s [] = tt
same_users s (u ∷ users) = (same_user s u, same_users s users)

alone : (w : WorldLists) (s : Session) → ChangesSessionAlone s.user w (written (write.Session s) w)
alone w s = record { books = refl; policy = refl; users = same_users s w.policy.users }

pub sessions_change_no_more : SessionsChangeNoMore
sessions_change_no_more w = (
  λ user. let who : Who = record { user = user; session = 0; release = 0; slip = 0 } in alone w (session_of who (latest (standing_of_asker who w) + 1) true),
  λ who. alone w (session_of who (latest (standing_of_asker who w)) false),
)
