-- What each request that changes users' rows says of them: an enrolment, a suspension, a restoration, and the opening and the ending of a session.
use Rattle.std.proofs.Common.{◌≡◌, ℕ, ◌+◌, ◌==◌, Bool, true, false, cond, not, Option, Some, None, unwrap_or, refl, ap, sym, ◌∙◌}
use Rattle.std.specs.Prelude.{is_none, is_some, option_and_then, option_map, if◌then◌else◌}
use Rattle.std.specs.Option.{option_map_or}
use Rattle.std.proofs.lemmas.Bool.{eqb-true}
use Rattle.bank_policy.specs.HeldRows.{standing, standing_of, user_row}
use Rattle.bank_policy.specs.Policy.{PolicyLists}
use Rattle.bank_policy.specs.PolicyKeys.{user_key}
use Rattle.bank_policy.specs.PolicyWrites.{in_session, in_suspension, policy_written, with_session}
use Rattle.bank_policy.specs.declared.policy_write.PolicyWrite.TheVariants as change
use Rattle.bank_policy.specs.declared.policy_write.Session.{Session}
use Rattle.bank_policy.specs.declared.policy_write.Suspension.{Suspension}
use Rattle.bank_policy.specs.declared.rows.Standing.{Standing}
use Rattle.bank_policy.specs.declared.rows.User.{User}
use Rattle.policy_commands.specs.declared.policy_op.Enrolment.{Enrolment}
use Rattle.policy_commands.specs.declared.policy_op.PolicyOp.TheVariants as command
use Rattle.policy_commands.specs.declared.policy_op.UserKey.{UserKey}
use Rattle.certify.specs.Commands.{change_of}
use Rattle.bank_meaning.specs.InForce.{enrolment_of, said_if, session_number}
use Rattle.bank_meaning.specs.PolicyRules.{asker, is_identified}
use Rattle.bank_meaning.specs.Sessions.{latest, session_of}
use Rattle.bank_meaning.specs.declared.request.Asked.TheVariants as asked
use Rattle.bank_meaning.specs.declared.who.Who.{Who}
use Rattle.bank_meaning.proofs.LastWordRows.{found_beside, found_changed}
use Rattle.bank_meaning.proofs.LastWordSaid.{IsSaid, none_more}

-- ---- what is read of a user's row, where one more is there or one is made anew

-- of a new user, whose row says no more of it than no row does
still : {A : Type 0} (f : User → A) (d : A) (row : User) → f row ≡ d → (b : Bool) (o : Option User) → (b ≡ true → o ≡ None)
    → option_map_or f (unwrap_or (said_if b (Some row)) o) d ≡ option_map_or f o d
still f d row is true o none = is ∙ sym (ap (λ x. option_map_or f x d) (none refl))
still f d row is false o none = refl

-- of a row in which it stays
stays : {A : Type 0} (f : User → A) (d : A) (g : User → User) → ((row : User) → f (g row) ≡ f row) → (b : Bool) (o : Option User)
    → option_map_or f (option_map (λ row. if b then g row else row) o) d ≡ option_map_or f o d
stays f d g same b None = refl
stays f d g same true (Some row) = same row
stays f d g same false (Some row) = refl

-- of a row in which it is set
becomes : {A : Type 0} (f : User → A) (d v : A) (g : User → User) → ((row : User) → f (g row) ≡ v) → (b : Bool) (o : Option User) → (b ≡ true → o ≡ None → d ≡ v)
    → option_map_or f (option_map (λ row. if b then g row else row) o) d ≡ unwrap_or (said_if b v) (option_map_or f o d)
becomes f d v g made true None there = there refl refl
becomes f d v g made true (Some row) there = made row
becomes f d v g made false None there = refl
becomes f d v g made false (Some row) there = refl

-- who the user is stays
known : (g : User → User) → ((row : User) → enrolment_of (g row) ≡ enrolment_of row) → (b : Bool) (o : Option User)
    → option_map enrolment_of (option_map (λ row. if b then g row else row) o) ≡ option_map enrolment_of o
known g same b None = refl
known g same true (Some row) = ap Some (same row)
known g same false (Some row) = refl

-- ---- a user who is taken in

missing : (o : Option User) → is_some (option_map standing_of o) ≡ false → o ≡ None
missing None none = refl
missing (Some row) none = absurd cc

-- the row that an enrolment adds
abbrev new_user : Enrolment → User
new_user e = record { user = e.user; name = e.name; officer = e.officer; suspended = false; session = 0; on = false }

taken_in : (e : Enrolment) (b : Bool) (o : Option User) → option_map enrolment_of (unwrap_or (said_if b (Some (new_user e))) o) ≡ unwrap_or (said_if b (Some e)) (option_map enrolment_of o)
taken_in e true o = refl
taken_in e false o = refl

pub enrolled : (p : PolicyLists) (who : Who) (e : Enrolment) → is_some (standing p e.user) ≡ false
    → IsSaid who (asked.Command (command.Enrol e)) p (policy_written (change_of (command.Enrol e) (asker who)) p)
enrolled p who e free =
    let none = missing (user_row p e.user) free in
    let none_of : (user : ℕ) → (e.user == user) ≡ true → user_row p user ≡ None = λ user is. ap (user_row p) (sym (eqb-true e.user user is)) ∙ none in
    let found : (user : ℕ) → user_row (policy_written (change_of (command.Enrol e) (asker who)) p) user ≡ unwrap_or (said_if (e.user == user) (Some (new_user e))) (user_row p user)
    = λ user. found_beside user_key (λ row. user_key row == e.user) (λ row. user_key row == user) (new_user e) p.users none (λ is. ap (λ n. λ row. user_key row == n) (sym (eqb-true e.user user is))) in
    record {
      sets = λ set. refl;
      relations = λ procedure set. refl;
      triples = λ user procedure set. refl;
      certifiers = λ user procedure. refl;
      users = λ user. ap (option_map enrolment_of) (found user) ∙ taken_in e (e.user == user) (user_row p user);
      suspended = λ user.
          ap (λ o. option_map_or (λ row. row.suspended) o false) (found user) ∙ still (λ row. row.suspended) false (new_user e) refl (e.user == user) (user_row p user) (none_of user);
      in_session = λ user. ap (λ o. option_map_or (λ row. row.on) o false) (found user) ∙ still (λ row. row.on) false (new_user e) refl (e.user == user) (user_row p user) (none_of user);
      sessions = λ user.
          ap (λ o. option_map_or (λ row. row.session) o 0) (found user)
          ∙ still (λ row. row.session) 0 (new_user e) refl (e.user == user) (user_row p user) (none_of user)
          ∙ none_more (session_number p user);
    }

-- ---- one who is suspended, or restored

not_there : (o : Option User) → is_none (option_map standing_of o) ≡ false → {P : Type 0} → o ≡ None → P
not_there None some none = absurd cc
not_there (Some row) some none = absurd cc

-- the user's row after it
suspension_found : (p : PolicyLists) (s : Suspension) (user : ℕ)
    → user_row (policy_written (change.Suspended s) p) user ≡ option_map (λ row. if s.user == user then in_suspension s row else row) (user_row p user)
suspension_found p s user = found_changed user_key s.user (in_suspension s) (λ u. refl) p.users user

pub suspended : (p : PolicyLists) (who : Who) (k : UserKey) → is_none (standing p k.user) ≡ false
    → IsSaid who (asked.Command (command.Suspend k)) p (policy_written (change_of (command.Suspend k) (asker who)) p)
suspended p who k there =
    let s : Suspension = record { user = k.user; suspended = true } in
    let made : User → User = in_suspension s in
    let found = suspension_found p s in
    record {
      sets = λ set. refl;
      relations = λ procedure set. refl;
      triples = λ user procedure set. refl;
      certifiers = λ user procedure. refl;
      users = λ user. ap (option_map enrolment_of) (found user) ∙ known made (λ row. refl) (k.user == user) (user_row p user);
      suspended = λ user.
          ap (λ o. option_map_or (λ row. row.suspended) o false) (found user)
          ∙ becomes (λ row. row.suspended) false true made (λ row. refl) (k.user == user) (user_row p user)
          (λ is none. not_there (user_row p k.user) there (ap (user_row p) (eqb-true k.user user is) ∙ none));
      in_session = λ user.
          ap (λ o. option_map_or (λ row. row.on) o false) (found user) ∙ becomes (λ row. row.on) false false made (λ row. refl) (k.user == user) (user_row p user) (λ is none. refl);
      sessions = λ user.
          ap (λ o. option_map_or (λ row. row.session) o 0) (found user)
          ∙ stays (λ row. row.session) 0 made (λ row. refl) (k.user == user) (user_row p user)
          ∙ none_more (session_number p user);
    }

pub restored : (p : PolicyLists) (who : Who) (k : UserKey) → IsSaid who (asked.Command (command.Restore k)) p (policy_written (change_of (command.Restore k) (asker who)) p)
restored p who k =
    let s : Suspension = record { user = k.user; suspended = false } in
    let made : User → User = in_suspension s in
    let found = suspension_found p s in
    record {
      sets = λ set. refl;
      relations = λ procedure set. refl;
      triples = λ user procedure set. refl;
      certifiers = λ user procedure. refl;
      users = λ user. ap (option_map enrolment_of) (found user) ∙ known made (λ row. refl) (k.user == user) (user_row p user);
      suspended = λ user.
          ap (λ o. option_map_or (λ row. row.suspended) o false) (found user)
          ∙ becomes (λ row. row.suspended) false false made (λ row. refl) (k.user == user) (user_row p user) (λ is none. refl);
      in_session = λ user.
          ap (λ o. option_map_or (λ row. row.on) o false) (found user) ∙ becomes (λ row. row.on) false false made (λ row. refl) (k.user == user) (user_row p user) (λ is none. refl);
      sessions = λ user.
          ap (λ o. option_map_or (λ row. row.session) o 0) (found user)
          ∙ stays (λ row. row.session) 0 made (λ row. refl) (k.user == user) (user_row p user)
          ∙ none_more (session_number p user);
    }

-- ---- sessions

session_found : (p : PolicyLists) (s : Session) (user : ℕ)
    → user_row (record p { users = with_session s p.users }) user ≡ option_map (λ row. if s.user == user then in_session s row else row) (user_row p user)
session_found p s user = found_changed user_key s.user (in_session s) (λ u. refl) p.users user

-- the number of the latest session, where it is set to as many more for one user
number_found : (s : Session) (more : ℕ) (b : Bool) (o : Option User) → (b ≡ true → o ≡ None → ⊥) → (b ≡ true → s.session ≡ option_map_or (λ row. row.session) o 0 + more)
    → option_map_or (λ row. row.session) (option_map (λ row. if b then in_session s row else row) o) 0 ≡ option_map_or (λ row. row.session) o 0 + cond b more 0
number_found s more true None there is = absurd (there refl refl)
number_found s more true (Some row) there is = is refl
number_found s more false None there is = none_more 0
number_found s more false (Some row) there is = none_more row.session

-- of who asks, where that user's row is there
some_standing : (user : Option ℕ) (p : PolicyLists) → is_none (option_and_then (λ u. standing p u) user) ≡ false → is_none (standing p (option_map_or (λ u. u) user 0)) ≡ false
some_standing None p some = absurd cc
some_standing (Some u) p some = some

number_of_row : (o : Option User) → latest (option_map standing_of o) ≡ option_map_or (λ row. row.session) o 0
number_of_row None = refl
number_of_row (Some row) = refl

latest_number : (user : Option ℕ) (p : PolicyLists) → is_none (option_and_then (λ u. standing p u) user) ≡ false
    → latest (option_and_then (λ u. standing p u) user) ≡ session_number p (option_map_or (λ u. u) user 0)
latest_number None p some = absurd cc
latest_number (Some u) p some = number_of_row (user_row p u)

-- where the user is not suspended, or is known by their session, it is
pub active_there : (o : Option Standing) → not (option_map_or (λ s. not s.suspended) o false) ≡ false → is_none o ≡ false
active_there None active = absurd cc
active_there (Some row) active = refl

pub identified_there : (o : Option Standing) (session : ℕ) → not (is_identified o session) ≡ false → is_none o ≡ false
identified_there None session identified = absurd cc
identified_there (Some row) session identified = refl

-- the asker's row, among those of all users
asker_there : (p : PolicyLists) (who : Who) → is_none (option_and_then (λ u. standing p u) who.user) ≡ false → (user : ℕ) → (asker who == user) ≡ true → user_row p user ≡ None → ⊥
asker_there p who some user is none = not_there (user_row p (asker who)) (some_standing who.user p some) (ap (user_row p) (eqb-true (asker who) user is) ∙ none)

asker_number : (p : PolicyLists) (who : Who) (more : ℕ) → is_none (option_and_then (λ u. standing p u) who.user) ≡ false → (user : ℕ) → (asker who == user) ≡ true
    → latest (option_and_then (λ u. standing p u) who.user) + more ≡ session_number p user + more
asker_number p who more some user is = ap (λ n. n + more) (latest_number who.user p some ∙ ap (session_number p) (eqb-true (asker who) user is))

pub opened : (p : PolicyLists) (who : Who) → is_none (option_and_then (λ u. standing p u) who.user) ≡ false
    → IsSaid who asked.Opening p (record p { users = with_session (session_of who (latest (option_and_then (λ u. standing p u) who.user) + 1) true) p.users })
opened p who some =
    let s : Session = session_of who (latest (option_and_then (λ u. standing p u) who.user) + 1) true in
    let found = session_found p s in
    record {
      sets = λ set. refl;
      relations = λ procedure set. refl;
      triples = λ user procedure set. refl;
      certifiers = λ user procedure. refl;
      users = λ user. ap (option_map enrolment_of) (found user) ∙ known (in_session s) (λ row. refl) (asker who == user) (user_row p user);
      suspended = λ user.
          ap (λ o. option_map_or (λ row. row.suspended) o false) (found user) ∙ stays (λ row. row.suspended) false (in_session s) (λ row. refl) (asker who == user) (user_row p user);
      in_session = λ user.
          ap (λ o. option_map_or (λ row. row.on) o false) (found user)
          ∙ becomes (λ row. row.on) false true (in_session s) (λ row. refl) (asker who == user) (user_row p user) (λ is none. absurd (asker_there p who some user is none));
      sessions = λ user.
          ap (λ o. option_map_or (λ row. row.session) o 0) (found user)
          ∙ number_found s 1 (asker who == user) (user_row p user) (asker_there p who some user) (asker_number p who 1 some user);
    }

none_either : (b : Bool) (n : ℕ) → n + cond b 0 0 ≡ n + 0
none_either true n = refl
none_either false n = refl

pub ended : (p : PolicyLists) (who : Who) → is_none (option_and_then (λ u. standing p u) who.user) ≡ false
    → IsSaid who asked.Ending p (record p { users = with_session (session_of who (latest (option_and_then (λ u. standing p u) who.user)) false) p.users })
ended p who some =
    let s : Session = session_of who (latest (option_and_then (λ u. standing p u) who.user)) false in
    let found = session_found p s in
    record {
      sets = λ set. refl;
      relations = λ procedure set. refl;
      triples = λ user procedure set. refl;
      certifiers = λ user procedure. refl;
      users = λ user. ap (option_map enrolment_of) (found user) ∙ known (in_session s) (λ row. refl) (asker who == user) (user_row p user);
      suspended = λ user.
          ap (λ o. option_map_or (λ row. row.suspended) o false) (found user) ∙ stays (λ row. row.suspended) false (in_session s) (λ row. refl) (asker who == user) (user_row p user);
      in_session = λ user.
          ap (λ o. option_map_or (λ row. row.on) o false) (found user)
          ∙ becomes (λ row. row.on) false false (in_session s) (λ row. refl) (asker who == user) (user_row p user) (λ is none. refl);
      sessions = λ user.
          ap (λ o. option_map_or (λ row. row.session) o 0) (found user)
          ∙ number_found s 0 (asker who == user) (user_row p user) (asker_there p who some user)
          (λ is. none_more (latest (option_and_then (λ u. standing p u) who.user)) ∙ asker_number p who 0 some user is)
          ∙ none_either (asker who == user) (session_number p user);
    }
