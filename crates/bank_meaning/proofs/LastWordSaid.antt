-- What one request says of a policy, before it and after it, and what a list of requests says that begins with it.
use Rattle.std.proofs.Common.{◌≡◌, ℕ, ◌+◌, cond, List, [], ◌∷◌, Option, Some, None, unwrap_or, count_by, refl, ap, arith, ◌∙◌}
use Rattle.std.specs.Option.{option_or}
use Rattle.std.proofs.lemmas.List.Sums.{sum_by-cons}
use Rattle.bank_policy.specs.Policy.{PolicyLists}
use Rattle.bank_terms.specs.declared.procedure.Procedure.{Procedure}
use Rattle.counter_ops.specs.declared.op.Op.{Op}
use Rattle.bank_meaning.specs.InForce.{IsInForce, Word, certifier_row, enrolment, in_force, is_in_session, is_opening_of, is_suspended, last_word, relation_row, session_number, set_row, triple_row, word_on_certifier, word_on_relation, word_on_session, word_on_set, word_on_suspension, word_on_triple, word_on_user}
use Rattle.bank_meaning.specs.declared.request.Asked.{Asked}
use Rattle.bank_meaning.specs.declared.request.Asked.TheVariants as asked
use Rattle.bank_meaning.specs.declared.request.Request.{Request}
use Rattle.bank_meaning.specs.declared.who.Who.{Who}

-- each row is what the request says of it, or what it was
pub record IsSaid (who : Who) (a : Asked) (before after : PolicyLists) : Type 0 where
  pub sets : (set : ℕ) → set_row after set ≡ unwrap_or (word_on_set set who a) (set_row before set)
  pub relations : (procedure : Procedure) (set : ℕ) → relation_row after procedure set ≡ unwrap_or (word_on_relation procedure set who a) (relation_row before procedure set)
  pub triples : (user : ℕ) (procedure : Procedure) (set : ℕ)
      → triple_row after user procedure set ≡ unwrap_or (word_on_triple user procedure set who a) (triple_row before user procedure set)
  pub certifiers : (user : ℕ) (procedure : Procedure) → certifier_row after user procedure ≡ unwrap_or (word_on_certifier user procedure who a) (certifier_row before user procedure)
  pub users : (user : ℕ) → enrolment after user ≡ unwrap_or (word_on_user user who a) (enrolment before user)
  pub suspended : (user : ℕ) → is_suspended after user ≡ unwrap_or (word_on_suspension user who a) (is_suspended before user)
  pub in_session : (user : ℕ) → is_in_session after user ≡ unwrap_or (word_on_session user who a) (is_in_session before user)
  pub sessions : (user : ℕ) → session_number after user ≡ session_number before user + cond (is_opening_of user who a) 1 0

pub none_more : (n : ℕ) → n ≡ n + 0
none_more n = omega arith

-- of an operation, and of the listing, where the policy stays
pub operation_said : (who : Who) (op : Op) (p : PolicyLists) → IsSaid who (asked.Operation op) p p
operation_said who op p = record {
  sets = λ set. refl;
  relations = λ procedure set. refl;
  triples = λ user procedure set. refl;
  certifiers = λ user procedure. refl;
  users = λ user. refl;
  suspended = λ user. refl;
  in_session = λ user. refl;
  sessions = λ user. none_more (session_number p user);
}

pub listing_said : (who : Who) (p : PolicyLists) → IsSaid who asked.Listing p p
listing_said who p = record {
  sets = λ set. refl;
  relations = λ procedure set. refl;
  triples = λ user procedure set. refl;
  certifiers = λ user procedure. refl;
  users = λ user. refl;
  suspended = λ user. refl;
  in_session = λ user. refl;
  sessions = λ user. none_more (session_number p user);
}

-- ---- lists of requests

-- with none the opening is in force
pub opening_in_force : (p : PolicyLists) → IsInForce p [] p
opening_in_force p = record {
  sets = λ set. refl;
  relations = λ procedure set. refl;
  triples = λ user procedure set. refl;
  certifiers = λ user procedure. refl;
  users = λ user. refl;
  suspended = λ user. refl;
  in_session = λ user. refl;
  sessions = λ user. none_more (session_number p user);
}

-- what is said later counts, then what is said first, then what was
said_first : {A : Type 0} (later here : Option A) (opening : A) → unwrap_or later (unwrap_or here opening) ≡ unwrap_or (option_or later here) opening
said_first None here opening = refl
said_first (Some a) here opening = refl

-- the last word of a list, by that of the requests after the first, over what the first leaves
after_first : {A : Type 0} (says : Word A) (r : Request) (rs : List Request) (before between after : A) → between ≡ unwrap_or (says r.who r.asked) before → after ≡ in_force says rs between
    → after ≡ in_force says (r ∷ rs) before
after_first says r rs before between after here later = later ∙ ap (λ a. unwrap_or (last_word says rs) a) here ∙ said_first (last_word says rs) (says r.who r.asked) before

counted : (before between after one rest all : ℕ) → between ≡ before + one → after ≡ between + rest → all ≡ one + rest → after ≡ before + all
counted before between after one rest all here later sum = omega arith

pub first_said : (r : Request) (rs : List Request) (a b c : PolicyLists) → IsSaid r.who r.asked a b → IsInForce b rs c → IsInForce a (r ∷ rs) c
first_said r rs a b c here later = record {
  sets = λ set. after_first (word_on_set set) r rs (set_row a set) (set_row b set) (set_row c set) (here.sets set) (later.sets set);
  relations = λ procedure set.
      after_first (word_on_relation procedure set) r rs (relation_row a procedure set) (relation_row b procedure set) (relation_row c procedure set) (here.relations procedure set)
      (later.relations procedure set);
  triples = λ user procedure set.
      after_first (word_on_triple user procedure set) r rs (triple_row a user procedure set) (triple_row b user procedure set) (triple_row c user procedure set)
      (here.triples user procedure set) (later.triples user procedure set);
  certifiers = λ user procedure.
      after_first (word_on_certifier user procedure) r rs (certifier_row a user procedure) (certifier_row b user procedure) (certifier_row c user procedure)
      (here.certifiers user procedure) (later.certifiers user procedure);
  users = λ user. after_first (word_on_user user) r rs (enrolment a user) (enrolment b user) (enrolment c user) (here.users user) (later.users user);
  suspended = λ user. after_first (word_on_suspension user) r rs (is_suspended a user) (is_suspended b user) (is_suspended c user) (here.suspended user) (later.suspended user);
  in_session = λ user. after_first (word_on_session user) r rs (is_in_session a user) (is_in_session b user) (is_in_session c user) (here.in_session user) (later.in_session user);
  sessions = λ user.
      counted (session_number a user) (session_number b user) (session_number c user) (cond (is_opening_of user r.who r.asked) 1 0) (count_by (λ q. is_opening_of user q.who q.asked) rs) _
      (here.sessions user) (later.sessions user) (sum_by-cons (λ q. cond (is_opening_of user q.who q.asked) 1 0) r rs);
}
