-- What the rules on commands, on sessions and on the listing ask, over the rows of the policy: officers say who belongs to the bank and who certifies, certifiers say
-- who executes; and of what a command speaks. They ask no more.
use Rattle.std.specs.Prelude.{ℕ, ◌≡◌, ◌≢◌, ◌<◌, ◌==◌, ⊤, true, false, Bool, Any, count_by, length, Option, None, Ok, Some}
use Rattle.bank_policy.specs.HeldRows.{is_relation_of, standing}
use Rattle.bank_policy.specs.Policy.{PolicyLists}
use Rattle.bank_policy.specs.declared.rows.Standing.{Standing}
use Rattle.bank_terms.specs.Limits.{max_key, max_relations, max_sets, max_triples}
use Rattle.bank_terms.specs.declared.procedure.Procedure.{Procedure}
use Rattle.bank_books.specs.WorldLists.{WorldLists}
use Rattle.policy_check.specs.Separation.{Certifies, IsCertifier, IsOfficer, MayExecute}
use Rattle.policy_check.specs.Soundness.{IsRelated, IsSet, IsUser}
use Rattle.policy_commands.specs.declared.policy_op.PolicyOp.{PolicyOp}
use Rattle.policy_commands.specs.declared.policy_op.PolicyOp.TheVariants as command
use Rattle.bank_meaning.specs.Laws.{IsIdentified, MayOpen}
use Rattle.bank_meaning.specs.Meaning.{ReplyText}
use Rattle.bank_meaning.specs.PolicyRules.{asker}
use Rattle.bank_meaning.specs.Requests.{commands, first, lists, opens_session}
use Rattle.bank_meaning.specs.Run.{reply}
use Rattle.bank_meaning.specs.Sums.{PassesChecks}
use Rattle.bank_meaning.specs.declared.request.Asked.TheVariants as asked
use Rattle.bank_meaning.specs.declared.request.Request.{Request}
use Rattle.bank_meaning.specs.declared.who.Who.{Who}

abbrev pub IsCertifierOfAny : PolicyLists → ℕ → Type 0
IsCertifierOfAny policy user = (procedure : Procedure) × IsCertifier policy user procedure

-- Clark and Wilson's rule E4: a certifier of the procedure alone changes who may execute it. A set is of no procedure: any certifier defines it.
abbrev pub MayCommand : PolicyLists → ℕ → PolicyOp → Type 0
MayCommand policy user (command.DefineSet s) = IsCertifierOfAny policy user
MayCommand policy user (command.Certify k) = IsCertifier policy user k.procedure
MayCommand policy user (command.Withdraw k) = IsCertifier policy user k.procedure
MayCommand policy user (command.Grant t) = IsCertifier policy user t.procedure
MayCommand policy user (command.Revoke k) = IsCertifier policy user k.procedure
MayCommand policy user (command.Appoint c) = IsOfficer policy user
MayCommand policy user (command.Dismiss c) = IsOfficer policy user
MayCommand policy user (command.Enrol e) = IsOfficer policy user
MayCommand policy user (command.Suspend k) = IsOfficer policy user
MayCommand policy user (command.Restore k) = IsOfficer policy user

-- the user has a triple for the procedure with this set
abbrev pub HasTriple : PolicyLists → ℕ → Procedure → ℕ → Type 0
HasTriple policy user procedure set = Any (λ row. (row.user ≡ user) × (row.procedure ≡ procedure) × (row.set ≡ set)) policy.triples

-- the user is there, and is suspended or is not
abbrev pub IsSuspended : PolicyLists → ℕ → Bool → Type 0
IsSuspended policy user suspended = (row : Standing) × (standing policy user ≡ Some row) × (row.suspended ≡ suspended)

-- What is there before a command, and what is not (the primary and foreign keys of Codd's relational model): what it adds is new, there is room for it, and what
-- that names is there; what it takes away is there. A user who is suspended was not, and is not who asks for it; one who is restored was.
abbrev pub IsInPlace : PolicyLists → ℕ → PolicyOp → Type 0
IsInPlace policy by (command.DefineSet s) = (¬ IsSet policy s.set) × (length policy.sets < max_sets)
IsInPlace policy by (command.Certify k) =
    IsSet policy k.set × (¬ IsRelated policy k.procedure k.set) × (count_by (is_relation_of k.procedure) policy.relations < max_relations)
IsInPlace policy by (command.Withdraw k) = IsRelated policy k.procedure k.set
IsInPlace policy by (command.Grant t) =
    IsUser policy t.user
    × IsRelated policy t.procedure t.set
    × (¬ HasTriple policy t.user t.procedure t.set)
    × (count_by (λ row. row.user == t.user) policy.triples < max_triples)
IsInPlace policy by (command.Revoke k) = HasTriple policy k.user k.procedure k.set
IsInPlace policy by (command.Appoint c) = IsUser policy c.user × (¬ IsCertifier policy c.user c.procedure)
IsInPlace policy by (command.Dismiss c) = IsCertifier policy c.user c.procedure
IsInPlace policy by (command.Enrol e) = ¬ IsUser policy e.user
IsInPlace policy by (command.Suspend k) = IsSuspended policy k.user false × (k.user ≢ by)
IsInPlace policy by (command.Restore k) = IsSuspended policy k.user true

-- what the user's row says, where there is one: no officer
abbrev pub IsNoOfficer : PolicyLists → ℕ → Type 0
IsNoOfficer policy user = (row : Standing) → standing policy user ≡ Some row → row.officer ≡ false

-- Clark and Wilson's separation of duty: who is to execute a procedure does not certify it, nor did; who is to certify it executes none of it; and an officer does
-- neither. The other commands give nobody either.
abbrev pub KeepsApart : PolicyLists → PolicyOp → Type 0
KeepsApart policy (command.Grant t) = IsNoOfficer policy t.user × (¬ Certifies policy t.user t.procedure)
KeepsApart policy (command.Appoint c) = IsNoOfficer policy c.user × (¬ MayExecute policy c.user c.procedure)
KeepsApart policy _ = ⊤

-- the user is known, so not suspended, and may; what the command speaks of is there or is not; and who executes is kept apart from who certifies
pub record IsCommandJudged (w : WorldLists) (who : Who) (c : PolicyOp) : Type 0 where
  pub identified : IsIdentified w who
  pub may : MayCommand w.policy (asker who) c
  pub placed : IsInPlace w.policy (asker who) c
  pub apart : KeepsApart w.policy c

-- an officer who is known
pub record IsListingJudged (w : WorldLists) (who : Who) : Type 0 where
  pub identified : IsIdentified w who
  pub officer : IsOfficer w.policy (asker who)

-- who may open a session, and has a number left for it: their last one has not the greatest
pub record IsOpeningJudged (w : WorldLists) (user : Option ℕ) : Type 0 where
  pub may : MayOpen w user
  pub left : may.row.session < max_key

-- of what no rule denies, and of a listing that is returned
pub record AreCommandsJudged (w : WorldLists) : Type 0 where
  pub command : (q : Request) (c : PolicyOp) → q.asked ≡ asked.Command c → first w q ≡ None → IsCommandJudged w q.who c
  pub listing : (q : Request) → q.asked ≡ asked.Listing → first w q ≡ None → IsListingJudged w q.who
  pub listed : (q : Request) (text : ReplyText) → q.asked ≡ asked.Listing → reply w q ≡ Ok text → IsListingJudged w q.who
  pub opening : (q : Request) → q.asked ≡ asked.Opening → first w q ≡ None → IsOpeningJudged w q.who.user
  pub ending : (q : Request) → q.asked ≡ asked.Ending → first w q ≡ None → IsIdentified w q.who

abbrev pub CommandsAreJudged : Type 0
CommandsAreJudged = (w : WorldLists) → AreCommandsJudged w

-- ---- and the rules deny no more: where that is so, none does

-- of every World that passes both checks, so that each user has one row
abbrev pub CommandsDenyNoMore : Type 0
CommandsDenyNoMore = (w : WorldLists) (who : Who) (c : PolicyOp) → PassesChecks w → IsCommandJudged w who c → first w (commands c who) ≡ None

abbrev pub ListingIsDeniedNoMore : Type 0
ListingIsDeniedNoMore = (w : WorldLists) (who : Who) → PassesChecks w → IsListingJudged w who → first w (lists who) ≡ None

-- of every World
abbrev pub OpeningIsDeniedNoMore : Type 0
OpeningIsDeniedNoMore = (w : WorldLists) (user : Option ℕ) → IsOpeningJudged w user → first w (opens_session user) ≡ None
