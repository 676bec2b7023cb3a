-- That agreement asks for no more than it names: an item that is not touched and a user who has no part in an operation may be there or not.
use Rattle.std.specs.Prelude.{ℕ, ◌≡◌, ◌≢◌, ◌⊎◌, Contains, true, false, Some}
use Rattle.bank_policy.specs.PolicyKeys.{relation_key, triple_key, user_key}
use Rattle.bank_policy.specs.declared.rows.Relation.{Relation}
use Rattle.bank_policy.specs.declared.rows.Triple.{Triple}
use Rattle.bank_policy.specs.declared.rows.User.{User}
use Rattle.bank_terms.specs.declared.procedure.Procedure.TheVariants as procedure
use Rattle.bank_terms.specs.declared.rule.Rule.{Rule}
use Rattle.bank_terms.specs.declared.rule.Rule.TheVariants as rule
use Rattle.bank_books.specs.Keys.{account_key}
use Rattle.bank_books.specs.WorldLists.{WorldLists}
use Rattle.bank_books.specs.declared.rows.Account.{Account}
use Rattle.bank_books.specs.declared.rows.Release.{Release}
use Rattle.counter_ops.specs.Op.{procedure_of}
use Rattle.counter_ops.specs.Touched.{account_item, branch_item, touched}
use Rattle.counter_ops.specs.declared.op.Op.TheVariants as op
use Rattle.counter_ops.specs.declared.release.Release.{Release as Given}
use Rattle.keyed_rows.specs.Ordered.{add_row}
use Rattle.world_reads.specs.BookReads.{accounts_triples, is_account_of, release}
use Rattle.bank_meaning.specs.PolicyRules.{asker}
use Rattle.bank_meaning.specs.Requests.{denies, executes}
use Rattle.bank_meaning.specs.declared.execution.Execution.{Execution}
use Rattle.two_worlds.specs.Agree.{Agree}
use Rattle.two_worlds.specs.Along.{IsOutside}

-- ---- Worlds with a row more

abbrev pub with_account : Account → WorldLists → WorldLists
with_account a w = record w { accounts = add_row account_key a w.accounts }

abbrev pub with_user : User → WorldLists → WorldLists
with_user u w = record w { policy = record w.policy { users = add_row user_key u w.policy.users } }

abbrev pub with_triple : Triple → WorldLists → WorldLists
with_triple t w = record w { policy = record w.policy { triples = add_row triple_key t w.policy.triples } }

abbrev pub with_relation : Relation → WorldLists → WorldLists
with_relation r w = record w { policy = record w.policy { relations = add_row relation_key r w.policy.relations } }

-- ---- rows that have no part in an operation

-- Neither the account nor its home is touched, and it is in no set of the user's for the list of accounts.
pub record IsElsewhere (w : WorldLists) (x : Execution) (a : Account) : Type 0 where
  pub account : ¬ Contains (touched x.op) (account_item a.account)
  pub home : ¬ Contains (touched x.op) (branch_item a.home)
  pub not_listed : is_account_of (accounts_triples w (asker x.who) x.moment) a.account ≡ false

-- The user does not ask, did not give the release that is named, and is not the one for whom a release is.
pub record HasNoPart (w : WorldLists) (x : Execution) (user : ℕ) : Type 0 where
  pub not_asker : user ≢ asker x.who
  pub not_giver : (r : Release) → release w (asker x.who) x.who.release ≡ Some r → user ≢ r.giver
  pub not_beneficiary : (form : Given) → x.op ≡ op.Release form → user ≢ form.beneficiary

-- It is another user's or for another procedure, and not by which the release that is named was given.
pub record IsOtherTriple (w : WorldLists) (x : Execution) (t : Triple) : Type 0 where
  pub not_held : ¬ ((t.user ≡ asker x.who) × (t.procedure ≡ procedure_of x.op))
  pub not_giver : (r : Release) → release w (asker x.who) x.who.release ≡ Some r → ¬ ((t.user ≡ r.giver) × (t.procedure ≡ procedure.Release))

-- ---- the laws

-- With such a row more a World agrees with what it was.
abbrev pub AgreementIsLocal : Type 0
AgreementIsLocal = ((w : WorldLists) (x : Execution) (a : Account) → IsElsewhere w x a → Agree w (with_account a w) x)
    × ((w : WorldLists) (x : Execution) (u : User) → HasNoPart w x u.user → Agree w (with_user u w) x)
    × ((w : WorldLists) (x : Execution) (t : Triple) → IsOtherTriple w x t → Agree w (with_triple t w) x)
    × ((w : WorldLists) (x : Execution) (r : Relation) → r.procedure ≢ procedure_of x.op → Agree w (with_relation r w) x)

-- whoever is denied by relations, by triples or by their limit asks for what is outside of them
abbrev pub DeniedIsOutside : Type 0
DeniedIsOutside = (w : WorldLists) (x : Execution) (r : Rule) → (r ≡ rule.NotCertified) ⊎ (r ≡ rule.NoTriple) ⊎ (r ≡ rule.Limit) → denies r w (executes x) ≡ true
    → IsOutside w x
