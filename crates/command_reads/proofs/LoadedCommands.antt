-- The rows of a command are those of the policy, where what was read is what the policy says.
use Rattle.std.proofs.Common.{◌≡◌, ℕ, Bool, List, Option, ap, ◌∙◌}
use Rattle.bank_policy.specs.HeldRows.{CertifiedSet, HeldTriple, relations_of, standing, triples_of}
use Rattle.bank_policy.specs.declared.policy_write.RelationKey.{RelationKey}
use Rattle.bank_policy.specs.declared.policy_write.TripleKey.{TripleKey}
use Rattle.bank_policy.specs.declared.rows.Certifier.{Certifier}
use Rattle.bank_policy.specs.declared.rows.Standing.{Standing}
use Rattle.bank_policy.specs.declared.rows.Triple.{Triple}
use Rattle.bank_books.specs.WorldLists.{WorldLists}
use Rattle.world_reads.specs.PolicyReads.{is_certifier, is_set, triple_count}
use Rattle.policy_commands.specs.declared.policy_op.PolicyOp.TheVariants as asked
use Rattle.certify.specs.CommandRows.{command_rows}
use Rattle.certify.specs.StoredRows.{appoint_rows, certify_rows, grant_rows, revoke_rows, withdraw_rows}
use Rattle.certify.proofs.StoredRows.{appoint_stated, certify_stated, grant_stated, revoke_stated, withdraw_stated}

pub certify_read : (w : WorldLists) (by : ℕ) (k : RelationKey) (certifies has_set : Bool) (relations : List CertifiedSet) → certifies ≡ is_certifier w by k.procedure → has_set ≡ is_set w k.set
    → relations ≡ relations_of w.policy k.procedure → certify_rows certifies has_set relations k ≡ command_rows w.policy by (asked.Certify k)
certify_read w by k certifies has_set relations first second third =
    ap (λ b. certify_rows b has_set relations k) first ∙ ap (λ b. certify_rows (is_certifier w by k.procedure) b relations k) second
    ∙ ap (λ rows. certify_rows (is_certifier w by k.procedure) (is_set w k.set) rows k) third ∙ certify_stated w.policy by k

pub withdraw_read : (w : WorldLists) (by : ℕ) (k : RelationKey) (certifies : Bool) (relations : List CertifiedSet) → certifies ≡ is_certifier w by k.procedure → relations ≡ relations_of w.policy k.procedure
    → withdraw_rows certifies relations k ≡ command_rows w.policy by (asked.Withdraw k)
withdraw_read w by k certifies relations first second =
    ap (λ b. withdraw_rows b relations k) first ∙ ap (λ rows. withdraw_rows (is_certifier w by k.procedure) rows k) second ∙ withdraw_stated w.policy by k

pub revoke_read : (w : WorldLists) (by : ℕ) (k : TripleKey) (certifies : Bool) (triples : List HeldTriple) → certifies ≡ is_certifier w by k.procedure → triples ≡ triples_of w.policy k.user k.procedure
    → revoke_rows certifies triples k ≡ command_rows w.policy by (asked.Revoke k)
revoke_read w by k certifies triples first second =
    ap (λ b. revoke_rows b triples k) first ∙ ap (λ rows. revoke_rows (is_certifier w by k.procedure) rows k) second ∙ revoke_stated w.policy by k

-- what is read of a triple to give
pub record IsGrantRead (w : WorldLists) (by : ℕ) (t : Triple) (certifies : Bool) (user : Option Standing) (is_his : Bool) (relations : List CertifiedSet) (triples : List HeldTriple) (count : ℕ) : Type 0 where
  pub may_grant : certifies ≡ is_certifier w by t.procedure
  pub receives : user ≡ standing w.policy t.user
  pub certifies_it : is_his ≡ is_certifier w t.user t.procedure
  pub certified : relations ≡ relations_of w.policy t.procedure
  pub holds : triples ≡ triples_of w.policy t.user t.procedure
  pub has : count ≡ triple_count w t.user

pub grant_read : (w : WorldLists) (by : ℕ) (t : Triple) (certifies : Bool) (user : Option Standing) (is_his : Bool) (relations : List CertifiedSet) (triples : List HeldTriple) (count : ℕ)
    → IsGrantRead w by t certifies user is_his relations triples count → grant_rows certifies user is_his relations triples count t ≡ command_rows w.policy by (asked.Grant t)
grant_read w by t certifies user is_his relations triples count is =
    let p = t.procedure in
    ap (λ b. grant_rows b user is_his relations triples count t) is.may_grant
    ∙ ap (λ u. grant_rows (is_certifier w by p) u is_his relations triples count t) is.receives
    ∙ ap (λ b. grant_rows (is_certifier w by p) (standing w.policy t.user) b relations triples count t) is.certifies_it
    ∙ ap (λ rows. grant_rows (is_certifier w by p) (standing w.policy t.user) (is_certifier w t.user p) rows triples count t) is.certified
    ∙ ap (λ rows. grant_rows (is_certifier w by p) (standing w.policy t.user) (is_certifier w t.user p) (relations_of w.policy p) rows count t) is.holds
    ∙ ap (λ n. grant_rows (is_certifier w by p) (standing w.policy t.user) (is_certifier w t.user p) (relations_of w.policy p) (triples_of w.policy t.user p) n t) is.has
    ∙ grant_stated w.policy by t

pub appoint_read : (w : WorldLists) (by : ℕ) (c : Certifier) (asks : Option Standing) → asks ≡ standing w.policy by
    → appoint_rows asks (standing w.policy c.user) (triples_of w.policy c.user c.procedure) (is_certifier w c.user c.procedure) ≡ command_rows w.policy by (asked.Appoint c)
appoint_read w by c asks is =
    ap (λ row. appoint_rows row (standing w.policy c.user) (triples_of w.policy c.user c.procedure) (is_certifier w c.user c.procedure)) is ∙ appoint_stated w.policy by c
