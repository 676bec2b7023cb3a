-- What has no part in an operation makes no difference to agreement.
use Rattle.std.proofs.Common.{◌≡◌, ◌≢◌, inl, inr, ℕ, ◌==◌, List, [], ◌∷◌, map, Contains, Bool, true, false, cond, Option, refl, ap, sym, subst, ◌∙◌}
use Rattle.std.specs.Prelude.{nat_le, option_map}
use Rattle.std.specs.List.{filter, find}
use Rattle.std.proofs.lemmas.Bool.{and_parts, eqb-true, false_from_ne_true, false≢true, ne_eqb}
use Rattle.bank_policy.specs.HeldRows.{certified_set, held_triple, is_relation_of, is_triple_of, relations_of, triples_of}
use Rattle.bank_policy.specs.PolicyKeys.{relation_key, triple_key, user_key}
use Rattle.bank_policy.specs.declared.rows.Relation.{Relation}
use Rattle.bank_policy.specs.declared.rows.Triple.{Triple}
use Rattle.bank_policy.specs.declared.rows.User.{User}
use Rattle.bank_terms.specs.Procedure.{number_of}
use Rattle.bank_terms.specs.declared.item.Cdi.{Cdi}
use Rattle.bank_terms.specs.declared.item.Kind.{Kind}
use Rattle.bank_terms.specs.declared.item.Kind.TheVariants as kind
use Rattle.bank_terms.specs.declared.procedure.Procedure.{Procedure}
use Rattle.bank_terms.specs.declared.procedure.Procedure.TheVariants as procedure
use Rattle.bank_terms.specs.declared.rule.Rule.{Rule}
use Rattle.bank_terms.specs.declared.rule.Rule.TheVariants as rule
use Rattle.bank_books.specs.Balances.{branch_row}
use Rattle.bank_books.specs.Cash.{cash_entry_total, difference_total, line_count}
use Rattle.bank_books.specs.Keys.{account_key}
use Rattle.bank_books.specs.WorldLists.{WorldLists}
use Rattle.bank_books.specs.declared.rows.Account.{Account}
use Rattle.bank_terms.proofs.Procedures.{one_procedure}
use Rattle.counter_ops.specs.Op.{procedure_of}
use Rattle.counter_ops.specs.Touched.{account_item, branch_item, touched}
use Rattle.counter_ops.specs.declared.op.Op.{Op}
use Rattle.counter_ops.specs.declared.op.Op.TheVariants as op
use Rattle.counter_ops.specs.declared.release.Release.{Release as Given}
use Rattle.keyed_rows.proofs.Rows.{count_other, find-add_row}
use Rattle.keyed_rows.specs.Ordered.{add_row}
use Rattle.world_reads.specs.BookReads.{accounts_triples, is_account_of}
use Rattle.world_reads.specs.PolicyReads.{user_record_of}
use Rattle.bank_meaning.specs.PolicyRules.{asker}
use Rattle.bank_meaning.specs.Requests.{denies, executes}
use Rattle.bank_meaning.specs.declared.execution.Execution.{Execution}
use Rattle.two_worlds.specs.Agree.{Agree, AgreeByForm, releases_given}
use Rattle.two_worlds.specs.Along.{IsOutside, is_of_triples}
use Rattle.two_worlds.specs.Local.{AgreementIsLocal, DeniedIsOutside, HasNoPart, IsElsewhere, IsOtherTriple, with_account, with_relation, with_triple, with_user}
use Rattle.two_worlds.specs.View.{nothing, roster_of, view_at, view_of}
use Rattle.two_worlds.proofs.TwoWorlds.{all_from}

-- a row more that does not pass leaves those that do
filter_other : {X : Type 0} (key : X → ℕ) (p : X → Bool) (e : X) (xs : List X) → p e ≡ false → filter p (add_row key e xs) ≡ filter p xs
filter_other key p e [] none = ap (λ b. cond b (e ∷ []) []) none
filter_other {X} key p e (x ∷ xs) none = go (nat_le (key x) (key e)) (filter_other key p e xs none)
  where
    go : (b : Bool) → filter p (add_row key e xs) ≡ filter p xs → filter p (cond b (x ∷ add_row key e xs) (e ∷ x ∷ xs)) ≡ filter p (x ∷ xs)
    go true rest = ap (λ ys. cond (p x) (x ∷ ys) ys) rest
    go false rest = ap (λ b. cond b (e ∷ filter p (x ∷ xs)) (filter p (x ∷ xs))) none

-- ---- an account

view_beside : (w : WorldLists) (a : Account) (k : Kind) (key : ℕ) → record { kind = k; key = key } ≢ account_item a.account → record { kind = k; key = key } ≢ branch_item a.home
    → view_at k key w ≡ view_at k key (with_account a w)
view_beside w a kind.Account key account home =
    ap (λ row. record nothing { account = row; entries = filter (λ e. e.account == key) w.entries })
    (sym (find-add_row account_key (λ r. r.account == key) a w.accounts (ne_eqb a.account key (λ same. account (ap account_item (sym same))))))
view_beside w a kind.Teller key account home = refl
view_beside w a kind.Branch key account home =
    ap (λ n. record nothing {
      branch = branch_row key w.branches;
      proofs = filter (λ p. p.branch == key) w.proofs;
      roster = roster_of w key;
      homed = n;
      lined = line_count key w.lines;
      cash_entries = cash_entry_total key w.lines;
      differences = difference_total key w.lines;
    }) (sym (count_other account_key (λ r. r.home == key) a w.accounts (ne_eqb a.home key (λ same. home (ap branch_item (sym same))))))
view_beside w a kind.History key account home = refl
view_beside w a kind.Drawer key account home = refl
view_beside w a kind.Vault key account home = refl

no_branch : kind.Account ≢ kind.Branch
no_branch same = absurd cc

form_beside : (w : WorldLists) (a : Account) (user moment : ℕ) (o : Op) → is_account_of (accounts_triples w user moment) a.account ≡ false → AgreeByForm w (with_account a w) user moment o
form_beside w a user moment (op.Accounts form) not_listed = λ key listed.
    view_beside w a kind.Account key
    (λ same. false≢true (sym not_listed ∙ ap (λ (i : Cdi). is_account_of (accounts_triples w user moment) i.key) (sym same) ∙ listed)) (λ same. no_branch (ap (λ (i : Cdi). i.kind) same))
form_beside w a user moment (op.Release form) not_listed = refl
form_beside w a user moment _ not_listed = tt

account_beside : (w : WorldLists) (x : Execution) (a : Account) → IsElsewhere w x a → Agree w (with_account a w) x
account_beside w x a elsewhere = record {
  policy = record { user = refl; held = refl; relations = refl };
  release = record { row = refl; giver = λ r is. record { user = refl; held = refl } };
  slip = λ some. refl;
  slips = λ some. refl;
  views = all_from (λ item. view_of w item ≡ view_of (with_account a w) item) (touched x.op) (λ item there.
      view_beside w a item.kind item.key (λ same. elsewhere.account (subst (λ (i : Cdi). Contains (touched x.op) i) same there))
      (λ same. elsewhere.home (subst (λ (i : Cdi). Contains (touched x.op) i) same there)));
  form = form_beside w a (asker x.who) x.moment x.op elsewhere.not_listed;
}

-- ---- rows of the policy

-- no view has any
same_view : (w v : WorldLists) (k : Kind) (key : ℕ) → v ≡ record w { policy = v.policy } → view_at k key w ≡ view_at k key v
same_view w v k key books = go k ∙ sym (ap (view_at k key) books)
  where
    go : (k : Kind) → view_at k key w ≡ view_at k key (record w { policy = v.policy })
    go kind.Account = refl
    go kind.Teller = refl
    go kind.Branch = refl
    go kind.History = refl
    go kind.Drawer = refl
    go kind.Vault = refl

form_of_policy : (w v : WorldLists) (user moment : ℕ) (o : Op) → v ≡ record w { policy = v.policy } → ((form : Given) → o ≡ op.Release form → releases_given w form.beneficiary ≡ releases_given v form.beneficiary)
    → AgreeByForm w v user moment o
form_of_policy w v user moment (op.Accounts form) books given = λ key listed. same_view w v kind.Account key books
form_of_policy w v user moment (op.Release form) books given = given form refl
form_of_policy w v user moment _ books given = tt

user_beside : (u : User) (users : List User) (user : ℕ) → u.user ≢ user → find (λ row. user_key row == user) users ≡ find (λ row. user_key row == user) (add_row user_key u users)
user_beside u users user other = sym (find-add_row user_key (λ row. user_key row == user) u users (ne_eqb u.user user other))

a_user_beside : (w : WorldLists) (x : Execution) (u : User) → HasNoPart w x u.user → Agree w (with_user u w) x
a_user_beside w x u part = record {
  policy = record { user = user_beside u w.policy.users (asker x.who) part.not_asker; held = refl; relations = refl };
  release = record { row = refl; giver = λ r is. record { user = user_beside u w.policy.users r.giver (part.not_giver r is); held = refl } };
  slip = λ some. refl;
  slips = λ some. refl;
  views = all_from (λ item. view_of w item ≡ view_of (with_user u w) item) (touched x.op) (λ item there. same_view w (with_user u w) item.kind item.key refl);
  form = form_of_policy w (with_user u w) (asker x.who) x.moment x.op refl (λ form is.
      ap (λ (o : Option User). option_map (λ r. r.releases) (option_map (user_record_of w) o)) (user_beside u w.policy.users form.beneficiary (part.not_beneficiary form is)));
}

-- a triple that is not of this user for this procedure
is_other : (t : Triple) (user : ℕ) (p : Procedure) → ¬ ((t.user ≡ user) × (t.procedure ≡ p)) → is_triple_of user p t ≡ false
is_other t user p other =
    false_from_ne_true _ (λ is.
    let parts = and_parts (t.user == user) (number_of t.procedure == number_of p) is in
    other (eqb-true t.user user parts.0, one_procedure t.procedure p (eqb-true (number_of t.procedure) (number_of p) parts.1)))

triples_beside : (w : WorldLists) (t : Triple) (user : ℕ) (p : Procedure) → ¬ ((t.user ≡ user) × (t.procedure ≡ p)) → triples_of w.policy user p ≡ triples_of (with_triple t w).policy user p
triples_beside w t user p other = ap (map (held_triple w.policy)) (sym (filter_other triple_key (is_triple_of user p) t w.policy.triples (is_other t user p other)))

a_triple_beside : (w : WorldLists) (x : Execution) (t : Triple) → IsOtherTriple w x t → Agree w (with_triple t w) x
a_triple_beside w x t other = record {
  policy = record { user = refl; held = triples_beside w t (asker x.who) (procedure_of x.op) other.not_held; relations = refl };
  release = record { row = refl; giver = λ r is. record { user = refl; held = triples_beside w t r.giver procedure.Release (other.not_giver r is) } };
  slip = λ some. refl;
  slips = λ some. refl;
  views = all_from (λ item. view_of w item ≡ view_of (with_triple t w) item) (touched x.op) (λ item there. same_view w (with_triple t w) item.kind item.key refl);
  form = form_of_policy w (with_triple t w) (asker x.who) x.moment x.op refl (λ form is. refl);
}

relations_beside : (w : WorldLists) (r : Relation) (p : Procedure) → r.procedure ≢ p → relations_of w.policy p ≡ relations_of (with_relation r w).policy p
relations_beside w r p other =
    ap (map (certified_set w.policy)) (sym (filter_other relation_key (is_relation_of p) r w.policy.relations (ne_eqb (number_of r.procedure) (number_of p) (λ same. other (one_procedure r.procedure p same)))))

a_relation_beside : (w : WorldLists) (x : Execution) (r : Relation) → r.procedure ≢ procedure_of x.op → Agree w (with_relation r w) x
a_relation_beside w x r other = record {
  policy = record { user = refl; held = refl; relations = relations_beside w r (procedure_of x.op) other };
  release = record { row = refl; giver = λ given is. record { user = refl; held = refl } };
  slip = λ some. refl;
  slips = λ some. refl;
  views = all_from (λ item. view_of w item ≡ view_of (with_relation r w) item) (touched x.op) (λ item there. same_view w (with_relation r w) item.kind item.key refl);
  form = form_of_policy w (with_relation r w) (asker x.who) x.moment x.op refl (λ form is. refl);
}

pub agreement_is_local : AgreementIsLocal
agreement_is_local = (account_beside, a_user_beside, a_triple_beside, a_relation_beside)

-- ---- denied outside

outside : (w : WorldLists) (x : Execution) (s : Rule) → is_of_triples s ≡ true → (r : Rule) → r ≡ s → denies r w (executes x) ≡ true → IsOutside w x
outside w x s of r is denied = record { rule = s; of_triples = of; denies = subst (λ z. denies z w (executes x) ≡ true) is denied }

pub denied_is_outside : DeniedIsOutside
denied_is_outside w x r (inl is) denied = outside w x rule.NotCertified refl r is denied
denied_is_outside w x r (inr (inl is)) denied = outside w x rule.NoTriple refl r is denied
denied_is_outside w x r (inr (inr is)) denied = outside w x rule.Limit refl r is denied
