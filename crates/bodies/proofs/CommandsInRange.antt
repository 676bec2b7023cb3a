-- That the members of a command that a body states lie in their ranges, form by form.
use Rattle.std.proofs.Common.{refl, ◌≡◌, ◌≤◌, ◌&&◌, ℕ, Bool, true, false, cond, All, List, [], ◌∷◌, length, Option, Some, None, IfSome, option_and_then, unsigned_abs, codes, arith}
use Rattle.std.specs.Prelude.{◌==◌, ◌≤ℤ◌, nat_le, pos}
use Rattle.std.proofs.lemmas.Bool.{and_parts, leb-true}
use Rattle.std.proofs.lemmas.List.Elements.{All-cons, All-nil}
use Rattle.std.proofs.lemmas.Option.{IfSome_then}
use Rattle.serde_json.specs.Data.{Data, Items, item, no_items}
use Rattle.serde_json.specs.Events.{items_len}
use Rattle.serde_json.specs.Find.{as_array, as_bool, as_i64, as_number, as_str, get, get_item}
use Rattle.bank_terms.specs.Limits.{max_key, max_limit, max_moment, max_user}
use Rattle.bank_terms.specs.declared.procedure.Procedure.{Procedure}
use Rattle.bank_policy.specs.declared.rows.Member.{Member}
use Rattle.policy_check.specs.Soundness.{IsMemberSound, IsName, IsNumber, IsSetSound}
use Rattle.policy_commands.specs.Ranges.{IsCertifierRow, IsEnrolment, IsPolicyOp, IsRelationKey, IsTriple, IsTripleKey, IsUserKey, IsUserNumber}
use Rattle.policy_commands.specs.declared.command.Command.{Command}
use Rattle.policy_commands.specs.declared.command.Command.TheVariants as command
use Rattle.policy_commands.specs.declared.policy_op.PolicyOp.TheVariants as asked
use Rattle.bodies.specs.Body.{has_members, key_member, natural_member, value_of, within}
use Rattle.bodies.specs.Certifier.{certifier_of}
use Rattle.bodies.specs.Command.{policy_op_of}
use Rattle.bodies.specs.Enrolment.{enrolment_of, is_name, is_printable, name_of}
use Rattle.bodies.specs.ItemSet.{has_set_length, item_set_of}
use Rattle.bodies.specs.Laws.{CommandsAreInRange}
use Rattle.bodies.specs.Member.{interval_of, key_of, kind_numbered, member_of, members_of}
use Rattle.bodies.specs.Named.{procedure_member, user_member}
use Rattle.bodies.specs.Relation.{relation_of}
use Rattle.bodies.specs.Triple.{timed_triple, triple_during, triple_of}
use Rattle.bodies.specs.TripleKey.{triple_key_of}
use Rattle.bodies.specs.UserKey.{user_key_of}
use Rattle.bodies.proofs.InRange.{key_in_range, mapped, natural_from, natural_in_range, next, passed, whatever, within_range}

user : {B : Type 0} (value : Data) (f : ℕ → Option B) (Q : B → Type 0) → ((n : ℕ) → IsUserNumber n → IfSome (f n) Q) → IfSome (option_and_then f (user_member value)) Q
user value f Q more = next (user_member value) f IsUserNumber Q (natural_in_range (codes "user") 1 max_user value) more

procedure : {B : Type 0} (value : Data) (f : Procedure → Option B) (Q : B → Type 0) → ((p : Procedure) → IfSome (f p) Q) → IfSome (option_and_then f (procedure_member value)) Q
procedure value f Q more = whatever (procedure_member value) f Q more

set : {B : Type 0} (value : Data) (f : ℕ → Option B) (Q : B → Type 0) → ((n : ℕ) → IsNumber n → IfSome (f n) Q) → IfSome (option_and_then f (key_member (codes "set") value)) Q
set value f Q more = next (key_member (codes "set") value) f IsNumber Q (key_in_range (codes "set") value) more

-- ---- keys

relation_in_range : (value : Data) → IfSome (relation_of value) IsRelationKey
relation_in_range value = passed (has_members 2 value) _ IsRelationKey (λ is. procedure value _ IsRelationKey (λ p. set value _ IsRelationKey (λ n in_set. in_set)))

triple_key_in_range : (value : Data) → IfSome (triple_key_of value) IsTripleKey
triple_key_in_range value =
    passed (has_members 3 value) _ IsTripleKey (λ is. user value _ IsTripleKey (λ u in_user. procedure value _ IsTripleKey (λ p. set value _ IsTripleKey (λ n in_set. record { user = in_user; set = in_set }))))

certifier_in_range : (value : Data) → IfSome (certifier_of value) IsCertifierRow
certifier_in_range value = passed (has_members 2 value) _ IsCertifierRow (λ is. user value _ IsCertifierRow (λ u in_user. procedure value _ IsCertifierRow (λ p. in_user)))

user_key_in_range : (value : Data) → IfSome (user_key_of value) IsUserKey
user_key_in_range value = passed (has_members 1 value) _ IsUserKey (λ is. user value _ IsUserKey (λ u in_user. in_user))

-- ---- triples

during : (first last : ℕ) (value : Data) → first ≤ last → last ≤ max_moment → IfSome (triple_during first last value) IsTriple
during first last value ordered in_time =
    user value _ IsTriple (λ u in_user.
    procedure value _ IsTriple (λ p.
    set value _ IsTriple (λ n in_set.
    next (natural_member (codes "limit") 0 max_limit value) _ (λ limit. (0 ≤ limit) × (limit ≤ max_limit)) IsTriple (natural_in_range (codes "limit") 0 max_limit value) (λ limit in_limit.
    record { user = in_user; set = in_set; limit = in_limit.1; moments = record { ordered = ordered; within = in_time } }))))

timed_in_range : (value : Data) → IfSome (timed_triple value) IsTriple
timed_in_range value =
    whatever (natural_member (codes "first") 0 max_moment value) _ IsTriple (λ first.
    next (natural_member (codes "last") 0 max_moment value) _ (λ last. (0 ≤ last) × (last ≤ max_moment)) IsTriple (natural_in_range (codes "last") 0 max_moment value) (λ last in_last.
    passed (nat_le first last) _ IsTriple (λ ordered. during first last value (leb-true first last ordered) in_last.1)))

triple_in_range : (value : Data) → IfSome (triple_of value) IsTriple
triple_in_range value = go (has_members 4 value)
  where
    go : (four : Bool) → IfSome (cond four (triple_during 0 max_moment value) (cond (has_members 6 value) (timed_triple value) None)) IsTriple
    go true = during 0 max_moment value (omega arith) (omega arith)
    go false = passed (has_members 6 value) _ IsTriple (λ is. timed_in_range value)

-- ---- names

printable : (text : List ℕ) → is_printable text ≡ true → All (λ byte. (32 ≤ byte) × (byte ≤ 126)) text
printable [] is = All-nil (λ byte. (32 ≤ byte) × (byte ≤ 126))
printable (byte ∷ text) is =
    let parts = and_parts (nat_le 32 byte && nat_le byte 126) (is_printable text) is in
    let here = and_parts (nat_le 32 byte) (nat_le byte 126) parts.0 in
    All-cons (λ byte. (32 ≤ byte) × (byte ≤ 126)) byte text (leb-true 32 byte here.0, leb-true byte 126 here.1) (printable text parts.1)

name_in_range : (text : List ℕ) → IfSome (name_of text) IsName
name_in_range text =
    passed (is_name text) (Some text) IsName (λ is.
    let parts = and_parts (nat_le 1 (length text) && nat_le (length text) 20) (is_printable text) is in
    let long = and_parts (nat_le 1 (length text)) (nat_le (length text) 20) parts.0 in
    record { some = leb-true 1 (length text) long.0; short = leb-true (length text) 20 long.1; printable = printable text parts.1 })

enrolment_in_range : (value : Data) → IfSome (enrolment_of value) IsEnrolment
enrolment_in_range value =
    passed (has_members 3 value) _ IsEnrolment (λ is.
    user value _ IsEnrolment (λ u in_user.
    next (option_and_then name_of (option_and_then as_str (get (codes "name") value))) _ IsName IsEnrolment
    (whatever (option_and_then as_str (get (codes "name") value)) name_of IsName name_in_range) (λ name in_name.
    whatever (option_and_then as_bool (get (codes "officer") value)) _ IsEnrolment (λ officer.
    record { user = in_user; name = in_name }))))

-- ---- sets

key_stated : (value : Data) → IfSome (key_of value) IsNumber
key_stated value =
    mapped (option_and_then (within (pos 1) (pos max_key)) (option_and_then as_i64 (as_number value))) unsigned_abs (λ z. (pos 1 ≤ℤ z) × (z ≤ℤ pos max_key)) IsNumber
    (whatever (option_and_then as_i64 (as_number value)) (within (pos 1) (pos max_key)) (λ z. (pos 1 ≤ℤ z) × (z ≤ℤ pos max_key)) (within_range (pos 1) (pos max_key)))
    (natural_from 1 max_key)

interval_in_range : (items : Items) → IfSome (interval_of items) IsMemberSound
interval_in_range items =
    passed (items_len items == 3) _ IsMemberSound (λ is.
    whatever (option_and_then kind_numbered (option_and_then as_i64 (option_and_then as_number (get_item 0 items)))) _ IsMemberSound (λ kind.
    next (option_and_then key_of (get_item 1 items)) _ IsNumber IsMemberSound (whatever (get_item 1 items) key_of IsNumber key_stated) (λ low in_low.
    next (option_and_then key_of (get_item 2 items)) _ IsNumber IsMemberSound (whatever (get_item 2 items) key_of IsNumber key_stated) (λ high in_high.
    passed (nat_le low high) _ IsMemberSound (λ ordered.
    record { low = in_low.0; ordered = leb-true low high ordered; high = in_high.1 })))))

member_in_range : (value : Data) → IfSome (member_of value) IsMemberSound
member_in_range value = whatever (as_array value) interval_of IsMemberSound interval_in_range

-- each is sound, and they are as many as the items
abbrev AreSound : ℕ → List Member → Type 0
AreSound count found = All IsMemberSound found × (length found ≡ count)

members_in_range : (items : Items) → IfSome (members_of items) (AreSound (items_len items))
members_in_range no_items = (All-nil IsMemberSound, refl)
members_in_range (item value rest) =
    next (member_of value) _ IsMemberSound (AreSound (items_len (item value rest))) (member_in_range value) (λ first sound.
    mapped (members_of rest) (λ others. first ∷ others) (AreSound (items_len rest)) (AreSound (items_len (item value rest))) (members_in_range rest) (λ others is.
    (All-cons IsMemberSound first others sound is.0, omega (arith, is.1))))

item_set_in_range : (value : Data) → IfSome (item_set_of value) IsSetSound
item_set_in_range value =
    passed (has_members 2 value) _ IsSetSound (λ is.
    set value _ IsSetSound (λ n in_set.
    whatever (option_and_then as_array (get (codes "members") value)) _ IsSetSound (λ items.
    next (cond (has_set_length items) (members_of items) None) _ (IsInSet items) IsSetSound (fits items) (λ members sound.
    record { number = in_set; some = sound.1.0; few = sound.1.1; members = sound.0 }))))
  where
    IsInSet : Items → List Member → Type 0
    IsInSet items found = All IsMemberSound found × ((1 ≤ length found) × (length found ≤ 32))

    fits : (items : Items) → IfSome (cond (has_set_length items) (members_of items) None) (IsInSet items)
    fits items =
        passed (has_set_length items) (members_of items) (IsInSet items) (λ is.
        let long = and_parts (nat_le 1 (items_len items)) (nat_le (items_len items) 32) is in
        let low = leb-true 1 (items_len items) long.0 in
        let high = leb-true (items_len items) 32 long.1 in
        IfSome_then (members_of items) (members_in_range items) (λ found (sound : AreSound (items_len items) found). (sound.0, (omega (arith, sound.1), omega (arith, sound.1)))))

-- ---- all of them

by_command : (chosen : Command) (value : Data) → IfSome (policy_op_of chosen value) IsPolicyOp
by_command command.DefineSet value = mapped (item_set_of value) asked.DefineSet IsSetSound IsPolicyOp (item_set_in_range value) (λ x is. is)
by_command command.Certify value = mapped (relation_of value) asked.Certify IsRelationKey IsPolicyOp (relation_in_range value) (λ x is. is)
by_command command.Withdraw value = mapped (relation_of value) asked.Withdraw IsRelationKey IsPolicyOp (relation_in_range value) (λ x is. is)
by_command command.Grant value = mapped (triple_of value) asked.Grant IsTriple IsPolicyOp (triple_in_range value) (λ x is. is)
by_command command.Revoke value = mapped (triple_key_of value) asked.Revoke IsTripleKey IsPolicyOp (triple_key_in_range value) (λ x is. is)
by_command command.Appoint value = mapped (certifier_of value) asked.Appoint IsCertifierRow IsPolicyOp (certifier_in_range value) (λ x is. is)
by_command command.Dismiss value = mapped (certifier_of value) asked.Dismiss IsCertifierRow IsPolicyOp (certifier_in_range value) (λ x is. is)
by_command command.Enrol value = mapped (enrolment_of value) asked.Enrol IsEnrolment IsPolicyOp (enrolment_in_range value) (λ x is. is)
by_command command.Suspend value = mapped (user_key_of value) asked.Suspend IsUserKey IsPolicyOp (user_key_in_range value) (λ x is. is)
by_command command.Restore value = mapped (user_key_of value) asked.Restore IsUserKey IsPolicyOp (user_key_in_range value) (λ x is. is)

pub commands_in_range : CommandsAreInRange
commands_in_range chosen body = whatever (value_of body) (policy_op_of chosen) IsPolicyOp (by_command chosen)
