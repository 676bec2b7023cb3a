-- A World stays kept over a change of the policy.
use Rattle.std.proofs.Common.{◌≡◌, ◌<◌, ◌^◌, map, not, refl, ap, subst, sym, ◌∙◌, ◌==◌, length, Contains}
use Rattle.std.specs.List.{flat_map}
use Rattle.std.proofs.lemmas.Bool.{ne_eqb}
use Rattle.keyed_rows.specs.Ordered.{add_row}
use Rattle.bank_policy.specs.PolicyKeys.{certifier_key, relation_key, relation_number, set_key, triple_key, triple_number, user_key}
use Rattle.bank_policy.specs.Policy.{PolicyLists}
use Rattle.bank_policy.specs.PolicyWrites.{in_suspension, is_triple_on, policy_written}
use Rattle.bank_policy.specs.SetRow.{SetRow}
use Rattle.bank_policy.specs.declared.policy_write.PolicyWrite.TheVariants as change
use Rattle.bank_policy.specs.declared.policy_write.Suspension.{Suspension}
use Rattle.bank_policy.specs.declared.rows.User.{User}
use Rattle.bank_books.specs.Effects.{written}
use Rattle.bank_books.specs.Records.{release_count, slip_count}
use Rattle.bank_books.specs.WorldLists.{WorldLists}
use Rattle.bank_books.specs.declared.row_write.RowWrite.TheVariants as write
use Rattle.keyed_rows.proofs.Rows.{HasRow-add_row, count_none, each_added}
use Rattle.book_kept.proofs.MemberRows.{members_added}
use Rattle.book_kept.proofs.PlainKept.{counts_after, releases_after, slips_after, users_after}
use Rattle.book_kept.proofs.RowLemmas.{IsFree-map, IsOrdered-add_row, IsOrdered-changed, IsOrdered-filter, map-add_row}
use Rattle.book_kept.specs.Changes.{add_rows, policy_sheets}
use Rattle.book_kept.specs.Keepable.{AreReleasesKeepable, IsKeepable, IsOrdered, IsPolicyKeepable, AreSlipsKeepable}
use Rattle.book_kept.specs.Kept.{IsKept}
use Rattle.book_kept.specs.Laws.{PolicyIsKept}
use Rattle.book_kept.specs.Named.{IsFree}
use Rattle.book_kept.specs.Records.{kept_user_of, member_rows, slip_count_of}
use Rattle.book_kept.specs.Sheets.{member_no, sheets_of, user_no, slip_no}

-- what is kept of the World but of its policy, with the policy in its place
with_policy : (w : WorldLists) (policy : PolicyLists) → IsKeepable w → AreReleasesKeepable policy.users w.releases → AreSlipsKeepable policy.users w.slips → IsPolicyKeepable policy → IsKeepable (record w { policy = policy })
with_policy w policy can releases slips is = record {
  branches = can.branches;
  tellers = can.tellers;
  accounts = can.accounts;
  entries = can.entries;
  lines = can.lines;
  proofs = can.proofs;
  releases = releases;
  slips = slips;
  policy = is;
}

-- ---- users

-- nobody who is not there has releases
no_releases : (w : WorldLists) (row : User) → IsKeepable w → IsFree user_key w.policy.users row.user → release_count row.user w.releases ≡ 0
no_releases w row can free = count_none (λ r. r.user == row.user) w.releases (λ r there.
    let (u, (among, is)) = can.releases.named r there in
    ne_eqb r.user row.user (λ same. free u among (is ∙ same)))

-- nor slips
no_slips : (w : WorldLists) (row : User) → IsKeepable w → IsFree user_key w.policy.users row.user → slip_count row.user w.slips ≡ 0
no_slips w row can free = count_none (λ s. s.user == row.user) w.slips (λ s there.
    let (u, (among, is)) = can.slips.named s there in
    ne_eqb s.user row.user (λ same. free u among (is ∙ same)))

user_added : (w : WorldLists) (row : User) → IsKeepable w → IsFree user_no (sheets_of w).users row.user → IsKept w (write.Policy (change.User row)) (policy_sheets (change.User row))
user_added w row can none =
    let free = IsFree-map user_no (kept_user_of w) w.policy.users row.user none in
    let was = can.policy in
    let users : map (kept_user_of w) (add_row user_key row w.policy.users) ≡ add_row user_no (record { row = row; releases = 0 }) (map (kept_user_of w) w.policy.users) =
    map-add_row user_no (kept_user_of w) row w.policy.users ∙ ap (λ n. add_row user_no (record { row = row; releases = n }) (map (kept_user_of w) w.policy.users)) (no_releases w row can free) in
    let counts : map (slip_count_of w) (add_row user_key row w.policy.users) ≡ add_row slip_no (record { user = row.user; slips = 0 }) (map (slip_count_of w) w.policy.users) =
    map-add_row slip_no (slip_count_of w) row w.policy.users ∙ ap (λ n. add_row slip_no (record { user = row.user; slips = n }) (map (slip_count_of w) w.policy.users)) (no_slips w row can free) in
    record {
      keepable =
          with_policy w (policy_written (change.User row) w.policy) can
          (record {
            ordered = can.releases.ordered;
            named = λ r there. HasRow-add_row user_key row w.policy.users r.user (can.releases.named r there);
            numbers = can.releases.numbers;
            small = can.releases.small;
          })
          (record { ordered = can.slips.ordered; named = λ s there. HasRow-add_row user_key row w.policy.users s.user (can.slips.named s there); small = can.slips.small })
          (record {
            users = IsOrdered-add_row user_key row w.policy.users was.users free;
            sets = was.sets;
            places = was.places;
            relations = was.relations;
            triples = was.triples;
            certifiers = was.certifiers;
          });
      sheets = λ i. record (sheets_of w) { users = users i; slip_counts = counts i };
    }

suspended : (w : WorldLists) (c : Suspension) → IsKeepable w → IsKept w (write.Policy (change.Suspended c)) (policy_sheets (change.Suspended c))
suspended w c can =
    let was = can.policy in
    let users = users_after w (written (write.Policy (change.Suspended c)) w) c.user (in_suspension c) refl (λ u. refl) in
    let counts = counts_after w c.user (in_suspension c) (λ u. refl) in
    record {
      keepable =
          with_policy w (policy_written (change.Suspended c) w.policy) can (releases_after c.user (in_suspension c) w.policy.users w.releases (λ u. refl) can.releases) (slips_after c.user (in_suspension c) w.policy.users w.slips (λ u. refl) can.slips) (record {
            users = IsOrdered-changed user_key c.user (in_suspension c) (λ u. refl) w.policy.users was.users;
            sets = was.sets;
            places = was.places;
            relations = was.relations;
            triples = was.triples;
            certifiers = was.certifiers;
          });
      sheets = λ i. record (sheets_of w) { users = users i; slip_counts = counts i };
    }

-- ---- the rest

set_added : (w : WorldLists) (row : SetRow) → IsKeepable w → IsFree (λ n. n) (sheets_of w).sets row.set → length row.members < 2 ^ 32 → IsKept w (write.Policy (change.Set row)) (policy_sheets (change.Set row))
set_added w row can none few =
    let was = can.policy in
    let free = IsFree-map (λ n. n) (λ s. s.set) w.policy.sets row.set none in
    let sets : map (λ s. s.set) (add_row set_key row w.policy.sets) ≡ add_row (λ n. n) row.set (map (λ s. s.set) w.policy.sets) = map-add_row (λ n. n) (λ s. s.set) row w.policy.sets in
    let members : flat_map member_rows (add_row set_key row w.policy.sets) ≡ add_rows member_no (member_rows row) (flat_map member_rows w.policy.sets) =
    members_added row w.policy.sets was.sets.in_order was.places free few in
    record {
      keepable =
          with_policy w (policy_written (change.Set row) w.policy) can can.releases can.slips (record {
            users = was.users;
            sets = IsOrdered-add_row set_key row w.policy.sets was.sets free;
            places = each_added set_key row w.policy.sets (λ s. length s.members < 2 ^ 32) few was.places;
            relations = was.relations;
            triples = was.triples;
            certifiers = was.certifiers;
          });
      sheets = λ i. record (sheets_of w) { sets = sets i; members = members i };
    }

-- rows of the policy that have no numbers beside them
others : (w : WorldLists) (policy : PolicyLists) → IsKeepable w → policy.users ≡ w.policy.users → policy.sets ≡ w.policy.sets → IsOrdered relation_key policy.relations → IsOrdered triple_key policy.triples
    → IsOrdered certifier_key policy.certifiers → IsKeepable (record w { policy = policy })
others w policy can users sets relations triples certifiers =
    let was = can.policy in
    with_policy w policy can (subst (λ rows. AreReleasesKeepable rows w.releases) (sym users) can.releases) (subst (λ rows. AreSlipsKeepable rows w.slips) (sym users) can.slips) (record {
      users = subst (IsOrdered user_key) (sym users) was.users;
      sets = subst (IsOrdered set_key) (sym sets) was.sets;
      places = subst (λ rows. (s : SetRow) → Contains rows s → length s.members < 2 ^ 32) (sym sets) was.places;
      relations = relations;
      triples = triples;
      certifiers = certifiers;
    })

pub policy_is_kept : PolicyIsKept
policy_is_kept w (change.User row) can new = user_added w row can new
policy_is_kept w (change.Set row) can new = set_added w row can new.0 new.1
policy_is_kept w (change.Relation row) can new =
    let was = can.policy in
    record { keepable = others w (policy_written (change.Relation row) w.policy) can refl refl (IsOrdered-add_row relation_key row w.policy.relations was.relations new) was.triples was.certifiers; sheets = refl }
policy_is_kept w (change.NoRelation k) can new =
    let was = can.policy in
    record {
      keepable =
          others w (policy_written (change.NoRelation k) w.policy) can refl refl (IsOrdered-filter relation_key (λ row. not (relation_key row == relation_number k.procedure k.set)) w.policy.relations was.relations)
          (IsOrdered-filter triple_key (λ row. not (is_triple_on k row)) w.policy.triples was.triples) was.certifiers;
      sheets = refl;
    }
policy_is_kept w (change.Triple row) can new =
    let was = can.policy in
    record { keepable = others w (policy_written (change.Triple row) w.policy) can refl refl was.relations (IsOrdered-add_row triple_key row w.policy.triples was.triples new) was.certifiers; sheets = refl }
policy_is_kept w (change.NoTriple k) can new =
    let was = can.policy in
    record {
      keepable =
          others w (policy_written (change.NoTriple k) w.policy) can refl refl was.relations
          (IsOrdered-filter triple_key (λ row. not (triple_key row == triple_number k.user k.procedure k.set)) w.policy.triples was.triples) was.certifiers;
      sheets = refl;
    }
policy_is_kept w (change.Certifier row) can new =
    let was = can.policy in
    record { keepable = others w (policy_written (change.Certifier row) w.policy) can refl refl was.relations was.triples (IsOrdered-add_row certifier_key row w.policy.certifiers was.certifiers new); sheets = refl }
policy_is_kept w (change.NoCertifier row) can new =
    let was = can.policy in
    record {
      keepable =
          others w (policy_written (change.NoCertifier row) w.policy) can refl refl was.relations was.triples
          (IsOrdered-filter certifier_key (λ other. not (certifier_key other == certifier_key row)) w.policy.certifiers was.certifiers);
      sheets = refl;
    }
policy_is_kept w (change.Suspended c) can new = suspended w c can
