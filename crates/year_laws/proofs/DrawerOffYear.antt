-- A drawer that is put off at the bank that goes on and at the next year's.
use Rattle.std.proofs.Common.{None, Option, Some, [], ap, ap₂, not, refl, ℤ, ◌≡◌}
use Rattle.std.specs.Option.{option_map_or}
use Rattle.std.specs.Prelude.{option_and_then, option_map}
use Rattle.bank_books.specs.Records.{teller_record}
use Rattle.bank_books.specs.WorldLists.{WorldLists}
use Rattle.bank_books.specs.declared.records.TellerRecord.{TellerRecord}
use Rattle.bank_books.specs.declared.signature.Signature.{Signature}
use Rattle.counter_ops.specs.declared.drawer_off.DrawerOff.{DrawerOff}
use Rattle.counter_ops.specs.declared.op.Op.TheVariants as op
use Rattle.drawers.specs.DrawerOff.{drawer_off_tests, put_off}
use Rattle.drawers.specs.DrawerRows.{drawer_rows}
use Rattle.bank_meaning.specs.DrawerOff.{put_off_text}
use Rattle.bank_meaning.specs.Meaning.{ReplyText, json}
use Rattle.bank_meaning.specs.Operations.{meaning_of}
use Rattle.year_laws.specs.GoesOn.{AreBoth, GoesOn, IsSameTeller, Turn, op_at_old}
use Rattle.year_laws.specs.RepliedAlike.{IsRepliedAlike}
use Rattle.year_laws.proofs.DrawersAlike.{drawer_off_stays}
use Rattle.year_laws.proofs.IsYearForm.{IsYearForm}
use Rattle.year_laws.proofs.TestParts.{AreTestsAlike, anew, held_by, no_drawer, of_branch, vaults}

-- what is replied, by the drawer and the vault
put_off_same : (form : DrawerOff) (a b : Option TellerRecord) (v u : Option ℤ) → AreBoth IsSameTeller a b → v ≡ u
    → option_and_then (λ x. option_map (λ vault. put_off form x vault) v) a ≡ option_and_then (λ x. option_map (λ vault. put_off form x vault) u) b
put_off_same form None None v u same is = refl
put_off_same form (Some a) (Some b) v u same is =
    ap₂ (λ z w. option_map (λ vault. put_off form (record a { cash = z }) vault) w) same.cash is
put_off_same form None (Some b) v u same is = absurd same
put_off_same form (Some a) None v u same is = absurd same

module _ (t : Turn) (old new : WorldLists) (on : GoesOn t old new) where
  drawer_off_alike : (form : DrawerOff) (by : Signature) → AreTestsAlike (drawer_off_tests (drawer_rows old form.teller form.branch) form by) (drawer_off_tests (drawer_rows new form.teller form.branch) form by)
  drawer_off_alike form by = (
    refl,
    (λ z. no_drawer on form.teller form.branch),
    (
      refl,
      (λ z. ap not (of_branch on form.teller form.branch)),
      (
        refl,
        (λ z. ap not (held_by on form.teller by.user)),
        (
          refl,
          (λ z. anew _ _ z),
          (
            refl,
            (λ z. anew _ _ z),
            tt,
          ),
        ),
      ),
    ),
  )

  drawer_off_replied : (form : DrawerOff) (by : Signature) → IsRepliedAlike t (op.DrawerOff form) (meaning_of (op_at_old t (op.DrawerOff form)) by old).reply (meaning_of (op.DrawerOff form) by new).reply
  drawer_off_replied form by =
      ap (λ o. json (option_map_or put_off_text o [])) (put_off_same form (teller_record old form.teller) (teller_record new form.teller) _ _ (on.tellers form.teller) (vaults on form.branch))

pub drawer_off_in_years : (form : DrawerOff) → IsYearForm (op.DrawerOff form)
drawer_off_in_years form = record {
  tests = λ t old new on names by. drawer_off_alike t old new on form by;
  replies = λ t old new on names by. drawer_off_replied t old new on form by;
  kept = λ t a b replied. ap (λ (r : ReplyText). json r.bytes) replied;
  stays = λ t old new stay names by old_none new_none. drawer_off_stays t old new stay by form old_none new_none;
}
