-- A drawer that is put on at the bank that goes on and at the next year's.
use Rattle.std.proofs.Common.{None, Option, Some, [], ap, ap₂, not, refl, ℤ, ◌+ℤ◌, ◌≡◌}
use Rattle.std.specs.Option.{option_map_or}
use Rattle.std.specs.Prelude.{option_and_then, option_map}
use Rattle.bank_books.specs.Records.{teller_record}
use Rattle.bank_books.specs.WorldLists.{WorldLists}
use Rattle.bank_books.specs.declared.records.TellerRecord.{TellerRecord}
use Rattle.bank_books.specs.declared.signature.Signature.{Signature}
use Rattle.counter_ops.specs.declared.drawer_on.DrawerOn.{DrawerOn}
use Rattle.counter_ops.specs.declared.op.Op.TheVariants as op
use Rattle.rule_tests.specs.Rules.{vault_covers}
use Rattle.drawers.specs.DrawerOn.{drawer_on_tests, from_vault, into_drawer, put_on}
use Rattle.drawers.specs.DrawerRows.{drawer_rows}
use Rattle.bank_meaning.specs.DrawerOn.{put_on_text}
use Rattle.bank_meaning.specs.Meaning.{ReplyText, json}
use Rattle.bank_meaning.specs.Operations.{meaning_of}
use Rattle.year_laws.specs.GoesOn.{AreBoth, GoesOn, IsSameTeller, Turn, op_at_old}
use Rattle.year_laws.specs.RepliedAlike.{IsRepliedAlike}
use Rattle.year_laws.proofs.AlikeRows.{held_same}
use Rattle.year_laws.proofs.DrawersAlike.{drawer_on_stays}
use Rattle.year_laws.proofs.IsYearForm.{IsYearForm}
use Rattle.year_laws.proofs.TestParts.{AreTestsAlike, anew, no_drawer, of_branch, vaults}

-- what is replied, by the drawer and the vault
put_on_same : (form : DrawerOn) (a b : Option TellerRecord) (v u : Option ℤ) → AreBoth IsSameTeller a b → v ≡ u
    → option_and_then (λ x. option_map (λ vault. put_on form x vault) v) a ≡ option_and_then (λ x. option_map (λ vault. put_on form x vault) u) b
put_on_same form None None v u same is = refl
put_on_same form (Some a) (Some b) v u same is =
    ap₂ (λ z w. option_map (λ vault. record { cash = z +ℤ into_drawer form; teller = form.teller; vault = vault +ℤ from_vault form }) w) same.cash is
put_on_same form None (Some b) v u same is = absurd same
put_on_same form (Some a) None v u same is = absurd same

module _ (t : Turn) (old new : WorldLists) (on : GoesOn t old new) where
  drawer_on_alike : (form : DrawerOn) → AreTestsAlike (drawer_on_tests (drawer_rows old form.teller form.branch) form) (drawer_on_tests (drawer_rows new form.teller form.branch) form)
  drawer_on_alike form = (
    refl,
    (λ z. no_drawer on form.teller form.branch),
    (
      refl,
      (λ z. ap not (of_branch on form.teller form.branch)),
      (
        refl,
        (λ z. held_same (teller_record old form.teller) (teller_record new form.teller) (on.tellers form.teller)),
        (
          refl,
          (λ z. ap (λ v. not (vault_covers v (from_vault form))) (vaults on form.branch)),
          (
            refl,
            (λ z. anew _ _ z),
            (
              refl,
              (λ z. anew _ _ z),
              tt,
            ),
          ),
        ),
      ),
    ),
  )

  drawer_on_replied : (form : DrawerOn) (by : Signature) → IsRepliedAlike t (op.DrawerOn form) (meaning_of (op_at_old t (op.DrawerOn form)) by old).reply (meaning_of (op.DrawerOn form) by new).reply
  drawer_on_replied form by =
      ap (λ o. json (option_map_or put_on_text o [])) (put_on_same form (teller_record old form.teller) (teller_record new form.teller) _ _ (on.tellers form.teller) (vaults on form.branch))

pub drawer_on_in_years : (form : DrawerOn) → IsYearForm (op.DrawerOn form)
drawer_on_in_years form = record {
  tests = λ t old new on names by. drawer_on_alike t old new on form;
  replies = λ t old new on names by. drawer_on_replied t old new on form by;
  kept = λ t a b replied. ap (λ (r : ReplyText). json r.bytes) replied;
  stays = λ t old new stay names by old_none new_none. drawer_on_stays t old new stay by form old_none new_none;
}
