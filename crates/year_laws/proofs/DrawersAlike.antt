-- A drawer that is put on, or counted and put off, leaves both banks alike.
use Rattle.std.proofs.Common.{◌≡◌, ◌+◌, ◌+ℤ◌, None, refl, ap}
use Rattle.std.specs.Prelude.{neg_ℤ}
use Rattle.bank_books.specs.Effects.{written}
use Rattle.bank_books.specs.Records.{branch_record_of}
use Rattle.bank_books.specs.WorldLists.{WorldLists}
use Rattle.bank_books.specs.declared.row_write.RowWrite.TheVariants as write
use Rattle.bank_books.specs.declared.signature.Signature.{Signature}
use Rattle.counter_ops.specs.declared.drawer_off.DrawerOff.{DrawerOff}
use Rattle.counter_ops.specs.declared.drawer_on.DrawerOn.{DrawerOn}
use Rattle.drawers.specs.DrawerOff.{drawer_off_effect, first_against_drawer_off}
use Rattle.drawers.specs.DrawerOn.{drawer_on_effect, first_against_drawer_on}
use Rattle.drawers.specs.DrawerRows.{drawer_rows}
use Rattle.drawers.proofs.AllowedOff as off
use Rattle.drawers.proofs.AllowedOn as on
use Rattle.drawers.proofs.DrawerThere.{AreThere, are_there}
use Rattle.year_laws.specs.GoesOn.{Turn}
use Rattle.year_laws.specs.StaysAlike.{StayAlike}
use Rattle.year_laws.proofs.FoundAlike.{drawer_of, line_after, line_after_two, lines_are, same_teller}
use Rattle.year_laws.proofs.LinesAlike.{line_stays}
use Rattle.year_laws.proofs.NextRows.{IsNextLine}
use Rattle.year_laws.proofs.RowsAlike.{carried}

-- ---- put on

given_next : (w : WorldLists) (form : DrawerOn) (by : Signature) (there : AreThere w form.teller form.branch) → IsNextLine w.tellers w.lines (on.given w form there by)
given_next w form by there = record { number = ap (λ n. n + 1) (lines_are w form.branch there.home there.home_is); place = λ some. absurd (some refl) }

taken_next : (w : WorldLists) (form : DrawerOn) (by : Signature) (there : AreThere w form.teller form.branch) → on.IsAllowed (drawer_rows w form.teller form.branch) form
    → IsNextLine w.tellers (written (write.Line (on.given w form there by)) w).lines (on.taken w form there by)
taken_next w form by there allowed = record {
  number = line_after (on.given w form there by) w.lines (branch_record_of w there.home).lines (lines_are w form.branch there.home there.home_is);
  place = λ some. drawer_of w form.branch form.teller there.holder there.holder_is allowed.of_branch;
}

-- ---- put off

counted_next : (w : WorldLists) (form : DrawerOff) (by : Signature) (there : AreThere w form.teller form.branch) → off.IsAllowed (drawer_rows w form.teller form.branch) form by
    → IsNextLine w.tellers w.lines (off.counted w form there by)
counted_next w form by there allowed = record {
  number = ap (λ n. n + 1) (lines_are w form.branch there.home there.home_is);
  place = λ some. drawer_of w form.branch form.teller there.holder there.holder_is allowed.of_branch;
}

emptied_next : (w : WorldLists) (form : DrawerOff) (by : Signature) (there : AreThere w form.teller form.branch) → off.IsAllowed (drawer_rows w form.teller form.branch) form by
    → IsNextLine w.tellers (written (write.Line (off.counted w form there by)) w).lines (off.emptied w form there by)
emptied_next w form by there allowed = record {
  number = line_after (off.counted w form there by) w.lines (branch_record_of w there.home).lines (lines_are w form.branch there.home there.home_is);
  place = λ some. drawer_of w form.branch form.teller there.holder there.holder_is allowed.of_branch;
}

returned_next : (w : WorldLists) (form : DrawerOff) (by : Signature) (there : AreThere w form.teller form.branch)
    → IsNextLine w.tellers (written (write.Line (off.emptied w form there by)) (written (write.Line (off.counted w form there by)) w)).lines (off.returned w form there by)
returned_next w form by there = record {
  number =
      line_after_two (off.counted w form there by) (off.emptied w form there by) w.lines (branch_record_of w there.home).lines refl (lines_are w form.branch there.home there.home_is);
  place = λ some. absurd (some refl);
}

-- ---- at both banks

module _ (t : Turn) (old new : WorldLists) (stay : StayAlike t old new) (by : Signature) where
  pub drawer_on_stays : (form : DrawerOn) → first_against_drawer_on (drawer_rows old form.teller form.branch) form ≡ None
      → first_against_drawer_on (drawer_rows new form.teller form.branch) form ≡ None → StayAlike t (drawer_on_effect old form by) (drawer_on_effect new form by)
  drawer_on_stays form old_none new_none =
      let old_allowed = on.is_allowed (drawer_rows old form.teller form.branch) form old_none in
      let new_allowed = on.is_allowed (drawer_rows new form.teller form.branch) form new_none in
      let o = are_there old form.teller form.branch old_allowed.known in
      let n = are_there new form.teller form.branch new_allowed.known in
      let first =
      line_stays t old new stay (on.given old form o by) (on.given new form n by) (record { branch = refl; place = refl; amount = refl; form = refl; user = refl }) (given_next old form by o)
      (given_next new form by n) in
      carried (StayAlike t) _ _ _ _ (on.effect_is old form o by) (on.effect_is new form n by)
      (line_stays t (written (write.Line (on.given old form o by)) old) (written (write.Line (on.given new form n by)) new) first (on.taken old form o by) (on.taken new form n by)
      (record { branch = refl; place = refl; amount = refl; form = refl; user = refl }) (taken_next old form by o old_allowed) (taken_next new form by n new_allowed))

  pub drawer_off_stays : (form : DrawerOff) → first_against_drawer_off (drawer_rows old form.teller form.branch) form by ≡ None
      → first_against_drawer_off (drawer_rows new form.teller form.branch) form by ≡ None → StayAlike t (drawer_off_effect old form by) (drawer_off_effect new form by)
  drawer_off_stays form old_none new_none =
      let old_allowed = off.is_allowed (drawer_rows old form.teller form.branch) form by old_none in
      let new_allowed = off.is_allowed (drawer_rows new form.teller form.branch) form by new_none in
      let o = are_there old form.teller form.branch old_allowed.known in
      let n = are_there new form.teller form.branch new_allowed.known in
      let teller = same_teller t old new stay.alike form.teller o.holder n.holder o.holder_is n.holder_is in
      let differs = ap (λ z. form.counted +ℤ neg_ℤ z) teller.cash in
      let first =
      line_stays t old new stay (off.counted old form o by) (off.counted new form n by) (record { branch = refl; place = refl; amount = differs; form = refl; user = refl })
      (counted_next old form by o old_allowed) (counted_next new form by n new_allowed) in
      let old_counted : WorldLists = written (write.Line (off.counted old form o by)) old in
      let new_counted : WorldLists = written (write.Line (off.counted new form n by)) new in
      let second =
      line_stays t old_counted new_counted first (off.emptied old form o by) (off.emptied new form n by) (record { branch = refl; place = refl; amount = refl; form = refl; user = refl })
      (emptied_next old form by o old_allowed) (emptied_next new form by n new_allowed) in
      carried (StayAlike t) _ _ _ _ (off.effect_is old form o by) (off.effect_is new form n by)
      (line_stays t (written (write.Line (off.emptied old form o by)) old_counted) (written (write.Line (off.emptied new form n by)) new_counted) second (off.returned old form o by) (off.returned new form n by)
      (record { branch = refl; place = refl; amount = refl; form = refl; user = refl }) (returned_next old form by o) (returned_next new form by n))
