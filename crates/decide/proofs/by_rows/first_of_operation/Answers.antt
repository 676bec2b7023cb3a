use Rattle.std.proofs.Common.{◌≡◌, ◌==◌, ◌&&◌, true, false, not, is_none, ap, sym, ◌∙◌}
use Rattle.std.specs.Prelude.{nat_le}
use Rattle.std.specs.Option.{option_map_or}
use Rattle.bank_terms.specs.Limits.{max_slips}
use Rattle.counter_ops.specs.Rows.{row_of}
use Rattle.bank_meaning.specs.NamedRelease.{is_same_operation}
use Rattle.bank_meaning.specs.Slips.{has_no_room, is_of_another, slip_grounds, slip_named}
use Rattle.decide.proofs.SlipVerdict.{first_full, first_same}
use Rattle.decide.proofs.by_rows.first_of_operation.Goals as goal

pub returns-in-Some : goal.returns-in-Some
returns-in-Some c =
    λ w loaded.
    let x = c.args.execution.now in
    let other : is_of_another (slip_grounds w x) ≡ false =
    ap (λ o. option_map_or (λ s. not (is_same_operation s.operation (row_of x.op))) o false) (sym loaded.slip) ∙ sym c.is_of_another.ensures ∙ c.if-is_of_another.false in
    sym (first_same w x c.in-Some.rule other (sym (c.first_without_slip.ensures w loaded) ∙ c.in-Some.is))

pub returns-in-None : goal.returns-in-None
returns-in-None c =
    λ w loaded.
    let x = c.args.execution.now in
    let other : is_of_another (slip_grounds w x) ≡ false =
    ap (λ o. option_map_or (λ s. not (is_same_operation s.operation (row_of x.op))) o false) (sym loaded.slip) ∙ sym c.is_of_another.ensures ∙ c.if-is_of_another.false in
    let full : has_no_room (slip_grounds w x) ≡ true =
    ap (λ o. not (slip_named x == 0) && (is_none o && nat_le max_slips (slip_grounds w x).count)) (sym loaded.slip)
    ∙ ap (λ n. not (slip_named x == 0) && (is_none c.args.rows.now.slip.found && nat_le max_slips n)) (sym loaded.slips)
    ∙ sym c.has_no_room.ensures ∙ c.if-has_no_room.true in
    sym (first_full w x other full (sym (c.first_without_slip.ensures w loaded) ∙ c.in-None.is))
