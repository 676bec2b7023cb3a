use Rattle.std.proofs.Common.{◌≡◌, ◌∙◌, ◌∷◌, [], ◌++◌, Some, ap, sym, map, take}
use Rattle.std.proofs.lemmas.List.{map-append}
use Rattle.csv.specs.Records.{field_at, fields_of}
use Rattle.list_records.proofs.Fields.{take-field, take-fields}
use Rattle.list_records.proofs.records.fields_of.Goals as goal

pub loop-field-preserved : goal.loop-field-preserved
loop-field-preserved c =
    let inv = c.loop-field.invariant in
    let stated = rw c.in-Some.is at c.next.ensures.steps in
    let pushed = c.in_ok-push.ensures.items in
    let found : Some c.in-Some.field.now ≡ field_at (fields_of c.args.row.now) c.loop-field.field-iterator.at = stated.1 ∙ ap (λ r. field_at (fields_of r) c.loop-field.field-iterator.at) inv.same in
    record {
      same = ap (λ r. r.now) stated.0 ∙ inv.same;
      front = ap (map (λ f. f.now)) pushed ∙ map-append (λ f. f.now) c.loop-field.fields.items (c.in-Some.field ∷ []) ∙ ap (λ l. l ++ c.in-Some.field.now ∷ []) inv.front
          ∙ sym (take-field (fields_of c.args.row.now) c.loop-field.field-iterator.at c.in-Some.field.now found) ∙ ap (λ n. take n (fields_of c.args.row.now)) (sym stated.2);
    }

pub returns : goal.returns
returns c =
    let inv = c.loop-field.invariant in
    let stated = rw c.in-None.is at c.next.ensures.steps in
    inv.front ∙ take-fields (fields_of c.args.row.now) c.loop-field.field-iterator.at (stated.1 ∙ ap (λ r. field_at (fields_of r) c.loop-field.field-iterator.at) inv.same)
