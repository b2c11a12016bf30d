use Rattle.std.proofs.Common.{arith, sym, ◌∙◌}
use Rattle.hv_text.specs.Trees.{tree, trees}
use Rattle.hv_reading.proofs.FieldLemmas.{short_list, front_two, repeated, goes_on}
use Rattle.hv_reading.proofs.field.is_field_list.Goals as goal

pub returns : goal.returns
returns c = c.is_empty.ensures ∙ sym (short_list c.args.slots.now c.fields.rest.now (omega arith)) ∙ c.fields.invariant

pub returns-then-is_some : goal.returns-then-is_some
returns-then-is_some c =
    let front = front_two c.fields.rest.now c.key-item.result _ c.in-Word.name _ (omega arith) c.key-item.is c._value-item.is c.in-Word.is in
    sym (repeated (λ e. tree e.now) c.field.result c.args.slots.now _ _ _ _ _ (trees c.fields.rest.now) c.slot_of-slot.ensures c.field.ensures (sym c.is_in.ensures ∙ c.if-not-is_in.false) front
    (sym c.if-is_some.true ∙ c.is_some.ensures)) ∙ c.fields.invariant

pub fields-preserved : goal.fields-preserved
fields-preserved c =
    let front = front_two c.fields.rest.now c.key-item.result _ c.in-Word.name _ (omega arith) c.key-item.is c._value-item.is c.in-Word.is in
    goes_on (λ e. tree e.now) c.field.result c.args.slots.now _ _ _ _ _ (trees c.fields.rest.now) c.slot_of-slot.ensures c.field.ensures (sym c.is_in.ensures ∙ c.if-not-is_in.false) front
    (sym c.if-is_some.false ∙ c.is_some.ensures) ∙ c.fields.invariant
