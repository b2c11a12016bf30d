use Rattle.std.proofs.Common.{arith, sym, ◌∙◌}
use Rattle.hv_reading.proofs.FieldLemmas.{short_field}
use Rattle.hv_reading.proofs.field.field.Goals as goal

pub returns : goal.returns
returns c = sym (short_field c.args.slot c.fields.rest.now (omega arith)) ∙ c.fields.invariant
