use Rattle.std.proofs.Common.{refl}
use Rattle.hv_plan.specs.Forms.{is_digits}
use Rattle.hv_plan.proofs.Lemmas.{id_there, id_missing}
use Rattle.hv_plan.proofs.id.read_id.Goals as goal

pub returns-in-Some : goal.returns-in-Some
returns-in-Some c =
    rw (← c.written-digits.ensures)
    (id_there c.written-digits.result.now c.in-Some.id c.in-Some.ensures.0 c.in-Some.ensures.1)

pub returns-in-None : goal.returns-in-None
returns-in-None c =
    rw (← c.written-digits.ensures)
    (id_missing c.written-digits.result.now c.without_value.result (is_digits c.written-digits.result.now) refl
    c.without_value.ensures c.in-None.ensures)
