use Rattle.std.proofs.Common.{arith}
use Rattle.hv_syntax.specs.Views.{variable_view}
use Rattle.hv_world.specs.StaticRules.{types_faults}
use Rattle.hv_world.specs.Views.{type_number}
use Rattle.hv_world.specs.Worlds.{variable_type}
use Rattle.hv_world.specs.inside.Tables.{known_by}
use Rattle.hv_world.proofs.CheckedLemmas.{one_more}
use Rattle.hv_world.proofs.intern.types.checked_types.Goals as goal

pub loop-variable-preserved : goal.loop-variable-preserved
loop-variable-preserved c =
    let l = c.loop-variable in
    let a = c.args in
    let k = known_by a.tables.now in
    one_more variable_view (variable_type k) type_number (λ v. types_faults k a.side v.of) a.list.now l.variable-index c.variable-item.result l.types.value.items l.types.fault l.invariant (omega arith) c.variable-item.is c.in_ok-checked_type.ensures.value c.in_ok-checked_type.ensures.fault c.in_ok-push.ensures.value c.in_ok-push.ensures.fault
