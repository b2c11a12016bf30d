use Rattle.std.proofs.Common.{map, ◌∙◌}
use Rattle.hv_syntax.specs.Views.{variable_view}
use Rattle.hv_world.specs.declared.fault.StaticKind.TheVariants as kinds
use Rattle.hv_world.specs.Names.{repeated}
use Rattle.hv_world.specs.Known.{typed_words}
use Rattle.hv_world.specs.Faults.{faults_at}
use Rattle.hv_world.specs.StaticRules.{variable_types_faults}
use Rattle.hv_world.specs.inside.Tables.{known_by}
use Rattle.hv_world.proofs.FaultLemmas.{least-both}
use Rattle.hv_world.proofs.intern.types.checked_parameters.Goals as goal

pub returns-clause-fault : goal.returns-clause-fault
returns-clause-fault c =
    let a = c.args in
    let list = map variable_view a.list.now in
    c.earlier.ensures
    ∙ least-both (variable_types_faults (known_by a.tables.now) a.side list) (faults_at kinds.DuplicateVariable a.side (repeated (typed_words list))) _ _ c.in_ok-types.ensures.fault
    c.repeated_parameter-repeated.ensures
