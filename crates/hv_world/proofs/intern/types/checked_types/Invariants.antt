use Rattle.hv_syntax.specs.Views.{variable_view}
use Rattle.hv_world.specs.StaticRules.{types_faults}
use Rattle.hv_world.specs.Views.{type_number}
use Rattle.hv_world.specs.Worlds.{variable_type}
use Rattle.hv_world.specs.inside.Tables.{known_by}
use Rattle.hv_world.proofs.CheckedLemmas.{AreChecked}
use Rattle.hv_world.proofs.intern.types.checked_types.Given as goal

abbrev pub invariant-loop-variable : goal.invariant-loop-variable
invariant-loop-variable l = AreChecked variable_view (variable_type (known_by l.tables)) type_number (λ v. types_faults (known_by l.tables) l.side v.of) l.list l.variable-index l.types.value.items l.types.fault
