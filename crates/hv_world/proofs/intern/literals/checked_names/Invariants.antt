use Rattle.std.proofs.Common.{[]}
use Rattle.hv_syntax.specs.Views.{constant_view as said_constant}
use Rattle.hv_world.specs.declared.fault.Side.TheVariants as sides
use Rattle.hv_world.specs.Scopes.{parameters}
use Rattle.hv_world.specs.StaticRules.{term_faults}
use Rattle.hv_world.specs.inside.Tables.{known_by}
use Rattle.hv_world.specs.Values.{object}
use Rattle.hv_world.specs.Worlds.{term_in}
use Rattle.hv_world.proofs.CheckedLemmas.{AreChecked}
use Rattle.hv_world.proofs.intern.literals.checked_names.Given as goal

abbrev pub invariant-loop-name : goal.invariant-loop-name
invariant-loop-name l = AreChecked said_constant (term_in (known_by l.tables) (parameters [])) object (term_faults (known_by l.tables) sides.Problem (parameters [])) l.names l.name-index l.objects.items l.found
