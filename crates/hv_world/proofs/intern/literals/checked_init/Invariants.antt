use Rattle.std.proofs.Common.{◌≡◌, ◌++◌, [], length}
use Rattle.hv_syntax.specs.ProblemViews.{init_view as said_init, literals_left}
use Rattle.hv_world.specs.declared.fault.Side.TheVariants as sides
use Rattle.hv_world.specs.Faults.{earlier, least}
use Rattle.hv_world.specs.Scopes.{parameters}
use Rattle.hv_world.specs.StaticRules.{literals_faults}
use Rattle.hv_world.specs.inside.Tables.{known_by}
use Rattle.hv_world.specs.FactViews.{facts_view}
use Rattle.hv_world.specs.Worlds.{added}
use Rattle.hv_world.proofs.intern.literals.checked_init.Given as goal

abbrev pub invariant-all : goal.invariant-all
invariant-all l =
    (facts_view l.facts ++ added (known_by l.tables) (parameters []) (literals_left l.literals) ≡ added (known_by l.tables) (parameters []) (said_init l.init))
    × (earlier l.found (least (literals_faults (known_by l.tables) sides.Problem (parameters []) (literals_left l.literals)))
    ≡ least (literals_faults (known_by l.tables) sides.Problem (parameters []) (said_init l.init)))

abbrev pub decreases-all : goal.decreases-all
decreases-all l = length (literals_left l.literals)
