use Rattle.std.proofs.Common.{ap}
use Rattle.hv_world.specs.Worlds.{number_of_type}
use Rattle.hv_world.proofs.UnionLemmas.{either_is_union}
use Rattle.hv_world.proofs.laws.eithers_are_unions.Goals as goal

pub returns-clause-named : goal.returns-clause-named
returns-clause-named c d p static v m some o = either_is_union d p static v m some o

pub returns-clause-none : goal.returns-clause-none
returns-clause-none c k v e = ap (number_of_type k) e
