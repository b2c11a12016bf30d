use Rattle.hv_world.proofs.FirstFaults.{static_unless, none_where_static, some_is_first}
use Rattle.hv_world.proofs.laws.a_world_or_a_fault.Goals as goal

pub returns-clause-none : goal.returns-clause-none
returns-clause-none c d p = (static_unless d p, none_where_static d p)

pub returns-clause-first : goal.returns-clause-first
returns-clause-first c = some_is_first
