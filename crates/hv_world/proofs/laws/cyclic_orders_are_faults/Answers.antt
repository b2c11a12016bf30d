use Rattle.hv_world.proofs.StaticLemmas.{cyclic_at_fault, acyclic_sound}
use Rattle.hv_world.proofs.laws.cyclic_orders_are_faults.Goals as goal

pub returns-clause-cyclic : goal.returns-clause-cyclic
returns-clause-cyclic c k s place n none cycle = cyclic_at_fault k s place n none cycle

pub returns-clause-acyclic : goal.returns-clause-acyclic
returns-clause-acyclic c k s place n none acyclic = acyclic_sound k s place n none acyclic
