-- Where the actions and the nodes of a plan come from.
use Rattle.hv_plan.specs.Values.{Action, Decomposition}
use Rattle.hv_plan.specs.declared.origin.Origin.{Origin}

-- the line of an action
abbrev pub origin_of_action : Action → Origin
origin_of_action a = record { id = a.id; line = a.line }

-- the line of a node other than that of the root line
abbrev pub origin_of_line : Decomposition → Origin
origin_of_line d = record { id = d.id; line = d.line }
