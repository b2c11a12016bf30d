use Rattle.hv_world.proofs.AlikeLaws.{each_counted, sizes_right, classes_once}
use Rattle.hv_world.proofs.alike.classes_are_counted.Goals as goal

pub returns-clause-each : goal.returns-clause-each
returns-clause-each c = each_counted

pub returns-clause-sizes : goal.returns-clause-sizes
returns-clause-sizes c = sizes_right

pub returns-clause-once : goal.returns-clause-once
returns-clause-once c = classes_once
