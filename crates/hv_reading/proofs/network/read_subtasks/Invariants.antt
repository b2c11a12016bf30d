use Rattle.std.proofs.Common.{◌≡◌, drop, map}
use Rattle.hv_text.specs.Trees.{trees}
use Rattle.hv_reading.specs.inside.Reading.{every, behind}
use Rattle.hv_reading.specs.inside.Networks.{subtask_of}
use Rattle.hv_syntax.specs.NetworkViews.{subtask_view}
use Rattle.hv_reading.proofs.network.read_subtasks.Given as goal

abbrev pub invariant-loop-e : goal.invariant-loop-e
invariant-loop-e l = behind (map subtask_view l.subtasks.items) (every subtask_of (trees (drop l.e-index l.es))) ≡ every subtask_of (trees l.es)
