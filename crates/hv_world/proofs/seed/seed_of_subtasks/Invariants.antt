use Rattle.std.proofs.Common.{◌≡◌, drop, fold, map}
use Rattle.std.specs.List.{flat_map}
use Rattle.std.specs.Hash.DefaultHasher as sip
use Rattle.hv_text.specs.Seeds.{start_of}
use Rattle.hv_world.specs.inside.Seeds.{subtask_writes}
use Rattle.hv_world.specs.Views.{subtask_view}
use Rattle.hv_world.proofs.seed.seed_of_subtasks.Given as goal

abbrev pub invariant-loop-subtask : goal.invariant-loop-subtask
invariant-loop-subtask l =
    fold sip.write (start_of l.seed) (flat_map subtask_writes (map subtask_view (drop l.subtask-index l.subtasks)))
    ≡ fold sip.write sip.initial (flat_map subtask_writes (map subtask_view l.subtasks))
