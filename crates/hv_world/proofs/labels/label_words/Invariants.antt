use Rattle.std.proofs.Common.{◌≡◌, ◌++◌, drop, map}
use Rattle.hv_syntax.specs.Views.{word_view}
use Rattle.hv_syntax.specs.NetworkViews.{subtask_view}
use Rattle.hv_world.specs.Networks.{labels}
use Rattle.hv_world.proofs.labels.label_words.Given as goal

abbrev pub invariant-loop-subtask : goal.invariant-loop-subtask
invariant-loop-subtask l = map word_view l.words.items ++ labels (map subtask_view (drop l.subtask-index l.subtasks)) ≡ labels (map subtask_view l.subtasks)
