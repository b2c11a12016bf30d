use Rattle.std.proofs.Common.{◌≡◌, length, map, take, option_map}
use Rattle.hv_world.specs.Alike.{class_sizes}
use Rattle.hv_world.specs.NetworkViews.{network_view}
use Rattle.hv_match.specs.inside.Tables.{work_view, AreClassRows}
use Rattle.hv_match.proofs.child_rows.rows_by_class.Given as goal

abbrev pub invariant-loop-place : goal.invariant-loop-place
invariant-loop-place l =
    (length l.rows.items ≡ length (class_sizes (network_view l.network).subtasks))
    × AreClassRows (network_view l.network).subtasks (map (option_map work_view) (take l.place l.children)) l.rows.items
