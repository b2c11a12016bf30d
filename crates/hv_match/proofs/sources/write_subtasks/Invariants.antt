use Rattle.std.proofs.Common.{◌≡◌, ◌≤◌, ◌<◌, ℕ, length, map, drop}
use Rattle.hv_world.specs.Views.{subtask_view}
use Rattle.hv_match.specs.inside.Puzzles.{first_of}
use Rattle.hv_match.specs.inside.Tables.{source_at}
use Rattle.hv_match.proofs.sources.write_subtasks.Given as goal

abbrev pub invariant-loop-number : goal.invariant-loop-number
invariant-loop-number l =
    (l.number ≤ length l.subtasks) × (length l.sources ≡ length l.fn.sources)
    × ((i : ℕ) → i < length l.fn.sources → source_at l.sources i ≡ first_of i l.number (drop l.number (map subtask_view l.subtasks)) (source_at l.fn.sources i))

abbrev pub decreases-loop-number : goal.decreases-loop-number
decreases-loop-number l = l.number
