use Rattle.std.proofs.Common.{◌≡◌, ◌≤◌, ◌<◌, ℕ, length, map, drop}
use Rattle.hv_world.specs.Views.{term_view}
use Rattle.hv_match.specs.inside.Puzzles.{first_in}
use Rattle.hv_match.specs.inside.Tables.{source_at}
use Rattle.hv_match.proofs.sources.write_terms.Given as goal

abbrev pub invariant-loop-position : goal.invariant-loop-position
invariant-loop-position l =
    (l.position ≤ length l.terms) × (length l.sources ≡ length l.fn.sources)
    × ((i : ℕ) → i < length l.fn.sources → source_at l.sources i ≡ first_in l.subtask i l.position (drop l.position (map term_view l.terms)) (source_at l.fn.sources i))

abbrev pub decreases-loop-position : goal.decreases-loop-position
decreases-loop-position l = l.position
