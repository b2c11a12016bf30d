use Rattle.std.proofs.Common.{◌≡◌, ℕ, ◌&&◌, not, map, take, length}
use Rattle.hv_world.specs.Alike.{has_variable}
use Rattle.hv_world.specs.inside.Kept.{is_marked}
use Rattle.hv_world.specs.Views.{term_view}
use Rattle.hv_world.proofs.alike.unmark.Given as goal

abbrev pub invariant-loop-term : goal.invariant-loop-term
invariant-loop-term l =
    (length l.marks ≡ length l.initial.marks)
    × ((k : ℕ) → is_marked l.marks k ≡ is_marked l.initial.marks k && not (has_variable k (map term_view (take l.term-index l.terms))))
