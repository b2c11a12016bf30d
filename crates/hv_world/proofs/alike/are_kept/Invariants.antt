use Rattle.std.proofs.Common.{◌≡◌, map, drop}
use Rattle.hv_world.specs.inside.Kept.{kept_marks}
use Rattle.hv_world.specs.Views.{term_view}
use Rattle.hv_world.proofs.alike.are_kept.Given as goal

-- all marks are kept if those are that are left
abbrev pub invariant-loop-position : goal.invariant-loop-position
invariant-loop-position l =
    kept_marks (map term_view l.terms) l.position (drop l.position l.marks) ≡ drop l.position l.marks
    → kept_marks (map term_view l.terms) 0 l.marks ≡ l.marks
