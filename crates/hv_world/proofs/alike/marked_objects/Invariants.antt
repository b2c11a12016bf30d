use Rattle.std.proofs.Common.{◌≡◌, ◌++◌, map, drop}
use Rattle.hv_world.specs.Alike.{fixed_objects}
use Rattle.hv_world.specs.inside.Kept.{is_marked}
use Rattle.hv_world.specs.Views.{term_view}
use Rattle.hv_world.proofs.alike.marked_objects.Given as goal

abbrev pub invariant-loop-position : goal.invariant-loop-position
invariant-loop-position l =
    l.objects.items ++ fixed_objects (is_marked l.marks) l.position (map term_view (drop l.position l.terms)) ≡ fixed_objects (is_marked l.marks) 0 (map term_view l.terms)
