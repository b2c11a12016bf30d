use Rattle.std.proofs.Common.{◌≡◌, drop, map}
use Rattle.std.specs.Ordering.{nat_cmp}
use Rattle.std.specs.Cmp.Lexicographic.{slice_cmp}
use Rattle.hv_world.specs.Views.{term_view}
use Rattle.hv_world.specs.Bindings.{objects_in, object_of}
use Rattle.hv_state.proofs.rows.compare_to_terms.Given as goal

-- what is left decides
abbrev pub invariant-loop-object : goal.invariant-loop-object
invariant-loop-object l =
    slice_cmp nat_cmp (drop l.object-index l.objects) (map (object_of (objects_in l.binding)) (map term_view l.left)) ≡ slice_cmp nat_cmp l.objects (map (object_of (objects_in l.binding)) (map term_view l.terms))
