use Rattle.std.proofs.Common.{◌≡◌, ◌++◌, map, drop}
use Rattle.hv_world.specs.Alike.{fixed_objects}
use Rattle.hv_world.specs.Bindings.{object_number}
use Rattle.hv_world.specs.Values.{object}
use Rattle.hv_world.specs.inside.Kept.{is_marked}
use Rattle.hv_world.proofs.alike.marked_ids.Given as goal

abbrev pub invariant-loop-position : goal.invariant-loop-position
invariant-loop-position l =
    l.objects.items ++ fixed_objects (is_marked l.marks) l.position (map object (map object_number (drop l.position l.ids))) ≡ fixed_objects (is_marked l.marks) 0 (map object (map object_number l.ids))
