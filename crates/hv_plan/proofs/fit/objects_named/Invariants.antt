use Rattle.std.proofs.Common.{◌≡◌, drop, map}
use Rattle.hv_text.specs.Names.{text_of}
use Rattle.hv_world.specs.Bindings.{object_number}
use Rattle.hv_world.specs.Names.{place_in}
use Rattle.hv_world.specs.WorldViews.{world_view}
use Rattle.hv_plan.specs.Forms.{every, behind}
use Rattle.hv_plan.proofs.fit.objects_named.Given as goal

-- the objects so far and those of the names that are left are those of all names
abbrev pub invariant-loop-name : goal.invariant-loop-name
invariant-loop-name l =
    behind (map object_number l.objects.items) (every (place_in (world_view l.world).objects) (map text_of (drop l.name-index l.names)))
    ≡ every (place_in (world_view l.world).objects) (map text_of l.names)
