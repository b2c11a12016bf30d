use Rattle.std.proofs.Common.{◌≡◌, None, Some, map, sym}
use Rattle.hv_text.specs.Names.{text_of}
use Rattle.hv_world.specs.Bindings.{object_number}
use Rattle.hv_world.specs.Names.{place_in}
use Rattle.hv_world.specs.WorldViews.{world_view}
use Rattle.hv_plan.specs.Forms.{every}
use Rattle.hv_plan.specs.inside.LineFaults.{unknown, objects}
use Rattle.hv_plan.proofs.FitLemmas.{every_some, every_none}
use Rattle.hv_plan.proofs.fit.fit_arguments.Goals as goal

pub returns-in_default : goal.returns-in_default
returns-in_default c =
    let none : every (place_in (world_view c.args.world.now).objects) (map text_of c.args.arguments.now) ≡ None = sym (rw c.in_default.is at c.in_ok-objects.ensures) in
    let (n, in', is) = every_none (place_in (world_view c.args.world.now).objects) (map text_of c.args.arguments.now) none in
    unknown n in' is

pub returns-in-Some-objects_fault : goal.returns-in-Some-objects_fault
returns-in-Some-objects_fault c =
    let found : every (place_in (world_view c.args.world.now).objects) (map text_of c.args.arguments.now) ≡ Some (map object_number c.in-Some.objects.items) = sym (rw c.in-Some.is at c.in_ok-objects.ensures) in
    objects (map object_number c.in-Some.objects.items) c.in-Some-objects_fault.kind
    (every_some (place_in (world_view c.args.world.now).objects) (map text_of c.args.arguments.now) (map object_number c.in-Some.objects.items) found)
    (rw c.deref.ensures.value at c.in-Some-objects_fault.ensures)

pub returns-in-None : goal.returns-in-None
returns-in-None c =
    let found : every (place_in (world_view c.args.world.now).objects) (map text_of c.args.arguments.now) ≡ Some (map object_number c.in-Some.objects.items) = sym (rw c.in-Some.is at c.in_ok-objects.ensures) in
    record {
      known = every_some (place_in (world_view c.args.world.now).objects) (map text_of c.args.arguments.now) (map object_number c.in-Some.objects.items) found;
      typed = rw c.deref.ensures.value at c.in-None.ensures;
    }
