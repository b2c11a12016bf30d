use Rattle.std.proofs.Common.{◌≡◌, Some, refl, sym, ◌∙◌}
use Rattle.hv_text.specs.Names.{text_of}
use Rattle.hv_world.specs.WorldViews.{world_view}
use Rattle.hv_world.specs.Worlds.{task_names}
use Rattle.hv_world.specs.Names.{place_in}
use Rattle.hv_world.proofs.world.World.task_like.Goals as goal

pub returns : goal.returns
returns c =
    let w = world_view c.args.self.now in
    let n = text_of c.args.name in
    let place : place_in (task_names w.tasks) n ≡ Some c.in-Some-place_at.place = sym (c.args.self.now.of_tasks n) ∙ c.in-Some-place_at.ensures in
    rw place refl
