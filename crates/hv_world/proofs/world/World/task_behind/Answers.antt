use Rattle.std.proofs.Common.{◌≡◌, Some, sym, ◌∙◌}
use Rattle.hv_text.specs.Names.{text_of}
use Rattle.hv_world.specs.WorldViews.{world_view}
use Rattle.hv_world.specs.Worlds.{action_names}
use Rattle.hv_world.specs.Names.{place_in}
use Rattle.hv_world.proofs.OnceLemmas.{action_named}
use Rattle.hv_world.proofs.world.World.task_behind.Goals as goal

pub returns : goal.returns
returns c =
    let w = world_view c.args.self.now in
    let n = text_of c.args.name in
    let place : place_in (action_names w.actions) n ≡ Some c.in-Some-near.place = sym (c.args.self.now.of_actions n) ∙ c.in-Some-near.ensures in
    sym (action_named w c.args.self.now.sound.named.tasks n c.in-Some-near.place place)
