use Rattle.hv_world.proofs.world.World.is_sound.Goals as goal

pub returns : goal.returns
returns c = c.args.self.now.sound
