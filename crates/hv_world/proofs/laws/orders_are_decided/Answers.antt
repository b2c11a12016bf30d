use Rattle.hv_world.proofs.CycleLemmas.{before_is_decided}
use Rattle.hv_world.proofs.laws.orders_are_decided.Goals as goal

pub returns : goal.returns
returns c n sound = before_is_decided n sound.pairs
