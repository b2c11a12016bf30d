use Rattle.hv_world.specs.Alike.{keys}
use Rattle.hv_match.proofs.Factors.{orders_rising}
use Rattle.hv_match.proofs.puzzle_laws.orders_are_ways.Goals as goal

pub returns : goal.returns
returns c = λ ss. orders_rising (keys ss) (c.classes_are_counted.ensures.each (keys ss)) (c.classes_are_counted.ensures.sizes (keys ss)) (c.classes_are_counted.ensures.once (keys ss))
