use Rattle.hv_world.specs.Ranges.{range_view}
use Rattle.hv_match.proofs.Steps.{has_is}
use Rattle.hv_match.proofs.puzzle.is_in.Goals as goal

pub returns : goal.returns
returns c = has_is c.args.object (range_view c.args.range) _ c.has.ensures
