use Rattle.hv_match.proofs.Ways.{ways_count}
use Rattle.hv_match.proofs.puzzle_laws.ways_are_counts.Goals as goal

pub returns : goal.returns
returns c = λ w m os cs p k is d. ways_count w m os cs p k (c.orders_are_ways.ensures p.subtasks) is d
