use Rattle.hv_match.proofs.Whole.{at_most_count}
use Rattle.hv_match.proofs.puzzle_laws.ways_are_enough.Goals as goal

pub returns : goal.returns
returns c = λ p rows once good right. at_most_count p (λ s g m. c.instances_keep_their_key.ensures p.subtasks s g m) rows once good right
