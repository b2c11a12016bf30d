use Rattle.hv_plan.specs.LineViews.{decomposition_view, decompositions_view}
use Rattle.hv_lists.proofs.Places.{left_from}
use Rattle.hv_plan.proofs.plan.decompositions.DecompositionLinesIterIterator.next.Goals as goal

pub returns-clause-steps : goal.returns-clause-steps
returns-clause-steps c = left_from (decompositions_view c.args.self.now.lines.now) c.args.self.now.next (decomposition_view c.at-line.result) c.at-line.ensures
