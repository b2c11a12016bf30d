use Rattle.hv_lists.proofs.Places.{left_from}
use Rattle.hv_world.specs.FactViews.{fact_view, facts_view}
use Rattle.hv_world.proofs.facts.FactsLeftIterator.next.Goals as goal

pub returns-clause-steps : goal.returns-clause-steps
returns-clause-steps c = left_from (facts_view c.args.self.now.facts.now) c.args.self.now.next (fact_view c.at-fact.result) c.at-fact.ensures
