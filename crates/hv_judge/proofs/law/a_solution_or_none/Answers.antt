use Rattle.hv_judge.proofs.LawPlans.{LawsOfPlans}
use Rattle.hv_judge.proofs.LawAnswers.{a_solution, none_solves}
use Rattle.hv_judge.proofs.law.a_solution_or_none.Goals as goal

pub returns : goal.returns
returns c =
    let laws : LawsOfPlans = record {
      one_tree = c.a_plan_has_one_tree.ensures;
      no_cause = c.a_tree_or_a_cause.ensures.no_cause;
      one_cause = c.a_tree_or_a_cause.ensures.one_cause;
      one_count = c.counts_are_one.ensures;
      certified = c.certified_plans_are_solved.ensures;
    } in
    record { solves = a_solution; fails = none_solves laws }
