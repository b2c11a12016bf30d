use Rattle.hv_judge.proofs.LawPlans.{LawsOfPlans}
use Rattle.hv_judge.proofs.LawTexts.{LawsOfTexts}
use Rattle.hv_judge.proofs.LawAnswers.{one_verdict, one_answer, of_answer}
use Rattle.hv_judge.proofs.law.one_answer.Goals as goal

pub returns : goal.returns
returns c =
    let laws : LawsOfPlans = record {
      one_tree = c.a_plan_has_one_tree.ensures;
      no_cause = c.a_tree_or_a_cause.ensures.no_cause;
      one_cause = c.a_tree_or_a_cause.ensures.one_cause;
      one_count = c.counts_are_one.ensures;
      certified = c.certified_plans_are_solved.ensures;
    } in
    let texts : LawsOfTexts = record {
      one_domain = c.a_text_says_one_thing.ensures.domain_text;
      no_faulty_domain = c.a_domain_or_a_fault.ensures.never_both;
      one_domain_fault = c.a_domain_or_a_fault.ensures.one;
      one_problem = c.a_text_says_one_thing.ensures.problem_text;
      no_faulty_problem = c.a_problem_or_a_fault.ensures.never_both;
      one_problem_fault = c.a_problem_or_a_fault.ensures.one;
      static = c.a_world_or_a_fault.ensures.none;
      one_plan = c.a_plan_or_a_fault.ensures.one_plan;
      no_faulty_plan = c.a_plan_or_a_fault.ensures.faultless;
      one_plan_fault = c.a_plan_or_a_fault.ensures.one_fault;
    } in
    record { verdict = one_verdict laws texts; answer = one_answer laws texts; of_answer = of_answer }
