use Rattle.hv_judge.proofs.LawTexts.{LawsOfTexts}
use Rattle.hv_judge.proofs.LawValues.{LawsOfValues, values_or_rejection, never_both, one_spelling, one_rejection}
use Rattle.hv_judge.proofs.law.values_or_a_rejection.Goals as goal

pub returns : goal.returns
returns c =
    let texts : LawsOfTexts = record {
      one_domain = c.a_text_says_one_thing.ensures.domain_text;
      no_faulty_domain = c.a_domain_or_a_fault.ensures.never_both;
      one_domain_fault = c.a_domain_or_a_fault.ensures.one;
      one_problem = c.a_text_says_one_thing.ensures.problem_text;
      no_faulty_problem = c.a_problem_or_a_fault.ensures.never_both;
      one_problem_fault = c.a_problem_or_a_fault.ensures.one;
      static = c.a_world_or_a_fault.ensures.none;
      one_plan = c.a_plan_or_a_fault.ensures.one_plan;
      no_faulty_plan = c.a_plan_or_a_fault.ensures.faultless;
      one_plan_fault = c.a_plan_or_a_fault.ensures.one_fault;
    } in
    let values : LawsOfValues = record {
      domain = c.a_domain_or_a_fault.ensures.some;
      problem = c.a_problem_or_a_fault.ensures.some;
      plan = c.a_plan_or_a_fault.ensures.some;
    } in
    record {
      some = values_or_rejection texts values;
      never_both = never_both texts;
      one_values = one_spelling texts;
      one_fault = one_rejection texts;
    }
