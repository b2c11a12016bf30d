use Rattle.std.proofs.Common.{◌++◌, ap, ◌∙◌}
use Rattle.hv_plan.specs.LineViews.{plan_view}
use Rattle.hv_plan.specs.Canonical.{plan_text}
use Rattle.hv_answer.specs.declared.answer.Which.TheVariants as texts
use Rattle.hv_judge.specs.Prints.{IsPrint, IsDone, IsPlanRejection}
use Rattle.hv_judge.proofs.PrintingLemmas.{printed_plan, rejected_plan}
use Rattle.hv_judge.proofs.RunLemmas.{wrote_as}
use Rattle.hv_judge.proofs.printing.print_plan_text.Goals as goal

pub returns-in_ok-print_plan-in-Ok-clause-wrote : goal.returns-in_ok-print_plan-in-Ok-clause-wrote
returns-in_ok-print_plan-in-Ok-clause-wrote g c =
    wrote_as (IsDone c.deref.result.now) (IsPrint c.args.text.now texts.Plan) g.W.Sink.taken _ _ c.write_canonical.result
    (printed_plan c.args.text.now c.deref.result.now (plan_view c.in-Ok.plan) c.in-Ok.ensures.ok
    (c.deref.ensures.value ∙ (c.in_ok-print_plan-in-Ok.ensures.ok ∙ ap (λ xs. xs ++ plan_text (plan_view c.in-Ok.plan)) c.new-bytes.ensures.items)))
    c.write_canonical.ensures.wrote

pub returns-in-Err-clause-wrote : goal.returns-in-Err-clause-wrote
returns-in-Err-clause-wrote g c =
    wrote_as (IsPlanRejection c.in-Err.fault) (IsPrint c.args.text.now texts.Plan) g.W.Sink.taken _ _ c.reject_plan.result
    (rejected_plan c.args.text.now c.in-Err.fault c.in-Err.ensures.err) c.reject_plan.ensures.wrote
