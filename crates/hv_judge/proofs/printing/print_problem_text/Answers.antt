use Rattle.std.proofs.Common.{◌++◌, ap, ◌∙◌}
use Rattle.hv_syntax.specs.ProblemViews.{problem_view}
use Rattle.hv_reading.specs.CanonicalSections.{canonical_problem}
use Rattle.hv_answer.specs.declared.answer.Which.TheVariants as texts
use Rattle.hv_judge.specs.Prints.{IsPrint, IsDone, IsTextRejection}
use Rattle.hv_judge.proofs.PrintingLemmas.{printed_problem, rejected_problem}
use Rattle.hv_judge.proofs.RunLemmas.{wrote_as}
use Rattle.hv_judge.proofs.printing.print_problem_text.Goals as goal

pub returns-in_ok-print_problem-in-Ok-clause-wrote : goal.returns-in_ok-print_problem-in-Ok-clause-wrote
returns-in_ok-print_problem-in-Ok-clause-wrote g c =
    wrote_as (IsDone c.deref.result.now) (IsPrint c.args.text.now texts.Problem) g.W.Sink.taken _ _ c.write_canonical.result
    (printed_problem c.args.text.now c.deref.result.now (problem_view c.in-Ok.problem) c.in-Ok.ensures.ok
    (c.deref.ensures.value ∙ (c.in_ok-print_problem-in-Ok.ensures.ok ∙ ap (λ xs. xs ++ canonical_problem (problem_view c.in-Ok.problem)) c.new-bytes.ensures.items)))
    c.write_canonical.ensures.wrote

pub returns-in-Err-clause-wrote : goal.returns-in-Err-clause-wrote
returns-in-Err-clause-wrote g c =
    wrote_as (IsTextRejection texts.Problem c.args.text.now c.in-Err.fault) (IsPrint c.args.text.now texts.Problem) g.W.Sink.taken _ _ c.reject_text.result
    (rejected_problem c.args.text.now c.in-Err.fault c.in-Err.ensures.err) c.reject_text.ensures.wrote
