use Rattle.std.proofs.Common.{refl, sym, subst}
use Rattle.hv_syntax.specs.DomainViews.{domain_view}
use Rattle.hv_syntax.specs.ProblemViews.{problem_view}
use Rattle.hv_judge.specs.Rejections.{reported}
use Rattle.hv_judge.specs.inside.Ends.{IsPairEnd}
use Rattle.hv_judge.proofs.JudgementLemmas.{no_domain, no_problem, no_world}
use Rattle.hv_judge.proofs.judgement.read_world.Goals as goal

pub returns-in-Err-clause-err : goal.returns-in-Err-clause-err
returns-in-Err-clause-err c =
    let fault = c.in-Err.fault in
    subst (IsPairEnd c.args.domain.now c.args.problem.now) (sym c.not_read.ensures)
    (no_domain c.args.domain.now c.args.problem.now fault.kind fault.span (reported fault.kind) refl
    c.in-Err.ensures.err)

pub returns-in-Err-read_problem-clause-err : goal.returns-in-Err-read_problem-clause-err
returns-in-Err-read_problem-clause-err c =
    let fault = c.in-Err-read_problem.fault in
    subst (IsPairEnd c.args.domain.now c.args.problem.now)
    (sym c.not_read-in-Err-read_problem.ensures)
    (no_problem c.args.domain.now c.args.problem.now (domain_view c.in-Ok.text) fault.kind
    fault.span (reported fault.kind) refl c.in-Ok.ensures.ok c.in-Err-read_problem.ensures.err)

pub returns-clause-err : goal.returns-clause-err
returns-clause-err c =
    subst (IsPairEnd c.args.domain.now c.args.problem.now) (sym c.not_built.ensures)
    (no_world c.args.domain.now c.args.problem.now (domain_view c.in-Ok.text)
    (problem_view c.in-Ok-read_problem.text) c.in-Err-build.fault c.in-Ok.ensures.ok
    c.in-Ok-read_problem.ensures.ok c.in-Err-build.ensures.err)
