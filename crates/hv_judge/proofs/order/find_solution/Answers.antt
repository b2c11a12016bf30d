use Rattle.std.proofs.Common.{true, subst}
use Rattle.std.proofs.lemmas.Result.{err_from_is_err_and}
use Rattle.hv_world.specs.WorldViews.{world_view}
use Rattle.hv_plan.specs.BuiltTrees.{tree_view}
use Rattle.hv_order.specs.Certified.{IsUnsolvedBy}
use Rattle.hv_order.specs.Settings.{setting}
use Rattle.hv_judge.proofs.VerdictLemmas.{no_solution}
use Rattle.hv_judge.proofs.order.find_solution.Goals as goal

-- where a certificate is asked for, and where it is not: the plan has no solution, or memory was refused
pub returns-in_err-certificate-clause-err : goal.returns-in_err-certificate-clause-err
returns-in_err-certificate-clause-err c =
    let t = tree_view c.args.tree.now in
    let why = c.in_err-certificate.field-0.0 in
    let p = err_from_is_err_and c.from_residual.result c.from_residual.ensures.1 in
    rw (p.1, p.2)
    (no_solution (world_view c.args.world.now) t why
    (subst (λ r. IsUnsolvedBy (setting t r true) why) c.requires.trace
    c.in_err-certificate.ensures.unsolved))

pub returns-in_err-has_solution-clause-err : goal.returns-in_err-has_solution-clause-err
returns-in_err-has_solution-clause-err c =
    let t = tree_view c.args.tree.now in
    let why = c.in_err-has_solution.field-0.0 in
    let p = err_from_is_err_and c.from_residual-in_err-has_solution.result c.from_residual-in_err-has_solution.ensures.1 in
    rw (p.1, p.2)
    (no_solution (world_view c.args.world.now) t why
    (subst (λ r. IsUnsolvedBy (setting t r true) why) c.requires.trace
    c.in_err-has_solution.ensures.unsolved))
