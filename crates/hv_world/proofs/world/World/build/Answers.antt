use Rattle.std.proofs.Common.{◌≡◌, Some, inl, sym, subst, ◌∙◌}
use Rattle.std.specs.Prelude.{MatchOption}
use Rattle.std.proofs.lemmas.Result.{err_from_is_err_and}
use Rattle.hv_syntax.specs.DomainViews.{domain_view}
use Rattle.hv_syntax.specs.ProblemViews.{problem_view}
use Rattle.hv_world.specs.Bounds.{IsBound}
use Rattle.hv_world.specs.inside.Numbered.{IsOfProblem}
use Rattle.hv_world.specs.inside.Tables.{known_by}
use Rattle.hv_world.specs.StaticRules.{IsStatic, first_fault}
use Rattle.hv_world.proofs.BoundWorlds.{world_bound}
use Rattle.hv_world.proofs.world.World.build.Goals as goal

pub returns-in_err-fault-clause-err : goal.returns-in_err-fault-clause-err
returns-in_err-fault-clause-err c =
    let r = c.from_residual-in_err-fault in
    let p = err_from_is_err_and r.result r.ensures.1 in
    rw p.1 (inl p.2)

pub returns-in_err-numbered-clause-err : goal.returns-in_err-numbered-clause-err
returns-in_err-numbered-clause-err c =
    let r = c.from_residual-in_err-numbered in
    let p = err_from_is_err_and r.result r.ensures.1 in
    rw p.1 (inl p.2)

pub returns-clause-bound : goal.returns-clause-bound
returns-clause-bound c =
    let d = domain_view c.args.domain.now in
    let p = problem_view c.args.problem.now in
    let sound : IsStatic d p = subst (λ o. MatchOption o (IsStatic d p) (λ f. first_fault d p ≡ Some f)) c.in-None.is c.in_ok-fault.ensures in
    subst IsBound (sym c.in_ok-of_tables-in-None.ensures) (world_bound d p sound)

pub of_tables-requires-clause-problem : goal.of_tables-requires-clause-problem
of_tables-requires-clause-problem c =
    let p = problem_view c.args.problem.now in
    let t : c.deref.result.now ≡ c.into_inner-tables.result = c.deref.ensures ∙ sym c.into_inner-tables.ensures in
    let n : c.in_ok-of-2.field-0 ≡ c.into_inner-numbered.result = sym (c.into_inner-numbered.ensures ∙ c.in_ok-numbered.ensures.ok) in
    subst (λ t. IsOfProblem (known_by t) p c.into_inner-numbered.result) t (subst (λ n. IsOfProblem (known_by c.deref.result.now) p n) n c.in_ok-of-2.ensures.problem)
