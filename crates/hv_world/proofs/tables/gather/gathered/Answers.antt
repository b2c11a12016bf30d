use Rattle.std.proofs.Common.{[], map, subst}
use Rattle.hv_syntax.specs.DomainViews.{domain_view}
use Rattle.hv_syntax.specs.ProblemViews.{problem_view}
use Rattle.hv_world.specs.Eithers.{domain_variables, problem_variables}
use Rattle.hv_world.specs.inside.Tables.{names_in}
use Rattle.hv_world.specs.inside.Gathers.{lists_in, AreGathered}
use Rattle.hv_world.proofs.GatherLemmas.{gathered_both}
use Rattle.hv_world.proofs.tables.gather.gathered.Goals as goal

pub returns : goal.returns
returns c =
    let d = domain_variables (domain_view c.args.domain.now) in
    let p = problem_variables (problem_view c.args.problem.now) in
    let b = lists_in c.add_domain.new.lists in
    gathered_both [] b (lists_in c.add_problem.new.lists) d p (subst (λ xs. AreGathered (map names_in xs) d b) c.new-lists.ensures.items c.in_ok-add_domain.ensures) c.in_ok-add_problem.ensures
