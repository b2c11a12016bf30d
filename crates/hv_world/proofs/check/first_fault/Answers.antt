use Rattle.std.proofs.Common.{sym}
use Rattle.hv_syntax.specs.DomainViews.{domain_view}
use Rattle.hv_syntax.specs.ProblemViews.{problem_view}
use Rattle.hv_world.specs.inside.Tables.{known_by}
use Rattle.hv_world.proofs.FirstFaults.{first_in_domain, first_in_problem, said}
use Rattle.hv_world.proofs.check.first_fault.Goals as goal

pub returns-in-Some : goal.returns-in-Some
returns-in-Some c =
    sym
    (first_in_domain (domain_view c.args.domain.now) (problem_view c.args.problem.now) (known_by c.args.tables.now) c.requires.known c.in_ok-fault.field-0 c.in-Some.fault c.in_ok-fault.ensures c.in-Some.is)

pub returns : goal.returns
returns c =
    let domain = domain_view c.args.domain.now in
    let problem = problem_view c.args.problem.now in
    said domain problem c.problem_fault.result
    (first_in_problem domain problem (known_by c.args.tables.now) c.requires.known c.in_ok-fault.field-0 c.problem_fault.result c.in_ok-fault.ensures c.in_default.is c.problem_fault.ensures)
