use Rattle.std.proofs.Common.{◌≡◌, None, refl, ap, sym, subst, ◌∙◌}
use Rattle.std.specs.Prelude.{MatchOption, ◌≢◌}
use Rattle.std.specs.List.{flat_map}
use Rattle.hv_syntax.specs.DomainViews.{domain_view}
use Rattle.hv_syntax.specs.ProblemViews.{problem_view}
use Rattle.hv_world.specs.declared.build.Parts.{Parts}
use Rattle.hv_world.specs.declared.build.Start.{Start}
use Rattle.hv_world.specs.declared.fault.Side.TheVariants as sides
use Rattle.hv_world.specs.Faults.{least}
use Rattle.hv_world.specs.MethodViews.{method_view}
use Rattle.hv_world.specs.StaticRules.{method_faults, htn_faults}
use Rattle.hv_world.specs.inside.Parts.{world_of_parts}
use Rattle.hv_world.specs.inside.Tables.{known_by}
use Rattle.hv_world.specs.Types.{IsInRange}
use Rattle.hv_world.specs.Worlds.{typing_by, world_by, top_in}
use Rattle.hv_world.proofs.BuildLemmas.{world_is}
use Rattle.hv_world.proofs.StaticLemmas.{methods_sound, top_sound, typing_in_range}
use Rattle.hv_world.proofs.build.parts_in.Goals as goal

pub kinds_in-requires : goal.kinds_in-requires
kinds_in-requires c =
    let d = domain_view c.args.domain.now in
    let p = problem_view c.args.problem.now in
    subst (λ k. IsInRange (typing_by k d p)) (sym c.requires.known) (typing_in_range d p c.requires.sound)

pub unreachable-requires : goal.unreachable-requires
unreachable-requires c =
    let d = domain_view c.args.domain.now in
    let p = problem_view c.args.problem.now in
    let k = known_by c.args.tables.now in
    let top = c.args.numbered.top in
    let none : top.fault ≡ None = c.requires.problem.top_fault ∙ ap least (ap (λ x. htn_faults x sides.Problem p.htn) c.requires.known ∙ top_sound d p c.requires.sound) in
    subst (λ o. MatchOption o (top.fault ≢ None) (λ m. method_view m ≡ top_in k p.htn)) c.in_default.is c.requires.problem.top none

pub returns : goal.returns
returns c =
    let d = domain_view c.args.domain.now in
    let p = problem_view c.args.problem.now in
    let k = known_by c.args.tables.now in
    let numbered = c.args.numbered in
    let start : Start = record { init = numbered.init.value; goal = numbered.goal.value; top = c.in-Some.top } in
    let made : Parts = record { kinds = c.in_ok-kinds.kinds; tasks = numbered.tasks.value; methods = numbered.methods.value; actions = numbered.actions.value; start = start } in
    let sound : numbered.methods.fault ≡ None =
    c.requires.domain.methods_fault ∙ ap least (ap (λ x. flat_map (method_faults x sides.Domain) d.methods) c.requires.known ∙ methods_sound d p c.requires.sound) in
    let top : method_view c.in-Some.top ≡ top_in k p.htn =
    subst (λ o. MatchOption o (numbered.top.fault ≢ None) (λ m. method_view m ≡ top_in k p.htn)) c.in-Some.is c.requires.problem.top in
    world_is (world_of_parts c.args.tables.now made) (world_by k d p) refl refl c.in_ok-kinds.ensures.typing c.in_ok-kinds.ensures.predicates
    c.requires.domain.tasks (c.requires.domain.methods sound) c.requires.domain.actions c.requires.problem.init
    c.requires.problem.goal top
