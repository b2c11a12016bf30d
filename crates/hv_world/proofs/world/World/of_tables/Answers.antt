use Rattle.std.proofs.Common.{refl, ap, sym, subst, ◌∙◌}
use Rattle.hv_syntax.specs.DomainViews.{domain_view}
use Rattle.hv_syntax.specs.ProblemViews.{problem_view}
use Rattle.hv_world.specs.Bounds.{IsSound}
use Rattle.hv_world.specs.inside.Tables.{known_by, places_by}
use Rattle.hv_world.specs.Worlds.{World, world_by}
use Rattle.hv_world.proofs.OnceLemmas.{world_sound}
use Rattle.hv_world.proofs.BuildLemmas.{predicate_places, task_places, action_places, method_places}
use Rattle.hv_world.proofs.world.World.of_tables.Goals as goal

pub of_parts-requires-clause-sound : goal.of_parts-requires-clause-sound
of_parts-requires-clause-sound c =
    let d = domain_view c.args.domain.now in
    let p = problem_view c.args.problem.now in
    subst IsSound (sym (c.in_ok-parts.ensures ∙ ap (λ k. world_by k d p) c.requires.known)) (world_sound d p c.requires.sound)

pub of_parts-requires-clause-predicates : goal.of_parts-requires-clause-predicates
of_parts-requires-clause-predicates c n =
    predicate_places (places_by c.in_ok-places.places.predicates) n (domain_view c.args.domain.now).predicates _ c.in_ok-places.ensures.predicates (ap (λ (w : World). w.predicates) c.in_ok-parts.ensures)

pub of_parts-requires-clause-tasks : goal.of_parts-requires-clause-tasks
of_parts-requires-clause-tasks c n =
    task_places (known_by c.args.tables) (places_by c.in_ok-places.places.tasks) n _ _ _ c.in_ok-places.ensures.tasks refl (ap (λ (w : World). w.tasks) c.in_ok-parts.ensures)

pub of_parts-requires-clause-actions : goal.of_parts-requires-clause-actions
of_parts-requires-clause-actions c n =
    action_places (known_by c.args.tables) (places_by c.in_ok-places.places.actions) n _ _ _ c.in_ok-places.ensures.actions refl (ap (λ (w : World). w.actions) c.in_ok-parts.ensures)

pub of_parts-requires-clause-methods : goal.of_parts-requires-clause-methods
of_parts-requires-clause-methods c n =
    method_places (known_by c.args.tables) (places_by c.in_ok-places.places.methods) n _ _ _ c.in_ok-places.ensures.methods refl (ap (λ (w : World). w.methods) c.in_ok-parts.ensures)

pub returns : goal.returns
returns c =
    let d = domain_view c.args.domain.now in
    let p = problem_view c.args.problem.now in
    c.of_parts.ensures ∙ c.in_ok-parts.ensures ∙ ap (λ k. world_by k d p) c.requires.known
