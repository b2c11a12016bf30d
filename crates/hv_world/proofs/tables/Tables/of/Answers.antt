use Rattle.std.proofs.Common.{◌++◌, length, map, ap, ◌∙◌}
use Rattle.hv_text.specs.Names.{text_of}
use Rattle.hv_syntax.specs.DomainViews.{domain_view}
use Rattle.hv_syntax.specs.ProblemViews.{problem_view}
use Rattle.hv_world.specs.Names.{names, place_in, by_sight}
use Rattle.hv_world.specs.Known.{variables, predicate_words}
use Rattle.hv_world.specs.inside.Tables.{names_in, places_by, declaration_view}
use Rattle.hv_world.proofs.TableLemmas.{known_is}
use Rattle.hv_world.proofs.tables.Tables.of.Goals as goal

pub returns-clause-known : goal.returns-clause-known
returns-clause-known c =
    let domain = domain_view c.args.domain.now in
    let problem = problem_view c.args.problem.now in
    let predicates = c.in_ok-predicates.predicates in
    let tasks = c.in_ok-tasks.tasks in
    known_is domain problem (map text_of c.in_ok-types.types.names.keys) (map text_of c.in_ok-objects.objects.keys) (map names_in c.in_ok-types.types.eithers.keys) predicates.arities.items (map declaration_view tasks.list.items)
    (places_by predicates.places) (places_by tasks.places)
    c.in_ok-types.ensures.names
    c.in_ok-types.ensures.eithers
    (c.in_ok-objects.ensures.keys ∙ (λ i. by_sight (variables (c.constants.ensures i ++ c.objects.ensures i))))
    (c.in_ok-predicates.ensures.places ∙ ap (λ ps. place_in (names (predicate_words ps))) c.predicates.ensures)
    (c.in_ok-predicates.ensures.arities ∙ ap (λ ps. map (λ p. length p.parameters) ps) c.predicates.ensures)
    c.in_ok-tasks.ensures.list
    c.in_ok-tasks.ensures.places

pub returns-clause-places : goal.returns-clause-places
returns-clause-places c =
    record {
      predicates = c.in_ok-predicates.ensures.places ∙ ap (λ ps. place_in (names (predicate_words ps))) c.predicates.ensures;
      list = c.in_ok-tasks.ensures.list;
      tasks = c.in_ok-tasks.ensures.places;
    }
