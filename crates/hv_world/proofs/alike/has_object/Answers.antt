use Rattle.std.proofs.Common.{◌≡◌, length, map, ◌∙◌, arith}
use Rattle.std.proofs.lemmas.List.{length-map}
use Rattle.std.proofs.lemmas.Bool.{le-ltb}
use Rattle.hv_world.specs.Views.{term_view}
use Rattle.hv_world.proofs.AlikeLemmas.{object_there, none_there}
use Rattle.hv_world.proofs.alike.has_object.Goals as goal

pub returns-then-position-terms : goal.returns-then-position-terms
returns-then-position-terms c = c.is_object.ensures ∙ object_there c.args.terms.now c.args.position _ c.if-position-terms.true

pub returns-else-position-terms : goal.returns-else-position-terms
returns-else-position-terms c =
    let few : length (map term_view c.args.terms.now) ≡ length c.args.terms.now = length-map c.args.terms.now term_view in
    le-ltb c.args.position (length c.args.terms.now) c.if-position-terms.false ∙ none_there (map term_view c.args.terms.now) c.args.position (omega (arith, few, c.if-position-terms.false))
