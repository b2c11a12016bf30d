use Rattle.std.proofs.Common.{◌≡◌, length, ap, ◌∙◌, arith}
use Rattle.std.specs.Prelude.{option_map}
use Rattle.std.proofs.lemmas.List.{length-map}
use Rattle.std.proofs.lemmas.Option.{slice_get-map}
use Rattle.hv_world.specs.FactViews.{atom_over, facts_view}
use Rattle.hv_world.proofs.facts.Facts.at.Goals as goal

pub at-predicate-requires : goal.at-predicate-requires
at-predicate-requires c =
    let many : length (facts_view c.args.self.now) ≡ length c.args.self.now.facts = length-map c.args.self.now.facts atom_over in
    omega (arith, many, c.requires)

pub returns : goal.returns
returns c =
    slice_get-map atom_over c.args.self.now.facts c.args.place
    ∙ ap (λ o. option_map atom_over o) c.at-predicate.ensures
