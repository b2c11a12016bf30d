use Rattle.std.proofs.Common.{subst}
use Rattle.hv_world.specs.Ranges.{IsRange, range_view}
use Rattle.hv_world.specs.Types.{typing}
use Rattle.hv_world.specs.inside.Layouts.{Keeps}
use Rattle.hv_world.proofs.types.Types.range_of.Goals as goal

pub returns-in-Nested : goal.returns-in-Nested
returns-in-Nested c =
    let inside = c.self.inside in
    let w = typing inside.types inside.objects inside.parents.items inside.declared.items in
    subst (λ v. IsRange v (range_view c.range_of.result) c.args.of.0) c.self.view_is (c.range_of.ensures w (subst (Keeps w) c.in-Nested.is c.self.invariant))

pub returns-in-Listed : goal.returns-in-Listed
returns-in-Listed c =
    let inside = c.self.inside in
    let w = typing inside.types inside.objects inside.parents.items inside.declared.items in
    subst (λ v. IsRange v (range_view c.range_of-in-Listed.result) c.args.of.0) c.self.view_is (c.range_of-in-Listed.ensures w (subst (Keeps w) c.in-Listed.is c.self.invariant))
