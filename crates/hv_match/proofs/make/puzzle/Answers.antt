use Rattle.std.proofs.Common.{sym, subst}
use Rattle.hv_world.specs.NetworkViews.{network_view}
use Rattle.hv_match.specs.inside.Tables.{ArePlaces}
use Rattle.hv_match.proofs.make.puzzle.Goals as goal

pub invariant_of-result-clause-placed : goal.invariant_of-result-clause-placed
invariant_of-result-clause-placed c =
    subst (λ ss. ArePlaces ss c.in_ok-children.children.items c.in_ok-places.places) (sym c.args.table.now.listed)
    (subst (λ cs. ArePlaces (network_view c.args.table.now.network.now).subtasks cs c.in_ok-places.places) c.deref.ensures.value c.in_ok-places.ensures)
