use Rattle.hv_world.proofs.PlaceLemmas.{by_place_members, by_place_order}
use Rattle.hv_world.proofs.laws.declarations_go_by_place.Goals as goal

pub returns-clause-members : goal.returns-clause-members
returns-clause-members c = by_place_members

pub returns-clause-order : goal.returns-clause-order
returns-clause-order c = by_place_order
