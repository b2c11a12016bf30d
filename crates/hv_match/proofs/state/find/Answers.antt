use Rattle.hv_match.proofs.Told.{told_once}
use Rattle.hv_match.proofs.state.find.Goals as goal

pub is_good-requires-clause-once : goal.is_good-requires-clause-once
is_good-requires-clause-once g c = rw c.deref.ensures.value (told_once c.loop-at.at.made_at.items _ c.loop-at.invariant.0.told)
