use Rattle.hv_world.proofs.NameLemmas.{no_places}
use Rattle.hv_world.proofs.names.Names.none.Goals as goal

pub returns : goal.returns
returns c = no_places c.with_hasher.result.entries c.with_hasher.ensures.empty
