use Rattle.hv_reading.proofs.VariableLemmas.{they_are_some}
use Rattle.hv_reading.proofs.variable.read_some_names.Goals as goal

pub returns-in-len1-up : goal.returns-in-len1-up
returns-in-len1-up c = rw (they_are_some c.args.es.now c.in-len1-up.len_at_least) c.read_names.ensures
