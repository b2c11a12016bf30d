use Rattle.hv_text.proofs.RunLemmas.{what_stands}
use Rattle.hv_text.proofs.laws.words_are_maximal_runs.Goals as goal

pub returns : goal.returns
returns c = what_stands c.args.text.now
